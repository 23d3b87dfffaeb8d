pub mod Calls
pub mod Lent
pub mod Props
pub mod Theorems
