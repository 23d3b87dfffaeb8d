pub mod Closing
pub mod Denials
pub mod Bars
pub mod BarredBooks
pub mod Theorems
pub mod Denying
