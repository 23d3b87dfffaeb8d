pub mod Widths
pub mod Cases
pub mod Steps
pub mod Looks
pub mod Theorems
