pub mod Growth
pub mod Denials
pub mod Kept
pub mod Calls
pub mod Rounding
pub mod Judging
pub mod Models
