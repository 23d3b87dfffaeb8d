pub mod Lines
pub mod LineBooks
pub mod Theorems
pub mod Growing
pub mod Giving
pub mod Seeing
