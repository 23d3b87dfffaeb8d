pub mod Histories
pub mod Runs
pub mod Theorems
pub mod Lists
