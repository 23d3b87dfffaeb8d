pub mod Worlds
pub mod WorldBooks
pub mod Theorems
pub mod Common
pub mod Holding
