pub mod Bits
pub mod Sets
pub mod Sizes
pub mod Words
pub mod Overlaps
pub mod Joins
