pub mod Sets
pub mod Words
pub mod Joins
pub mod MarkSets
pub mod Overlaps
pub mod Refusals
pub mod Sentences
