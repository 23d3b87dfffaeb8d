pub mod Answering
pub mod Counting
