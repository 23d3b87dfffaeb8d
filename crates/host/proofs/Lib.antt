pub mod Outcomes
pub mod Deciding
pub mod Listing
