pub mod Stable
pub mod Turning
pub mod Stepping
pub mod Deciding
pub mod Listing
