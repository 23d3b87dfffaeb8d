pub mod Host
pub mod Refused
pub mod Steps
pub mod Decides
