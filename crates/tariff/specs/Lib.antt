pub mod Numbers
pub mod Readings
pub mod Faults
pub mod Lists
pub mod Facts
pub mod Writings
pub mod Laws
