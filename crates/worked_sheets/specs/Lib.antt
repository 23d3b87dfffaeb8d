pub mod Sheets
pub mod Trips
pub mod Loops
pub mod Denials
pub mod Worlds
pub mod Outcomes
pub mod Statement
