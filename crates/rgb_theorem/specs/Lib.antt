pub mod Outcomes
pub mod Stored
