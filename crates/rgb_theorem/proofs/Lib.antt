pub mod Outcomes
pub mod Windows
pub mod Stored
pub mod Greys
