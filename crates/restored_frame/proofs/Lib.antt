pub mod Places
pub mod Elements
pub mod Rows
pub mod Windows
