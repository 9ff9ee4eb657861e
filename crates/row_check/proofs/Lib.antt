pub mod Elements
pub mod Runs
