pub mod Pairing
pub mod Runs
