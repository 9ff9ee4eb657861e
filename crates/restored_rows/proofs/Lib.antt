pub mod Pairs
pub mod Puts
