pub mod Verdicts
pub mod Weighed
