pub mod Samples
pub mod Rows
