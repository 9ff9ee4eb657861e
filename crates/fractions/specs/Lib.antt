pub mod Exact
pub mod Sums
