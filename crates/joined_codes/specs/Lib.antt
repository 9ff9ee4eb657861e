pub mod Packed
pub mod Sums
