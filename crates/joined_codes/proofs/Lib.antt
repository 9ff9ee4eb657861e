pub mod MachineSums
pub mod Sums
pub mod Words
