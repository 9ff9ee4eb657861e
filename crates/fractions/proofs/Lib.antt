pub mod Totals
pub mod Values
