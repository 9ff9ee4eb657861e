pub mod Whole
pub mod Elsewhere
pub mod Outside
