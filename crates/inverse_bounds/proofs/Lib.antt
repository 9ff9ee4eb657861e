pub mod Computed
pub mod Bounded
