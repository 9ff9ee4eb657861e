pub mod Exchanges
pub mod Twice
