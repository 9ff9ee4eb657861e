pub mod Gauges
pub mod Prefixes
