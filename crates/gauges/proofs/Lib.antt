pub mod Prefixes
pub mod Scaled
pub mod Gauged
