pub mod Places
pub mod Tests
pub mod Sources
pub mod Grown
