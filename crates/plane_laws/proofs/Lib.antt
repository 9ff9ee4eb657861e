pub mod Tests
pub mod Tables
pub mod Planes
pub mod Searches
