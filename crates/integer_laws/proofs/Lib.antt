pub mod Differences
pub mod Machine
pub mod Shifts
pub mod Tests
