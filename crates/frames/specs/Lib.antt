pub mod Rows
pub mod SourceRows
pub mod Tests
pub mod Sources
