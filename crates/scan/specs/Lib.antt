pub mod Fours
pub mod RowSearch
