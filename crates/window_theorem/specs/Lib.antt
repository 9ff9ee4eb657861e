pub mod Former
pub mod Windows
