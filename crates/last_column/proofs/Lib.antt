pub mod Tiles
pub mod Last
