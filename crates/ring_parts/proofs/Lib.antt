pub mod Frames
pub mod Lent
pub mod Parts
