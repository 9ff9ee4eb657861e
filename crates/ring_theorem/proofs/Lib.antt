pub mod Frames
pub mod Rings
