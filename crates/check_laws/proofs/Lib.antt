pub mod Joined
pub mod Unique
pub mod Colours
