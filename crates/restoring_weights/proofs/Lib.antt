pub mod Outer
pub mod Products
pub mod Restored
pub mod Sizes
pub mod Starts
