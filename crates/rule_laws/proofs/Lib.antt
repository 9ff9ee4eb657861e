pub mod Answers
pub mod Refusals
pub mod Depths
pub mod Order
pub mod Extremes
pub mod Settling
pub mod OneRow
pub mod EveryNamed
