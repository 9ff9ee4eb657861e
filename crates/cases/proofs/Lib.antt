pub mod SmallNumber
