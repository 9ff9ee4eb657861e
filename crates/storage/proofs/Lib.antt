pub mod PackingFactor
pub mod Words
