pub mod PackingFactor
