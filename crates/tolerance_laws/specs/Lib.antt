pub mod Block
pub mod Chroma
pub mod NearAll
