pub mod RowSamples
