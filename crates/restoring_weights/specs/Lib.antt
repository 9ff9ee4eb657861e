pub mod RestoringWeights
