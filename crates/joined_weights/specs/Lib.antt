pub mod JoinedWeights
