-- What is known of the floats that a program holds. Definitions only.
use Rattle.std.specs.Prelude.{T}
use Rattle.std.specs.Float.{binary32}
use Rattle.std.specs.Float.Ieee.{fits}
use Rattle.rules.specs.declared.YuvStandardMatrix.{YuvStandardMatrix}
use Rattle.rules.specs.Matrices.{matrix_of}
use Rattle.rules.specs.Weights.{pair_of}

-- the pair of a matrix is one of 32-bit floats, as it is of each matrix that a program holds
pub record Held (m : YuvStandardMatrix) : Type 0 where
  pub kr : T (fits binary32 (pair_of (matrix_of m)).kr)
  pub kb : T (fits binary32 (pair_of (matrix_of m)).kb)
