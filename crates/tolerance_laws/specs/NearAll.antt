-- Weights that refusal 4 lets pass. Statements only.
use Rattle.std.specs.Prelude.{ℕ, ◌+◌, ◌≤◌, ◌≡◌, true}
use Rattle.rules.specs.declared.Named.{Named}
use Rattle.rules.specs.declared.Weights.{Weights}
use Rattle.rules.specs.Settle.{all_near}

-- at a precision P, a matrix k, m, and the ranges of luma and chroma
pub record NearAll (P : ℕ) (k : Named) (m y uv : ℕ) (w : Weights) : Type 0 where
  pub some : 1 ≤ P
  pub whole : k.kr + k.kb ≤ 10000
  pub narrow : uv ≤ m
  pub near : all_near P k m y uv w ≡ true
