-- How far a row is right. Statements only.
use Rattle.std.specs.Prelude.{ℕ, ◌≤◌, ◌<◌, ◌≡◌, Bool, true}

-- the first n samples of a row of `wide` are right
pub record Passed (t : ℕ → Bool) (wide n : ℕ) : Type 0 where
  pub most : n ≤ wide
  pub right : (e : ℕ) → e < n → t e ≡ true
