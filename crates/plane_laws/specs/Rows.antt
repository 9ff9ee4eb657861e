-- A row that is written in two steps: its first elements, then the rest. Statements only.
use Rattle.std.specs.Prelude.{ℕ, ◌≤◌, ◌<◌, ◌≡◌, List, length, get_or}

-- y is old with its first n elements replaced by f's
pub record Begun (n : ℕ) (f : ℕ → ℕ) (old y : List ℕ) : Type 0 where
  pub within : n ≤ length old
  pub long : length y ≡ length old
  pub done : (k : ℕ) → k < n → get_or y k 0 ≡ f k
  pub kept : (k : ℕ) → n ≤ k → get_or y k 0 ≡ get_or old k 0

-- y is old with its elements from n on replaced by f's
pub record Finished (n : ℕ) (f : ℕ → ℕ) (old y : List ℕ) : Type 0 where
  pub long : length y ≡ length old
  pub kept : (k : ℕ) → k < n → get_or y k 0 ≡ get_or old k 0
  pub done : (k : ℕ) → n ≤ k → k < length old → get_or y k 0 ≡ f k
