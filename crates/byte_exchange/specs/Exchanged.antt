-- A row of which the first elements have their bytes exchanged. Statements only.
use Rattle.std.specs.Prelude.{ℕ, ◌≤◌, ◌<◌, ◌≡◌, List, length, get_or}
use Rattle.rules.specs.declared.YuvEndianness.{YuvEndianness}
use Rattle.rules.specs.Storage.{exchanged}

-- the bytes of the first n elements of a row are exchanged
pub record Exchanged (e : YuvEndianness) (n : ℕ) (old y : List ℕ) : Type 0 where
  pub long : length y ≡ length old
  pub inside : (k : ℕ) → k < n → get_or y k 0 ≡ exchanged e (get_or old k 0)
  pub after : (k : ℕ) → n ≤ k → get_or y k 0 ≡ get_or old k 0
