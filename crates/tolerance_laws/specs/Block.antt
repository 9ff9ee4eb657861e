-- The blocks that a chroma pair is made of: one, two or four pixels. Statements only.
use Rattle.std.specs.Prelude.{ℕ, List, [], ◌∷◌}
use Rattle.rules.specs.declared.Pixel.{Pixel}
use Rattle.rule_laws.specs.Codes.{Low}

-- one, two or four pixels, of which no sample exceeds m
pub data Block (m : ℕ) : List Pixel → Type 0 where
  one : {p : Pixel} → Low m p → Block m (p ∷ [])
  two : {p q : Pixel} → Low m p → Low m q → Block m (p ∷ q ∷ [])
  four : {p q r s : Pixel} → Low m p → Low m q → Low m r → Low m s → Block m (p ∷ q ∷ r ∷ s ∷ [])
