-- Laws of tests that are joined by `||`, and of the order of two numbers. Assumes nothing.
use mathlib.Core.Path.{◌≡◌, refl, ap}
use mathlib.Core.Logic.{◌⊎◌, inl, inr}
use mathlib.Core.Bool.{Bool, true, false, ◌||◌, true≢false}
use Prim.Native.Nat.{ℕ, ◌≤◌, ◌<◌}
use lib.Dec.{ltb}
use borrow.Author.Tests.{ltb-true, ltb-false}

-- the first test decides, or the second does
pub or_yes : {s : Bool} (t : Bool) → s ≡ true → s || t ≡ true
or_yes t p = ap (λ (s : Bool). s || t) p

pub or_no : {s : Bool} (t : Bool) → s ≡ false → s || t ≡ t
or_no t p = ap (λ (s : Bool). s || t) p

-- neither of two tests applies
pub neither : (s t : Bool) → s || t ≡ false → (s ≡ false) × (t ≡ false)
neither true t h = absurd (true≢false h)
neither false t h = (refl, h)

pub lt_or_le : (a b : ℕ) → (a < b) ⊎ (b ≤ a)
lt_or_le a b = by (ltb a b) refl
  where
    by : (t : Bool) → ltb a b ≡ t → (a < b) ⊎ (b ≤ a)
    by true e = inl (ltb-true a b e)
    by false e = inr (ltb-false a b e)
