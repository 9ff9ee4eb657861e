-- Laws of tests. Assumes nothing.
use mathlib.Core.Path.{◌≡◌, refl, sym}
use mathlib.Core.Bool.{Bool, true, false, ◌&&◌, true≢false}
use mathlib.Core.Logic.{◌↔◌}
use Prim.Native.Nat.{ℕ, ◌*◌, ◌/◌, ◌≤◌, ◌<◌}
use native.Mathlib.Nat.{le-div_iff_mul-le}
use native.Mathlib.Omega.{arith}
use lib.Dec.{leb}
use borrow.Author.Tests.{leb-true, leb-false}

-- both of two tests passed
pub both : (a b : Bool) → (a && b) ≡ true → (a ≡ true) × (b ≡ true)
both true b e = (refl, e)
both false b e = absurd (true≢false (sym e))

-- two tests that say the same are the same
pub leb_iff : (a b c d : ℕ) → (a ≤ b) ↔ (c ≤ d) → leb a b ≡ leb c d
leb_iff a b c d k = go (leb a b) (leb c d) refl refl
  where
    go : (s t : Bool) → leb a b ≡ s → leb c d ≡ t → s ≡ t
    go true true p q = refl
    go false false p q = refl
    go true false p q = let h = k.0 (leb-true a b p) in let g = leb-false c d q in absurd (omega arith)
    go false true p q = let h = k.1 (leb-true c d q) in let g = leb-false a b p in absurd (omega arith)

-- the test by a quotient, rounded down, is the test by a product
pub leb_div : (x y k : ℕ) → 0 < k → leb x (y / k) ≡ leb (x * k) y
leb_div x y k q = leb_iff x (y / k) (x * k) y (le-div_iff_mul-le q)
