-- What a walk has passed, one step at a time, for any test of a plane's samples. Assumes nothing.
use mathlib.Core.Path.{◌≡◌}
use mathlib.Core.Bool.{true, false}
use Prim.Native.Nat.{ℕ, ◌+◌, ◌≤◌, ◌<◌}
use native.Mathlib.Omega.{arith}
use borrow.Author.Count.{below_more}
use Rattle.rules.specs.Search.{Test, Clean, FirstWrong}

-- the first n samples of a row are right
pub record CleanRow (t : Test) (row n : ℕ) : Type 0 where
  pub clean : (e : ℕ) → e < n → t row e ≡ true

module _ {t : Test} where
  pub row_more : {row n : ℕ} → CleanRow t row n → t row n ≡ true → CleanRow t row (n + 1)
  row_more {row} {n} k r = record { clean = below_more (λ (e : ℕ). t row e ≡ true) n k.clean r }

  module _ {wide : ℕ} where
    pub clean_none : Clean t wide 0
    clean_none = record { clean = λ row e h k. absurd (omega arith) }

    -- a row whose samples up to n, or past the visible ones, are right
    pub clean_more : {row n : ℕ} → Clean t wide row → CleanRow t row n → wide ≤ n → Clean t wide (row + 1)
    clean_more {row} {n} k r h =
        record {
          clean = λ i e b l. below_more (λ (i : ℕ). (e : ℕ) → e < wide → t i e ≡ true) row (λ i b e l. k.clean i e b l) (λ e l. r.clean e (omega arith)) i b e l;
        }

    pub clean_all : {h row : ℕ} → Clean t wide row → row ≡ h → Clean t wide h
    clean_all k e = rw e at k

    pub first_wrong : {h row e : ℕ} → row < h → e < wide → Clean t wide row → CleanRow t row e → t row e ≡ false → FirstWrong t wide h row e
    first_wrong b i k r w = record { below = b; inside = i; wrong = w; above = k; before = r.clean }
