-- A test of every named setting's row, range, precision and depth, to be computed; and that each passes where all do. Assumes nothing.
use mathlib.Core.Path.{◌≡◌, subst}
use mathlib.Core.Logic.{inl, inr}
use mathlib.Core.Bool.{Bool, true, ◌&&◌}
use mathlib.Core.List.{List, [], ◌∷◌}
use Prim.Native.Nat.{ℕ, zero, suc, ◌+◌, ◌≤◌, ◌<◌}
use native.Mathlib.Nat.{eq-or-lt_of_le}
use native.Mathlib.Omega.{arith}
use Rattle.rules.specs.declared.YuvRange.{YuvRange}
use Rattle.rules.specs.declared.YuvRange.TheVariants.{Limited, Full}
use Rattle.rules.specs.declared.Named.{Named}
use Rattle.rules.specs.declared.Matrix.{Matrix}
use Rattle.rules.specs.declared.Matrix.TheVariants.{Tabled, Own}
use Rattle.integer_laws.proofs.Tests.{both}

-- a test by a row of the table of matrices, a range, a precision and a depth
abbrev pub NamedTest : Type 0
NamedTest = Named → YuvRange → ℕ → ℕ → Bool

-- n numbers from a on
unfoldable pub ranged : ℕ → ℕ → List ℕ
ranged a zero = []
ranged a (suc n) = a ∷ ranged (suc a) n

unfoldable pub all : (ℕ → Bool) → List ℕ → Bool
all f [] = true
all f (a ∷ l) = f a && all f l

abbrev both_ranges : NamedTest → Named → ℕ → ℕ → Bool
both_ranges t k p d = t k Limited p d && t k Full p d

-- every precision from 1 to 13 and depth from 10 to 16, in both ranges
unfoldable pub every : NamedTest → Named → Bool
unfolding all ranged
every t k = all (λ (p : ℕ). all (both_ranges t k p) (ranged 10 7)) (ranged 1 13)

-- a custom pair has no row, and nothing to pass
abbrev pub RowPasses : NamedTest → Matrix → Type 0
RowPasses t (Tabled k) = every t k ≡ true
RowPasses t (Own p) = Unit

-- ---- where all pass, each does

-- what passes at each of n numbers from a on passes at any k among them
at : (f : ℕ → Bool) (n a k : ℕ) → a ≤ k → k < a + n → all f (ranged a n) ≡ true → f k ≡ true
unfolding all ranged
at f zero a k h g t = absurd (none a k h g)
  where
    none : (a k : ℕ) → a ≤ k → k < a + 0 → ⊥
    none a k h g = omega arith
at f (suc n) a k h g t = elim (eq-or-lt_of_le h) [
  | inl e ↦ subst (λ (z : ℕ). f z ≡ true) e (both (f a) (all f (ranged (suc a) n)) t).0
  | inr l ↦ at f n (suc a) k l (next a k n g) (both (f a) (all f (ranged (suc a) n)) t).1
]
  where
    next : (a k n : ℕ) → k < a + suc n → k < suc a + n
    next a k n g = omega arith

module _ (t : NamedTest) (d p : ℕ) (shallow : 10 ≤ d) (deep : d ≤ 16) (coarse : 1 ≤ p) (fine : p ≤ 13) where
  inside : (k : Named) → every t k ≡ true → both_ranges t k p d ≡ true
  unfolding every
  inside k h = at (both_ranges t k p) 7 10 d shallow (omega arith) (at (λ (q : ℕ). all (both_ranges t k q) (ranged 10 7)) 13 1 p coarse (omega arith) h)

  pub each_passes : (k : Named) (g : YuvRange) → every t k ≡ true → t k g p d ≡ true
  each_passes k Limited h = (both (t k Limited p d) (t k Full p d) (inside k h)).0
  each_passes k Full h = (both (t k Limited p d) (t k Full p d) (inside k h)).1
