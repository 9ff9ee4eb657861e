-- The exact values that the functions work out are those of rules. Assumes nothing.
use mathlib.Core.Path.{◌≡◌, refl, sym}
use mathlib.Core.Bool.{Bool, true, false}
use mathlib.Core.List.{List}
use Prim.Native.Nat.{ℕ, ◌-◌, ◌*◌}
use lib.IntN.{pos, ◌-ℤ◌, ◌*ℤ◌}
use lib.ListN.{length}
use Rattle.rules.specs.declared.Named.{Named}
use Rattle.rules.specs.declared.Pixel.{Pixel}
use Rattle.rules.specs.Fractions.{exact_luma}
use Rattle.integer_laws.proofs.Differences.{is_pos, is_times, is_as, is_same, is_less}
use Rattle.tolerance_laws.specs.Chroma.{own_k, exact_chroma}
use Rattle.fractions.specs.declared.Sums.{Sums}
use Rattle.fractions.specs.Sums.{sums_of, luma_by, own_sum, chroma_by}

-- ---- the numerators

-- a difference times a range, by its two parts
pub parts_times : {plus minus : ℕ} (a s range : ℕ) → plus ≡ a * range → minus ≡ s * range → pos plus -ℤ pos minus ≡ (pos a -ℤ pos s) *ℤ pos range
parts_times {plus} {minus} a s range e f = is_same (is_less plus minus) (is_as (is_times (is_less a s) range) (sym e) (sym f))

-- a part with nothing to take away
pub part_alone : {plus a : ℕ} → plus ≡ a → pos plus -ℤ pos 0 ≡ pos a
part_alone {plus} {a} e = is_same (is_less plus 0) (is_as (is_pos a) (sym e) refl)

-- ---- by a block of pixels

-- luma
pub luma_of : (k : Named) (m bias range : ℕ) {under : ℕ} (b : List Pixel) → under ≡ 10000 * m → luma_by k bias range under (sums_of b) ≡ exact_luma k m bias range b
luma_of k m bias range b e = λ i. luma_by k bias range (e i) (sums_of b)

-- Cb or Cr
pub chroma_of : (u : Bool) (k : Named) (m bias range : ℕ) {under : ℕ} {s : Sums} (b : List Pixel) → s ≡ sums_of b → under ≡ 2 * (10000 - own_k u k) * length b * m →
    chroma_by k bias range under (own_sum u s) s ≡ exact_chroma u k m bias range b
chroma_of true k m bias range b e f = λ i. chroma_by k bias range (f i) (e i).blue (e i)
chroma_of false k m bias range b e f = λ i. chroma_by k bias range (f i) (e i).red (e i)
