-- The mean of a block: within one half of the exact mean, and never above its pixels. Assumes nothing.
use mathlib.Core.Path.{◌≡◌}
use mathlib.Core.List.{List, [], ◌∷◌}
use Prim.Native.Nat.{ℕ}
use native.Mathlib.Omega.{arith}
use Rattle.rules.specs.declared.Pixel.{Pixel}
use Rattle.rules.specs.Blocks.{total, mean, averaged, reds, greens, blues}
use Rattle.rule_laws.specs.Codes.{Low}
use Rattle.tolerance_laws.specs.Block.{Block, one, two, four}
use Rattle.tolerance_laws.proofs.Sides.{Mean, Means}

-- the channel sums
abbrev pub sums : List Pixel → Pixel
sums b = record { red = reds b; green = greens b; blue = blues b }

pub pixel_eq : {r r' g g' b b' : ℕ} → r ≡ r' → g ≡ g' → b ≡ b' →
    ◌≡◌ {A = Pixel} (record { red = r; green = g; blue = b }) (record { red = r'; green = g'; blue = b' })
pixel_eq p q s = λ i. record { red = p i; green = q i; blue = s i }

-- of one pixel, sums and mean are the pixel
pub sums_one : (p : Pixel) → sums (p ∷ []) ≡ p
unfolding total
sums_one p = pixel_eq (omega arith) (omega arith) (omega arith)

pub averaged_one : (p : Pixel) → averaged (p ∷ []) ≡ p
unfolding averaged total
averaged_one p = pixel_eq (omega arith) (omega arith) (omega arith)

-- the mean of two or four, by the sum
mean_two : (s : ℕ) → Mean 1 s (mean 2 s)
mean_two s = record { over = omega arith; under = omega arith }

mean_four : (s : ℕ) → Mean 2 s (mean 4 s)
mean_four s = record { over = omega arith; under = omega arith }

pub means_two : (p q : Pixel) → Means 1 (sums (p ∷ q ∷ [])) (averaged (p ∷ q ∷ []))
unfolding averaged
means_two p q = record { red = mean_two _; green = mean_two _; blue = mean_two _ }

pub means_four : (p q r s : Pixel) → Means 2 (sums (p ∷ q ∷ r ∷ s ∷ [])) (averaged (p ∷ q ∷ r ∷ s ∷ []))
unfolding averaged
means_four p q r s = record { red = mean_four _; green = mean_four _; blue = mean_four _ }

-- no sample of the mean exceeds m
pub averaged_low : {m : ℕ} {b : List Pixel} → Block m b → Low m (averaged b)
unfolding averaged total
averaged_low (one h) = record { red = omega arith; green = omega arith; blue = omega arith }
averaged_low (two h k) = record { red = omega arith; green = omega arith; blue = omega arith }
averaged_low (four h k i j) = record { red = omega arith; green = omega arith; blue = omega arith }
