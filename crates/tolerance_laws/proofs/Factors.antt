-- The exact fractions of rules as rows of exact factors: luma's over 10000·m, and Cb's and Cr's as one, over 2·(10000 − own)·m for the
-- Kb or Kr of the channel's own. Assumes nothing.
use mathlib.Core.Path.{◌≡◌, ap}
use mathlib.Core.Bool.{Bool, true, false, not, cond}
use mathlib.Core.List.{List, [], ◌∷◌}
use Prim.Native.Nat.{ℕ, ◌+◌, ◌-◌, ◌*◌, ◌≤◌}
use native.Mathlib.Nat.{mul-le-mul_left}
use native.Mathlib.Omega.{arith}
use lib.IntN.{ℤ, pos, neg_ℤ}
use lib.ListN.{length}
use Rattle.rules.specs.declared.Pixel.{Pixel}
use Rattle.rules.specs.declared.Named.{Named}
use Rattle.rules.specs.declared.Triple.{Triple}
use Rattle.rules.specs.Matrices.{kg}
use Rattle.rules.specs.Sample.{weighted}
use Rattle.rules.specs.Blocks.{total, reds, greens, blues}
use Rattle.rules.specs.Fractions.{blended, exact_luma}
use Rattle.integer_laws.proofs.Differences.{Is, is_pos, is_neg, is_add, is_minus, is_times, is_shift, abs_neg, is_same}
use Rattle.tolerance_laws.specs.Chroma.{own_k, exact_chroma}
use Rattle.tolerance_laws.proofs.Means.{sums}
use Rattle.tolerance_laws.proofs.Rows.{SlightRow, valued}

-- ---- luma

abbrev pub luma_factors : Named → ℕ → Triple
luma_factors k y = record { red = pos (k.kr * y); green = pos (kg k * y); blue = pos (k.kb * y) }

pub luma_exact : (k : Named) (m bias y : ℕ) (p : Pixel) → valued bias (luma_factors k y) (10000 * m) p ≡ exact_luma k m bias y (p ∷ [])
unfolding weighted total
luma_exact k m bias y p =
    let e : k.kr * y * p.red + kg k * y * p.green + k.kb * y * p.blue ≡ (k.kr * (p.red + 0) + kg k * (p.green + 0) + k.kb * (p.blue + 0)) * y = omega arith in
    λ i. record { bias = bias; over = pos (e i); under = 10000 * m }

-- ---- chroma

-- a channel's factor: 10000 − K in the chroma of its own, −K in the other
abbrev factor : Bool → ℕ → ℕ → ℤ
factor true K range = pos ((10000 - K) * range)
factor false K range = neg_ℤ (pos (K * range))

factor_is : (o : Bool) (K range : ℕ) → K ≤ 10000 → Is (factor o K range) (cond o 10000 0 * range) (K * range)
factor_is true K range h =
    let e : 10000 - K + K ≡ 10000 = omega arith in
    is_shift (is_pos ((10000 - K) * range)) (omega (arith, ap (λ (t : ℕ). t * range) e))
factor_is false K range h = is_shift (is_neg (is_pos (K * range))) (omega arith)

abbrev pub chroma_factors : Bool → Named → ℕ → Triple
chroma_factors u k uv = record { red = factor (not u) k.kr uv; green = factor false (kg k) uv; blue = factor u k.kb uv }

-- the sizes of a row's factors, d for the channel's own, p and q for the others
sizes : (d p q uv m : ℕ) → p + q ≡ d → uv ≤ m → p * uv + q * uv + d * uv ≤ 2 * d * m
sizes d p q uv m e h = omega (arith, ap (λ (t : ℕ). t * uv) e, mul-le-mul_left d h)

module _ (k : Named) (whole : k.kr + k.kb ≤ 10000) (uv : ℕ) where
  pub chroma_slight : (u : Bool) (m : ℕ) → uv ≤ m → SlightRow (2 * (10000 - own_k u k) * m) (chroma_factors u k uv)
  chroma_slight true m h =
      record { slight = omega (arith, abs_neg (pos (k.kr * uv)), abs_neg (pos (kg k * uv)), sizes (10000 - k.kb) k.kr (kg k) uv m (omega arith) h) }
  chroma_slight false m h =
      record { slight = omega (arith, abs_neg (pos (k.kb * uv)), abs_neg (pos (kg k * uv)), sizes (10000 - k.kr) k.kb (kg k) uv m (omega arith) h) }

  module _ (m bias : ℕ) (b : List Pixel) where
    over_is : (u : Bool) → Is (exact_chroma u k m bias uv b).over
        (cond (not u) 10000 0 * uv * reds b + 0 * uv * greens b + cond u 10000 0 * uv * blues b)
        (k.kr * uv * reds b + kg k * uv * greens b + k.kb * uv * blues b)
    over_is true = is_shift (is_times (is_minus (is_pos (10000 * blues b)) (is_pos (blended k b))) uv) (omega arith)
    over_is false = is_shift (is_times (is_minus (is_pos (10000 * reds b)) (is_pos (blended k b))) uv) (omega arith)

    over_same : (u : Bool) → weighted (chroma_factors u k uv) (sums b) ≡ (exact_chroma u k m bias uv b).over
    unfolding weighted
    over_same u =
        is_same
        (is_add
        (is_add (is_times (factor_is (not u) k.kr uv (omega arith)) (reds b)) (is_times (factor_is false (kg k) uv (omega arith)) (greens b)))
        (is_times (factor_is u k.kb uv (omega arith)) (blues b)))
        (over_is u)

    divisor : (d : ℕ) → 2 * d * m * length b ≡ 2 * d * length b * m
    divisor d = omega arith

    pub chroma_exact : (u : Bool) → valued bias (chroma_factors u k uv) (2 * (10000 - own_k u k) * m * length b) (sums b) ≡ exact_chroma u k m bias uv b
    chroma_exact true = λ i. record { bias = bias; over = over_same true i; under = divisor (10000 - k.kb) i }
    chroma_exact false = λ i. record { bias = bias; over = over_same false i; under = divisor (10000 - k.kr) i }
