-- A fraction between two 64-bit floats, l / 2 ^ u and h / 2 ^ u, stays between them when it is rounded. Assumes nothing.
use mathlib.Core.Path.{◌≡◌, refl, sym, ap, ◌∙◌}
use Prim.Native.Nat.{ℕ, zero, suc, ◌*◌, ◌^◌, ◌≤◌, ◌<◌}
use native.Mathlib.Nat.{le_trans, le_of_eq, lt_of_lt_of_le, zero-mul, mul_assoc, mul-lt-mul_of_pos_right}
use native.Mathlib.Omega.{arith}
use mathlib.Core.Bool.{false}
use lib.Dec.{T, leb, lit<, lit≤}
use lib.Pow.{pow_pos}
use lib.Ieee.{Float, binary64, round, le}
use lib.Ieee.Exact.{HasValue, round_exact}
use lib.Ieee.Order.{round_mono}
use lib.Ieee.Positive.{num, den, positive, own_value, positive_of_value, values_of_le, between}

-- n / 2 ^ u as a 64-bit float
abbrev at : ℕ → ℕ → Float
at n u = round binary64 false n (2 ^ u)

exactly : (l u j : ℕ) → l < 2 ^ 53 → 2 ^ 1074 ≡ 2 ^ j * 2 ^ u → T (leb (2 ^ 53 * 2 ^ j) (2 ^ 2098)) → HasValue (at l u) false l (2 ^ u)
exactly l u j small e fine =
    round_exact binary64 false l (2 ^ u) l j (pow_pos u) small (lt_of_lt_of_le (mul-lt-mul_of_pos_right small (pow_pos j)) (lit≤ fine))
    (ap (λ (z : ℕ). l * z) e ∙ sym (mul_assoc l (2 ^ j) (2 ^ u)))

-- a / c is 2 ^ -26 at least, so that it is above zero when it is rounded; u is 1074 - j, as far down as the format goes
module _ (a c u j l h : ℕ) (C : 0 < c) (P : 1 * c ≤ a * 2 ^ 26) (e : 2 ^ 1074 ≡ 2 ^ j * 2 ^ u) (fine : T (leb (2 ^ 53 * 2 ^ j) (2 ^ 2098))) where
  abbrev pub y : Float
  y = round binary64 false a c

  abbrev pub Between : Type 0
  Between = T (positive y) × (l * den y ≤ num y * 2 ^ u) × (num y * 2 ^ u ≤ h * den y)

  pub held_between : l < 2 ^ 53 → h < 2 ^ 53 → 0 < h → l * c ≤ a * 2 ^ u → a * 2 ^ u ≤ h * c → Between
  held_between L H h> lo hi =
      let least : HasValue (at 1 26) false 1 (2 ^ 26) = exactly 1 26 1048 (lit< tt) refl tt in
      let most : HasValue (at h u) false h (2 ^ u) = exactly h u j H e fine in
      let most> : T (positive (at h u)) = positive_of_value (at h u) h (2 ^ u) most h> in
      let under : T (le y (at h u)) = round_mono binary64 a c h (2 ^ u) C (pow_pos u) hi in
      let p : T (positive y) =
      between (at 1 26) y (at h u) (positive_of_value (at 1 26) 1 (2 ^ 26) least (lit< tt)) most>
      (round_mono binary64 1 (2 ^ 26) a c (pow_pos 26) C P) under in
      (p, lower l p (exactly l u j L e fine) lo, values_of_le y (at h u) (num y) (den y) h (2 ^ u) p most> (own_value y p) most under)
    where
      lower : (l : ℕ) → T (positive y) → HasValue (at l u) false l (2 ^ u) → l * c ≤ a * 2 ^ u → l * den y ≤ num y * 2 ^ u
      lower zero p v g = le_trans (le_of_eq (zero-mul (den y))) (omega arith)
      lower (suc i) p v g =
          values_of_le (at (suc i) u) y (suc i) (2 ^ u) (num y) (den y) (positive_of_value (at (suc i) u) (suc i) (2 ^ u) v (omega arith)) p v (own_value y p)
          (round_mono binary64 (suc i) (2 ^ u) a c (pow_pos u) C g)
