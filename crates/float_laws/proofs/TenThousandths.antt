-- A whole number of 24 bits divided by 10000, in floats, is the float nearest to the fraction. Assumes nothing.
use mathlib.Core.Path.{◌≡◌, ap, ◌∙◌}
use Prim.Native.Nat.{ℕ, ◌*◌, ◌^◌, ◌≤◌}
use native.Mathlib.Nat.{mul_assoc, mul_comm, mul-pos}
use mathlib.Core.Bool.{true, false, true≢false}
use lib.Dec.{lit<}
use lib.IntN.{pos}
use lib.Ieee.{Float, nan, inf, fin, binary32, up, down, div}
use lib.Ieee.Fits.{down_pos}
use lib.Ieee.Exact.{HasValue}
use lib.Ieee.Scale.{round_same}
use Rattle.rules.specs.Weights.{nearest, whole}
use Rattle.float_laws.proofs.Bounds.{int_value}

-- 10000 is 625 · 2 ^ 4
abbrev pub ten_thousand : Float
ten_thousand = fin false 625 (pos 4)

same : (a n d : ℕ) → a * 1 ≡ n * d → a * 1 * 10000 ≡ n * (625 * 2 ^ 4 * d)
same a n d h = ap (λ (z : ℕ). z * 10000) h ∙ mul_assoc n d 10000 ∙ ap (λ (z : ℕ). n * z) (mul_comm d 10000)

divided : (x : Float) (n : ℕ) → HasValue x false n 1 → div binary32 x ten_thousand ≡ nearest n
unfolding div
divided nan n v = absurd v
divided (inf s) n v = absurd v
divided (fin true m e) n v = absurd (true≢false v.0)
divided (fin false m e) n v =
    round_same binary32 false (m * up e * 1) (625 * 2 ^ 4 * down e) n 10000 (mul-pos (lit< tt) (down_pos e)) (lit< tt)
    (same (m * up e) n (down e) v.1)

pub ten_thousandths : (n : ℕ) → n ≤ 2 ^ 24 → div binary32 (whole n) ten_thousand ≡ nearest n
ten_thousandths n h = divided (whole n) n (int_value n h)
