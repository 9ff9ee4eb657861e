-- A 32-bit float rounded by sums in 64 bits: 2 ^ -26 added, then 2 ^ 52 added and taken off again. Assumes nothing.
use mathlib.Core.Path.{◌≡◌, sym, ap, ◌∙◌, subst}
use Prim.Native.Nat.{◌^◌}
use native.Mathlib.Omega.{arith}
use mathlib.Core.Bool.{true, false, not, ◌&&◌}
use lib.Dec.{T, le→leb}
use lib.IntN.{pos}
use lib.Ieee.{Float, nan, inf, fin, binary32, binary64, add, sub, lt, fits, of_int, in_float, in_unsigned, to_unsigned, is_nan}
use lib.Ieee.Fits.{and_i, fits_widens}
use lib.Ieee.Back.{unsigned_back}
use lib.Ieee.Positive.{num, den}
use Rattle.rules.specs.Weights.{nought, half_up, rounded}
use Rattle.float_laws.proofs.Rounding.{top, no, rounds_below}
use Rattle.float_laws.proofs.NearestWhole.{two52, by_sums}
use Rattle.float_laws.proofs.AboveHalf.{lift, lifted, sum_is, near}

abbrev pub summed : Float → Float
summed x = sub binary64 (add binary64 (add binary64 x lift) two52) two52

pub rounds_by_sums : (x : Float) → T (fits binary32 x) → lt x nought ≡ false → lt x top ≡ true → T (in_unsigned binary64 32 (summed x)) × (pos (to_unsigned 32 (summed x)) ≡ rounded x)
rounds_by_sums x f a b =
    let n = half_up (num x) (den x) in
    let k = near x f a b in
    let s : summed x ≡ of_int binary64 (pos n) =
    unfold of_int in ap (λ (y : Float). sub binary64 (add binary64 y two52) two52) (sum_is x a b) ∙ by_sums (lifted (num x) (den x)) n (omega (arith, k.1)) k.0 in
    let whole = unsigned_back binary64 32 n (unfold in_float in le→leb n (2 ^ 53) (omega (arith, k.1))) (omega (arith, k.1)) in
    subst (λ (y : Float). T (in_unsigned binary64 32 y) × (pos (to_unsigned 32 y) ≡ rounded x)) (sym s) (whole.0, ap pos whole.1 ∙ rounds_below x a b k.1)

-- a 64-bit float holds x
pub widens : (x : Float) → T (fits binary32 x) → lt x top ≡ true → T (fits binary64 x && not (is_nan x))
unfolding lt is_nan
widens x f b = and_i (fits binary64 x) (not (is_nan x)) (fits_widens x f) (number x b)
  where
    number : (x : Float) → lt x top ≡ true → T (not (is_nan x))
    number nan b = no b
    number (inf s) b = tt
    number (fin s m e) b = tt
