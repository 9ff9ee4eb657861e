-- What settle's success says of the weights: their signs and sizes, and that every pixel that is not too large has a code. Assumes nothing.
use mathlib.Core.Path.{◌≡◌, refl, sym, subst}
use Prim.Native.Nat.{ℕ, ◌^◌, ◌≤◌}
use native.Mathlib.Nat.{le_trans}
use native.Mathlib.Omega.{arith}
use mathlib.Core.Bool.{Bool, true, false, not, ◌&&◌, ◌||◌, true≢false}
use lib.Dec.{T, lit≤}
use lib.Pow.{pow_mono}
use lib.IntN.{pos}
use lib.Signed.{le_z}
use lib.Ieee.{round, sub, lt}
use borrow.Author.Tests.{not-false}
use Rattle.rules.specs.declared.Settings.{Settings}
use Rattle.rules.specs.declared.Weights.{Weights}
use Rattle.rules.specs.declared.Triple.{Triple}
use Rattle.rules.specs.declared.Pixel.{Pixel}
use Rattle.rules.specs.declared.YuvStandardMatrix.{YuvStandardMatrix}
use Rattle.rules.specs.declared.YuvStandardMatrix.TheVariants.{Bt601, Bt709, Bt2020, Smpte240, Bt470_6, Custom}
use Rattle.rules.specs.Ranges.{most, y_bias, uv_bias, y_range, uv_range}
use Rattle.rules.specs.Matrices.{matrix_of}
use Rattle.rules.specs.Weights.{pair_of, weights_of, luma_row, cb_row, cr_row}
use Rattle.rules.specs.Sample.{signed_code}
use Rattle.rules.specs.Answers.{given, weight_values}
use Rattle.rules.specs.Settle.{positive_pair, pair_off, black, white, blue, yellow, red, cyan, code_off, some_code_off, settle}
use Rattle.rule_laws.specs.Signs.{Bounded}
use Rattle.rule_laws.specs.Codes.{Between}
use Rattle.rule_laws.proofs.Depths.{sane}
use Rattle.rule_laws.proofs.Extremes.{spans, coded, black_code}
use Rattle.float_laws.proofs.Signs.{signs}
use Rattle.weights.specs.Held.{Held}
use Rattle.rule_laws.specs.Usable.{Usable}
use Rattle.settle.proofs.Verdicts.{Passed, passed}

-- ---- rule 3 holds of the pair, whichever the matrix is
pub positive : (m : YuvStandardMatrix) → pair_off (matrix_of m) ≡ false → T (positive_pair (pair_of (matrix_of m)))
unfolding round sub lt
positive Bt601 h = tt
positive Bt709 h = tt
positive Bt2020 h = tt
positive Smpte240 h = tt
positive Bt470_6 h = tt
positive (Custom r b) h = subst T (sym (not-false (positive_pair (pair_of (matrix_of (Custom r b)))) h)) tt

bounded : (s : Settings) → 10 ≤ s.depth → s.depth ≤ 16 → s.precision ≤ 13 → Held s.matrix → pair_off (matrix_of s.matrix) ≡ false → Bounded (2 ^ s.precision) (weights_of s)
unfolding weights_of
bounded s h k q f e =
    let d = s.depth in
    let g = s.range in
    let n = sane d g h k in
    let top : most d ≤ 2 ^ 24 = omega (arith, n.m_lt) in
    let p = pair_of (matrix_of s.matrix) in
    signs (most d) (y_range g d) (uv_range g d) s.precision p.kr p.kb n.y_pos n.y_le n.uv_pos n.uv_le top (le_trans (pow_mono q) (lit≤ tt)) f.kr f.kb (positive s.matrix e)

-- ---- a code that is not off
both : (x y : Bool) → not (x && y) ≡ false → T x × T y
both true true h = (tt, tt)
both true false h = absurd (true≢false h)
both false y h = absurd (true≢false h)

within : (precision m bias : ℕ) (w : Triple) (p : Pixel) → code_off precision m bias w p ≡ false → Between (pos 0) (pos m) (signed_code precision bias w p)
unfolding code_off
within precision m bias w p h =
    let c = signed_code precision bias w p in
    let t = both (le_z (pos 0) c) (le_z c (pos m)) h in
    record { low = t.0; high = t.1 }

none_of_five : (a b c d e : Bool) → a || (b || (c || (d || e))) ≡ false → (a ≡ false) × (b ≡ false) × (c ≡ false) × (d ≡ false) × (e ≡ false)
none_of_five true b c d e h = absurd (true≢false h)
none_of_five false true c d e h = absurd (true≢false h)
none_of_five false false true d e h = absurd (true≢false h)
none_of_five false false false true e h = absurd (true≢false h)
none_of_five false false false false true h = absurd (true≢false h)
none_of_five false false false false false h = (refl, refl, refl, refl, refl)

usable_weights : (s : Settings) → Held s.matrix → Passed s → Usable s (weights_of s)
unfolding some_code_off
usable_weights s f k =
    let p = s.precision in
    let m = most s.depth in
    let y = y_bias s.range s.depth in
    let uv = uv_bias s.depth in
    let w = weights_of s in
    let b = bounded s k.shallow k.deep k.fine f k.pair in
    let off = none_of_five (code_off p m y (luma_row w) (white m)) (code_off p m uv (cb_row w) (blue m)) (code_off p m uv (cb_row w) (yellow m))
    (code_off p m uv (cr_row w) (red m)) (code_off p m uv (cr_row w) (cyan m)) k.codes in
    let luma = spans p m y (luma_row w) false false false (2 ^ p) b.yr b.yg b.yb in
    let cb = spans p m uv (cb_row w) true true false (2 ^ p) b.cbr b.cbg b.cbb in
    let cr = spans p m uv (cr_row w) false true true (2 ^ p) b.crr b.crg b.crb in
    record {
      reach = record { shallow = k.shallow; deep = k.deep; coarse = k.coarse; fine = k.fine };
      weights = b;
      luma = luma;
      cb = cb;
      cr = cr;
      luma_coded = coded p m y (luma_row w) black (white m) luma (black_code p y (luma_row w)) (within p m y (luma_row w) (white m) off.0).high;
      cb_coded = coded p m uv (cb_row w) (yellow m) (blue m) cb (within p m uv (cb_row w) (yellow m) off.2).low (within p m uv (cb_row w) (blue m) off.1).high;
      cr_coded = coded p m uv (cr_row w) (cyan m) (red m) cr (within p m uv (cr_row w) (cyan m) off.4).low (within p m uv (cr_row w) (red m) off.3).high;
    }

-- THE THEOREM: weights that settle hands out are usable
pub usable : (s : Settings) (w : Weights) → Held s.matrix → given (weight_values w) ≡ settle s → Usable s w
usable s w f e =
    let k = passed s w e in
    subst (Usable s) k.1 (usable_weights s f k.0)
