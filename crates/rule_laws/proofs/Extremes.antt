-- A row of weights gives every pixel a code between those of the two colours that its signs point to. Assumes nothing.
use mathlib.Core.Path.{◌≡◌, sym, subst}
use mathlib.Core.Bool.{Bool, true, false}
use Prim.Native.Nat.{ℕ, ◌+◌, ◌*◌, ◌≤◌, zero-le}
use native.Mathlib.Nat.{mul-le-mul_left}
use native.Mathlib.Omega.{arith}
use lib.Dec.{T}
use lib.IntN.{ℤ, pos}
use lib.Signed.{le_z}
use Rattle.rules.specs.declared.Triple.{Triple}
use Rattle.rules.specs.declared.Pixel.{Pixel}
use Rattle.rules.specs.Sample.{signed_code}
use Rattle.rules.specs.Settle.{colour, black}
use Rattle.integer_laws.proofs.Differences.{pp, np}
use Rattle.rule_laws.specs.Signs.{SignedWithin}
use Rattle.rule_laws.specs.Codes.{Spans, Coded}
use Rattle.rule_laws.proofs.Order.{le_z_trans, code_order, code_nonneg, adds, takes}

-- the channel that a weight of the sign s makes the most of, and the least
abbrev pub greatest : Bool → ℕ → ℕ
greatest false m = m
greatest true m = 0

abbrev pub least : Bool → ℕ → ℕ
least false m = 0
least true m = m

-- v gives at least as much as u
pub record Rises (z : ℤ) (u v : ℕ) : Type 0 where
  pub up : pp z * u ≤ pp z * v
  pub down : np z * v ≤ np z * u

none : (k u v : ℕ) → k ≡ 0 → k * u ≤ k * v
none k u v e = subst (λ (n : ℕ). n * u ≤ n * v) (sym e) (zeros u v)
  where
    zeros : (u v : ℕ) → 0 * u ≤ 0 * v
    zeros u v = omega arith

to_greatest : (s : Bool) {b : ℕ} {z : ℤ} → SignedWithin s b z → {x m : ℕ} → x ≤ m → Rises z x (greatest s m)
to_greatest false {z} h {x} {m} l = record { up = mul-le-mul_left (pp z) l; down = none (np z) m x (adds h) }
to_greatest true {z} h {x} {m} l = record { up = none (pp z) x 0 (takes h); down = mul-le-mul_left (np z) zero-le }

from_least : (s : Bool) {b : ℕ} {z : ℤ} → SignedWithin s b z → {x m : ℕ} → x ≤ m → Rises z (least s m) x
from_least false {z} h {x} {m} l = record { up = mul-le-mul_left (pp z) zero-le; down = none (np z) x 0 (adds h) }
from_least true {z} h {x} {m} l = record { up = none (pp z) m x (takes h); down = mul-le-mul_left (np z) l }

three : (precision bias : ℕ) (w : Triple) (u v : Pixel) → Rises w.red u.red v.red → Rises w.green u.green v.green → Rises w.blue u.blue v.blue
    → T (le_z (signed_code precision bias w u) (signed_code precision bias w v))
three precision bias w u v r g b =
    code_order precision bias w u v
    (sum3 r.up g.up b.up)
    (sum3 r.down g.down b.down)
  where
    sum3 : {a b c d e f : ℕ} → a ≤ d → b ≤ e → c ≤ f → a + b + c ≤ d + e + f
    sum3 h k l = omega arith

-- the pixel that gives the least code, and the one that gives the greatest, where the three weights have these signs
abbrev pub lowest : ℕ → Bool → Bool → Bool → Pixel
lowest m r g b = colour (least r m) (least g m) (least b m)

abbrev pub highest : ℕ → Bool → Bool → Bool → Pixel
highest m r g b = colour (greatest r m) (greatest g m) (greatest b m)

module _ (precision m bias : ℕ) (w : Triple) (r g b : Bool) (n : ℕ) (hr : SignedWithin r n w.red) (hg : SignedWithin g n w.green) (hb : SignedWithin b n w.blue) where
  pub spans : Spans precision m bias w (lowest m r g b) (highest m r g b)
  spans p l =
      record {
        low = three precision bias w (lowest m r g b) p (from_least r hr l.red) (from_least g hg l.green) (from_least b hb l.blue);
        high = three precision bias w p (highest m r g b) (to_greatest r hr l.red) (to_greatest g hg l.green) (to_greatest b hb l.blue);
      }

-- so codes from 0 to m at the two colours are codes from 0 to m at every pixel
pub coded : (precision m bias : ℕ) (w : Triple) (u v : Pixel) → Spans precision m bias w u v
    → T (le_z (pos 0) (signed_code precision bias w u)) → T (le_z (signed_code precision bias w v) (pos m)) → Coded precision m bias w
coded precision m bias w u v s low high p l =
    let c = signed_code precision bias w p in
    record {
      low = le_z_trans (pos 0) (signed_code precision bias w u) c low (s p l).low;
      high = le_z_trans c (signed_code precision bias w v) (pos m) (s p l).high high;
    }

-- black's code is not negative
pub black_code : (precision bias : ℕ) (w : Triple) → T (le_z (pos 0) (signed_code precision bias w black))
black_code precision bias w = code_nonneg precision bias w black (nil (np w.red) (np w.green) (np w.blue))
  where
    nil : (a b c : ℕ) → a * 0 + b * 0 + c * 0 ≡ 0
    nil a b c = omega arith
