-- The code of a pixel grows with its sum, and the sum with what it adds and takes away. Assumes nothing.
use mathlib.Core.Path.{◌≡◌, refl, ap, ◌∙◌}
use mathlib.Core.Bool.{true, false}
use Prim.Native.Nat.{ℕ, zero, suc, ◌+◌, ◌-◌, ◌*◌, ◌/◌, ◌^◌, ◌≤◌, zero-le}
use native.Mathlib.Nat.{le_trans}
use native.Mathlib.Omega.{arith}
use lib.Dec.{T, leb→le, le→leb}
use lib.Pow.{shr_mono}
use lib.IntN.{ℤ, pos, negsuc, neg_ℤ, nat_abs}
use lib.Signed.{le_z, shr_z}
use Rattle.rules.specs.declared.Triple.{Triple}
use Rattle.rules.specs.declared.Pixel.{Pixel}
use Rattle.rules.specs.Sample.{weighted, before_division, signed_code}
use Rattle.integer_laws.proofs.Differences.{pp, np, Is, is_self, is_pos, is_add, is_times}
use Rattle.rule_laws.specs.Signs.{SignedWithin}

-- ---- orders of shifted numbers
shr_order : {z y : ℤ} {p n q m : ℕ} (k : ℕ) → Is z p n → Is y q m → p + m ≤ q + n → T (le_z (shr_z z (2 ^ k)) (shr_z y (2 ^ k)))
shr_order {z = pos a} {y = pos b} k f g h =
    let l : a ≤ b = omega (arith, f.is, g.is) in
    le→leb (a / 2 ^ k) (b / 2 ^ k) (shr_mono k l)
shr_order {z = pos a} {y = negsuc b} k f g h = absurd (omega (arith, f.is, g.is))
shr_order {z = negsuc a} {y = pos b} k f g h = tt
shr_order {z = negsuc a} {y = negsuc b} k f g h =
    let l : b ≤ a = omega (arith, f.is, g.is) in
    le→leb (b / 2 ^ k) (a / 2 ^ k) (shr_mono k l)

shr_nonneg : {z : ℤ} {p n : ℕ} (k : ℕ) → Is z p n → n ≤ p → T (le_z (pos 0) (shr_z z (2 ^ k)))
shr_nonneg {z = pos a} k f h = le→leb 0 (a / 2 ^ k) zero-le
shr_nonneg {z = negsuc a} k f h = absurd (omega (arith, f.is))

pub le_z_trans : (x y z : ℤ) → T (le_z x y) → T (le_z y z) → T (le_z x z)
le_z_trans (pos a) (pos b) (pos c) h k = le→leb a c (le_trans (leb→le a b h) (leb→le b c k))
le_z_trans (pos a) (pos b) (negsuc c) h k = k
le_z_trans (pos a) (negsuc b) z h k = absurd h
le_z_trans (negsuc a) y (pos c) h k = tt
le_z_trans (negsuc a) (pos b) (negsuc c) h k = absurd k
le_z_trans (negsuc a) (negsuc b) (negsuc c) h k = le→leb c a (le_trans (leb→le c b k) (leb→le b a h))

-- ---- what the weights add to a pixel's sum, and what they take away
abbrev pub rise : Triple → Pixel → ℕ
rise w p = pp w.red * p.red + pp w.green * p.green + pp w.blue * p.blue

abbrev pub fall : Triple → Pixel → ℕ
fall w p = np w.red * p.red + np w.green * p.green + np w.blue * p.blue

sum_is : (precision bias : ℕ) (w : Triple) (p : Pixel) → let start = bias * 2 ^ precision + (2 ^ (precision - 1) - 1) in Is (before_division precision bias w p) (rise w p + start) (fall w p + 0)
unfolding weighted
sum_is precision bias w p =
    is_add (is_add (is_add (is_times (is_self w.red) p.red) (is_times (is_self w.green) p.green)) (is_times (is_self w.blue) p.blue))
    (is_pos (bias * 2 ^ precision + (2 ^ (precision - 1) - 1)))

pub code_order : (precision bias : ℕ) (w : Triple) (u v : Pixel) → rise w u ≤ rise w v → fall w v ≤ fall w u → T (le_z (signed_code precision bias w u) (signed_code precision bias w v))
unfolding signed_code
code_order precision bias w u v h k = shr_order precision (sum_is precision bias w u) (sum_is precision bias w v) (omega arith)

pub code_nonneg : (precision bias : ℕ) (w : Triple) (p : Pixel) → fall w p ≡ 0 → T (le_z (pos 0) (signed_code precision bias w p))
unfolding signed_code
code_nonneg precision bias w p h = shr_nonneg precision (sum_is precision bias w p) (omega arith)

-- ---- a weight of a known sign only adds, or only takes away
pub adds : {b : ℕ} {z : ℤ} → SignedWithin false b z → np z ≡ 0
adds h = ap np h.sign

pub takes : {b : ℕ} {z : ℤ} → SignedWithin true b z → pp z ≡ 0
takes {z} h = ap pp h.sign ∙ none (nat_abs z)
  where
    none : (k : ℕ) → pp (neg_ℤ (pos k)) ≡ 0
    none zero = refl
    none (suc k) = refl
