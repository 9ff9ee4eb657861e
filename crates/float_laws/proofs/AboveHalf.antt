-- 2 ^ -26 added to a 32-bit float that is not negative: in 64 bits the sum is nearer than a half to the float's nearest whole number, a half up. Assumes nothing.
use mathlib.Core.Path.{◌≡◌, refl, sym, ap, ◌∙◌, subst}
use Prim.Native.Nat.{ℕ, suc, ◌+◌, ◌-◌, ◌*◌, ◌^◌, ◌≤◌, ◌<◌}
use native.Mathlib.Nat.{le_trans, le_of_eq, lt_of_le_of_lt, one-mul, mul_assoc, mul_right_comm, mul-mul-mul_comm, add-mul, mul-sub, mul_comm, le_of_mul-le-mul_right, pow-suc}
use native.Mathlib.Omega.{arith}
use mathlib.Core.Bool.{Bool, true, false, not, ◌&&◌, cond}
use lib.Dec.{T, ltb, leb, ltb→lt, leb→le, nleb→lt, nltb→le, lit<}
use lib.IntN.{pos, negsuc}
use lib.Pow.{pow_pos}
use lib.Ieee.{Float, nan, inf, fin, binary32, binary64, up, down, round, add, sum, lt, fits}
use lib.Ieee.Fits.{down_pos}
use lib.Ieee.Positive.{num, den, den_pos}
use Rattle.rules.specs.Weights.{nought, half_up}
use Rattle.float_laws.proofs.Values.{fits_small}
use Rattle.float_laws.proofs.Rounding.{top, no, minus_nought}
use Rattle.float_laws.proofs.Halves.{within_half}
use Rattle.float_laws.proofs.NearestWhole.{NearestTo}
use Rattle.float_laws.proofs.Between.{held_between}

abbrev pub lift : Float
lift = fin false 1 (negsuc 25)

-- a / c with 2 ^ -26 on top, as a 64-bit float
abbrev pub lifted : ℕ → ℕ → Float
lifted a c = round binary64 false (a * 2 ^ 26 + c) (c * 2 ^ 26)

sub_mul : (a b c : ℕ) → (a - b) * c ≡ a * c - b * c
sub_mul a b c = mul_comm (a - b) c ∙ mul-sub c a b ∙ ap (λ (z : ℕ). z - c * b) (mul_comm c a) ∙ ap (λ (z : ℕ). a * c - z) (mul_comm c b)

-- ---- a whole number below 2 ^ 31
whole_near : (a : ℕ) → a < 2 ^ 31 → NearestTo a (lifted a 1)
whole_near a b =
    let y = lifted a 1 in
    let q = den y in
    let k = held_between (a * 2 ^ 26 + 1) (1 * 2 ^ 26) 21 1053 (a * 2 ^ 21) (a * 2 ^ 21 + 1) (lit< tt) (omega arith) refl tt (omega arith) (omega arith) (omega arith) (omega arith) (omega arith) in
    let lo : a * q * 2 ^ 21 ≤ num y * 2 ^ 21 = le_trans (le_of_eq (mul_right_comm a q (2 ^ 21))) k.1 in
    let hi : num y * 2 ^ 21 ≤ a * q * 2 ^ 21 + 1 * q = le_trans k.2 (le_of_eq (add-mul (a * 2 ^ 21) 1 q ∙ ap (λ (z : ℕ). z + 1 * q) (mul_right_comm a (2 ^ 21) q))) in
    let Q = den_pos y in
    (k.0, (omega arith, omega arith))

-- ---- a fraction m / d with d = 2 * e, and n for its nearest whole number, a half up
module _ (m e n : ℕ) (M : m < 2 ^ 24) (E : 0 < e) (lo : n * (e * 2 * 2) ≤ m * 2 + e * 2) (hi : m * 2 < n * (e * 2 * 2) + e * 2) where
  by_four : n * (e * 2 * 2) ≡ n * e * 4
  by_four = ap (λ (z : ℕ). n * z) (mul_assoc e 2 2) ∙ sym (mul_assoc n e 4)

  -- 2 ^ -25 at least is missing to the half above n
  missing : m * 2 ^ 26 + e * 4 ≤ n * e * 2 ^ 27 + e * 2 ^ 26
  missing = by_size (leb e (2 ^ 24)) (leb→le e (2 ^ 24)) (nleb→lt e (2 ^ 24))
    where
      by_size : (b : Bool) → (T b → e ≤ 2 ^ 24) → (T (not b) → 2 ^ 24 < e) → m * 2 ^ 26 + e * 4 ≤ n * e * 2 ^ 27 + e * 2 ^ 26
      by_size true coarse fine = omega (arith, by_four, hi, coarse tt)
      by_size false coarse fine = omega (arith, M, fine tt)

  small : n ≤ 2 ^ 24
  small = le_of_mul-le-mul_right {k = e * 4} (le_trans (le_of_eq (sym (mul_assoc n e 4))) (omega (arith, by_four, lo, M, E))) (omega arith)

  abbrev z : Float
  z = lifted m (e * 2)

  times : n * 2 ^ 26 * (e * 2 * 2 ^ 26) ≡ n * e * 2 ^ 53
  times = mul-mul-mul_comm n (2 ^ 26) (e * 2) (2 ^ 26) ∙ ap (λ (x : ℕ). x * 2 ^ 52) (sym (mul_assoc n e 2)) ∙ mul_assoc (n * e) 2 (2 ^ 52)

  -- n - 1 / 2 + 2 ^ -26 and n + 1 / 2 - 2 ^ -26, in units of 2 ^ -26
  abbrev lowest : ℕ
  lowest = n * 2 ^ 26 - 33554431

  abbrev highest : ℕ
  highest = n * 2 ^ 26 + 33554431

  not_lower : lowest * (e * 2 * 2 ^ 26) ≤ (m * 2 ^ 26 + e * 2) * 2 ^ 26
  not_lower = omega (arith, by_four, lo, times, sub_mul (n * 2 ^ 26) 33554431 (e * 2 * 2 ^ 26))

  not_higher : (m * 2 ^ 26 + e * 2) * 2 ^ 26 ≤ highest * (e * 2 * 2 ^ 26)
  not_higher = omega (arith, missing, times, add-mul (n * 2 ^ 26) 33554431 (e * 2 * 2 ^ 26))

  fraction_near : NearestTo n z
  fraction_near =
      let q = den z in
      let k = held_between (m * 2 ^ 26 + e * 2) (e * 2 * 2 ^ 26) 26 1048 lowest highest (omega arith) (omega arith) refl tt (omega (arith, small)) (omega (arith, small)) (omega arith) not_lower not_higher in
      let s : n * 2 ^ 26 * q ≡ n * q * 2 ^ 26 = mul_right_comm n (2 ^ 26) q in
      let l = sub_mul (n * 2 ^ 26) 33554431 q in
      let u = add-mul (n * 2 ^ 26) 33554431 q in
      let Q = den_pos z in
      (k.0, (omega (arith, k.1, s, l, Q), omega (arith, k.2, s, u, Q)))

-- ---- a 32-bit float x that is not negative and below 2 ^ 31
pub sum_is : (x : Float) → lt x nought ≡ false → lt x top ≡ true → add binary64 x lift ≡ lifted (num x) (den x)
unfolding lt add sum
sum_is nan a b = no b
sum_is (inf true) a b = no (sym a)
sum_is (inf false) a b = no b
sum_is (fin false m e) a b = ap (λ (d : ℕ). round binary64 false (m * up e * 2 ^ 26 + d) (down e * 2 ^ 26)) (one-mul (down e))
sum_is (fin true m e) a b = go (ltb (m * up e * 2 ^ 26) (1 * 1 * down e)) (nltb→le (m * up e * 2 ^ 26) (1 * 1 * down e))
  where
    none : m * up e ≡ 0
    none = minus_nought m e a

    go : (t : Bool) → (T (not t) → 1 * 1 * down e ≤ m * up e * 2 ^ 26)
        → cond t (round binary64 false (1 * 1 * down e - m * up e * 2 ^ 26) (down e * 2 ^ 26)) (round binary64 (true && ltb (1 * 1 * down e) (m * up e * 2 ^ 26)) (m * up e * 2 ^ 26 - 1 * 1 * down e) (down e * 2 ^ 26))
        ≡ lifted (m * up e) (down e)
    go true f = ap (λ (z : ℕ). round binary64 false z (down e * 2 ^ 26)) (omega (arith, none))
    go false f = absurd (omega (arith, none, f tt, down_pos e))

below_top : (x : Float) → lt x nought ≡ false → lt x top ≡ true → num x < 2 ^ 31 * den x
unfolding lt
below_top nan a b = no b
below_top (inf true) a b = no (sym a)
below_top (inf false) a b = no b
below_top (fin false m e) a b = let h = ltb→lt (m * up e * 1) (1 * 2 ^ 31 * down e) (subst T (sym b) tt) in omega arith
below_top (fin true m e) a b = omega (arith, minus_nought m e a, down_pos e)

few_digits : (s : Bool) (m k : ℕ) → T (fits binary32 (fin s m (negsuc k))) → lt (fin s m (negsuc k)) nought ≡ false → m * 1 < 2 ^ 24
few_digits true m k f a = omega (arith, minus_nought m (negsuc k) a)
few_digits false m k f a = let h = fits_small m (negsuc k) f in omega arith

fraction_at : (m c e : ℕ) → c ≡ e * 2 → 0 < e → m < 2 ^ 24 → NearestTo (half_up m c) (lifted m c) × (half_up m c ≤ 2 ^ 24)
fraction_at m c e w E M =
    subst (λ (c : ℕ). NearestTo (half_up m c) (lifted m c) × (half_up m c ≤ 2 ^ 24)) (sym w)
    (let h = within_half m (e * 2) (omega arith) in
    (fraction_near m e (half_up m (e * 2)) M E h.0 h.1, small m e (half_up m (e * 2)) M E h.0 h.1))

whole_at : (a : ℕ) → a < 2 ^ 31 → NearestTo (half_up a 1) (lifted a 1) × (half_up a 1 < 2 ^ 31)
whole_at a h =
    let e : half_up a 1 ≡ a = omega arith in
    (subst (λ (n : ℕ). NearestTo n (lifted a 1)) (sym e) (whole_near a h), omega arith)

pub near : (x : Float) → T (fits binary32 x) → lt x nought ≡ false → lt x top ≡ true
    → NearestTo (half_up (num x) (den x)) (lifted (num x) (den x)) × (half_up (num x) (den x) < 2 ^ 31)
near nan f a b = whole_at 0 (lit< tt)
near (inf s) f a b = whole_at 0 (lit< tt)
near (fin s m (pos k)) f a b = whole_at (m * 2 ^ k) (let h = below_top (fin s m (pos k)) a b in omega arith)
near (fin s m (negsuc k)) f a b =
    let n = fraction_at (m * 1) (2 ^ suc k) (2 ^ k) (pow-suc 2 k) (pow_pos k) (few_digits s m k f a) in
    (n.0, lt_of_le_of_lt n.1 (lit< tt))
