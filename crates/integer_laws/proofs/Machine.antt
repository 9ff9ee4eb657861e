-- What is read back from the bits of a machine integer is the value: widened numbers, products and sums at 64 bits. Assumes nothing.
use mathlib.Core.Path.{◌≡◌, sym, ap, ◌∙◌, subst}
use Prim.Native.Nat.{ℕ, zero, suc, ◌+◌, ◌*◌, ◌^◌, ◌≤◌, ◌<◌}
use native.Mathlib.Nat.{lt_of_lt_of_le, mul-le-mul}
use native.Mathlib.Omega.{arith}
use mathlib.Core.Bool.{true, false, true≢false}
use lib.Dec.{T, ltb, ltb→lt, lit<, lit≤}
use lib.IntN.{ℤ, pos, negsuc, neg_ℤ, nat_abs, ◌+ℤ◌, ◌-ℤ◌, ◌*ℤ◌, +ℤ_idl}
use lib.Signed.{mag, lt_z, non_neg, nat_abs-le}
use mir.Syntax.{w16, w32, w64}
use mir.Val.{Fits, SFits, to_z, of_z}
use mir.ValLaws.{to_z-of_z, to_z_pos}
use Rattle.integer_laws.proofs.Differences.{abs_mul, abs_plus, sfits_abs}

-- ---- an i32 as an i64
pub widened : (w : ℤ) → SFits w32 w → SFits w64 w
widened w f = record { sfits = lt_of_lt_of_le f.sfits (lit≤ tt) }

pub back32 : (w : ℤ) → SFits w32 w → to_z w32 (of_z w32 w) ≡ w
back32 w f = to_z-of_z w32 w f

pub back : (w : ℤ) → SFits w32 w → to_z w64 (of_z w64 (to_z w32 (of_z w32 w))) ≡ w
back w f = ap (λ (z : ℤ). to_z w64 (of_z w64 z)) (back32 w f) ∙ to_z-of_z w64 w (widened w f)

-- a call's result, whose range is `.ok`
pub got : {y : ℤ} (z : ℤ) → mag z < 2 ^ 63 → z ≡ y → to_z w64 (of_z w64 z) ≡ y
got z h e = to_z-of_z w64 z (record { sfits = h }) ∙ e

-- ---- its size, by way of 0 − w
neg_mag : (w : ℤ) → SFits w32 w → mag (neg_ℤ w) < 2 ^ 63
neg_mag (pos zero) f = lit< tt
neg_mag (pos (suc n)) f = let h : suc n < 2147483648 = f.sfits in omega arith
neg_mag (negsuc n) f = let h : n < 2147483648 = f.sfits in omega arith

pub negated : (w : ℤ) → SFits w32 w → SFits w64 (neg_ℤ w)
negated w f = record { sfits = neg_mag w f }

pub zero_less_back : (w : ℤ) → SFits w32 w → pos 0 -ℤ to_z w64 (of_z w64 (to_z w32 (of_z w32 w))) ≡ neg_ℤ w
zero_less_back w f = +ℤ_idl (neg_ℤ (to_z w64 (of_z w64 (to_z w32 (of_z w32 w))))) ∙ ap neg_ℤ (back w f)

pub minus_back : (w : ℤ) → SFits w32 w → to_z w64 (of_z w64 (pos 0 -ℤ to_z w64 (of_z w64 (to_z w32 (of_z w32 w))))) ≡ neg_ℤ w
minus_back w f = ap (λ (z : ℤ). to_z w64 (of_z w64 z)) (zero_less_back w f) ∙ to_z-of_z w64 (neg_ℤ w) (negated w f)

pub neg_non_neg : (w : ℤ) → lt_z w (pos 0) ≡ true → T (non_neg (neg_ℤ w))
neg_non_neg (pos n) h = absurd (never n (subst T (sym h) tt))
  where
    never : (a : ℕ) → T (ltb a 0) → ⊥
    never a t = let g = ltb→lt a 0 t in omega arith
neg_non_neg (negsuc n) h = tt

pub not_neg : (w : ℤ) → lt_z w (pos 0) ≡ false → T (non_neg w)
not_neg (pos n) h = tt
not_neg (negsuc n) h = absurd (true≢false h)

pub size_le : (w : ℤ) → SFits w32 w → nat_abs w ≤ 2147483648
size_le w f = nat_abs-le w f.sfits

-- ---- minus a number of 31 bits
zero_less : (n : ℕ) → pos 0 -ℤ pos n ≡ neg_ℤ (pos n)
zero_less n = +ℤ_idl (neg_ℤ (pos n))

mag_neg : (n : ℕ) → n < 2147483648 → mag (neg_ℤ (pos n)) < 2147483648
mag_neg zero h = h
mag_neg (suc n) h = omega arith

module _ (n : ℕ) (h : n < 2147483648) where
  minus_is : pos 0 -ℤ to_z w32 n ≡ neg_ℤ (pos n)
  minus_is = ap (λ (z : ℤ). pos 0 -ℤ z) (to_z_pos w32 n h) ∙ zero_less n

  pub minus_fits32 : SFits w32 (pos 0 -ℤ to_z w32 n)
  minus_fits32 = record { sfits = subst (λ (z : ℤ). mag z < 2147483648) (sym minus_is) (mag_neg n h) }

  pub minus_back32 : to_z w32 (of_z w32 (pos 0 -ℤ to_z w32 n)) ≡ neg_ℤ (pos n)
  minus_back32 = to_z-of_z w32 (pos 0 -ℤ to_z w32 n) minus_fits32 ∙ minus_is

-- ---- a widened 32-bit number times a widened 16-bit one
module _ (a : ℤ) (x : ℕ) (ha : SFits w32 a) (hx : Fits w16 x) where
  pub times : to_z w64 (of_z w64 (to_z w32 (of_z w32 a))) *ℤ to_z w64 x ≡ a *ℤ pos x
  times = λ i. back a ha i *ℤ to_z_pos w64 x (omega (arith, hx.fits)) i

  pub times_small : nat_abs (a *ℤ pos x) ≤ 140737488355328
  times_small =
      let hx' : x ≤ 65535 = omega (arith, hx.fits) in
      let k : nat_abs a * x ≤ 2147483648 * 65535 = mul-le-mul (size_le a ha) hx' in
      omega (arith, abs_mul a x)

  pub times_fits : SFits w64 (a *ℤ pos x)
  times_fits = sfits_abs (omega (arith, times_small))

-- ---- the sum of two 64-bit numbers, of which the sizes are known
module _ (a b : ℤ) (m n : ℕ) (ha : nat_abs a ≤ m) (hb : nat_abs b ≤ n) (hs : m + n < 2 ^ 63) where
  pub plus : to_z w64 (of_z w64 a) +ℤ to_z w64 (of_z w64 b) ≡ a +ℤ b
  plus =
      let fa : SFits w64 a = sfits_abs (omega arith) in
      let fb : SFits w64 b = sfits_abs (omega arith) in
      λ i. to_z-of_z w64 a fa i +ℤ to_z-of_z w64 b fb i

  pub plus_small : nat_abs (a +ℤ b) ≤ m + n
  plus_small = omega (arith, abs_plus a b)

  pub plus_fits : SFits w64 (a +ℤ b)
  plus_fits = sfits_abs (omega (arith, abs_plus a b))

-- three products, summed
module _ (a b c : ℤ) (ha : nat_abs a ≤ 140737488355328) (hb : nat_abs b ≤ 140737488355328) (hc : nat_abs c ≤ 140737488355328) where
  two : nat_abs (a +ℤ b) ≤ 281474976710656
  two = plus_small a b 140737488355328 140737488355328 ha hb (omega arith)

  pub plus3_small : nat_abs (a +ℤ b +ℤ c) ≤ 422212465065984
  plus3_small = plus_small (a +ℤ b) c 281474976710656 140737488355328 two hc (omega arith)

  pub plus3 : to_z w64 (of_z w64 (to_z w64 (of_z w64 a) +ℤ to_z w64 (of_z w64 b))) +ℤ to_z w64 (of_z w64 c) ≡ a +ℤ b +ℤ c
  plus3 =
      ap (λ (z : ℤ). to_z w64 (of_z w64 z) +ℤ to_z w64 (of_z w64 c)) (plus a b 140737488355328 140737488355328 ha hb (omega arith))
      ∙ plus (a +ℤ b) c 281474976710656 140737488355328 two hc (omega arith)

  pub plus3_fits : SFits w64 (a +ℤ b +ℤ c)
  plus3_fits = sfits_abs (omega (arith, plus3_small))
