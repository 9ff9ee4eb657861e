-- What the machine works out at 64 bits is what the definitions say: a weight times a number, and a difference. Assumes nothing.
use mathlib.Core.Path.{◌≡◌, ap, ◌∙◌}
use Prim.Native.Nat.{ℕ, ◌+◌, ◌*◌, ◌^◌, ◌≤◌, ◌<◌}
use native.Mathlib.Omega.{arith}
use lib.IntN.{ℤ, pos, neg_ℤ, nat_abs, ◌-ℤ◌, ◌*ℤ◌}
use mir.Syntax.{w32, w64}
use mir.Val.{Fits, SFits, to_z, of_z}
use mir.ValLaws.{to_z-of_z, to_z_pos}
use Rattle.integer_laws.proofs.Machine.{back}
use Rattle.integer_laws.proofs.Differences.{abs_neg, abs_mul, abs_plus, sfits_abs}

-- ---- a number whose size is known

pub small_back : (z : ℤ) → nat_abs z ≤ 2097152 → to_z w64 (of_z w64 z) ≡ z
small_back z h = to_z-of_z w64 z (sfits_abs (omega arith))

-- what is read back has that size too
pub back_small : (z : ℤ) → nat_abs z ≤ 2097152 → nat_abs (to_z w64 (of_z w64 z)) ≤ 2097152
back_small z h = rw (small_back z h) h

-- ---- a weight times a number
module _ (a : ℤ) (x : ℕ) (hx : Fits w32 x) (small : nat_abs a * x ≤ 549755813888) where
  product_fit : SFits w64 (a *ℤ pos x)
  product_fit = sfits_abs (omega (arith, abs_mul a x))

  -- a product that is known
  pub product_fits : {z : ℤ} → z ≡ a *ℤ pos x → SFits w64 z
  product_fits e = rw e product_fit

  pub product_back : {z : ℤ} → z ≡ a *ℤ pos x → to_z w64 (of_z w64 z) ≡ a *ℤ pos x
  product_back e = ap (λ (z : ℤ). to_z w64 (of_z w64 z)) e ∙ to_z-of_z w64 (a *ℤ pos x) product_fit

  -- the weight at 64 bits
  pub weighed_is : SFits w64 a → to_z w64 (of_z w64 a) *ℤ to_z w64 x ≡ a *ℤ pos x
  weighed_is ha = λ i. to_z-of_z w64 a ha i *ℤ to_z_pos w64 x (omega (arith, hx.fits)) i

  -- the weight at 32 bits, widened
  pub scaled_is : SFits w32 a → to_z w64 (of_z w64 (to_z w32 (of_z w32 a))) *ℤ to_z w64 x ≡ a *ℤ pos x
  scaled_is ha = λ i. back a ha i *ℤ to_z_pos w64 x (omega (arith, hx.fits)) i

-- ---- the difference of two numbers, of which the sizes are known
module _ (a b : ℤ) (m n : ℕ) (ha : nat_abs a ≤ m) (hb : nat_abs b ≤ n) (hs : m + n < 2 ^ 63) where
  pub less : to_z w64 (of_z w64 a) -ℤ to_z w64 (of_z w64 b) ≡ a -ℤ b
  less =
      let fa : SFits w64 a = sfits_abs (omega arith) in
      let fb : SFits w64 b = sfits_abs (omega arith) in
      λ i. to_z-of_z w64 a fa i -ℤ to_z-of_z w64 b fb i

  pub less_small : nat_abs (a -ℤ b) ≤ m + n
  less_small = omega (arith, abs_plus a (neg_ℤ b), abs_neg b)

  less_fit : SFits w64 (a -ℤ b)
  less_fit = sfits_abs (omega (arith, less_small))

  pub less_fits : SFits w64 (to_z w64 (of_z w64 a) -ℤ to_z w64 (of_z w64 b))
  less_fits = rw less less_fit

  pub less_back : to_z w64 (of_z w64 (to_z w64 (of_z w64 a) -ℤ to_z w64 (of_z w64 b))) ≡ a -ℤ b
  less_back = ap (λ (z : ℤ). to_z w64 (of_z w64 z)) less ∙ to_z-of_z w64 (a -ℤ b) less_fit
