-- What the sums start from is what the definitions say, and small. Assumes nothing.
use mathlib.Core.Path.{◌≡◌, ap, ◌∙◌}
use Prim.Native.Nat.{ℕ, ◌*◌, ◌≤◌}
use native.Mathlib.Nat.{mul-le-mul}
use native.Mathlib.Omega.{arith}
use lib.IntN.{ℤ, pos, nat_abs, ◌+ℤ◌, ◌-ℤ◌, ◌*ℤ◌}
use mir.Syntax.{w64}
use mir.Val.{SFits, to_z, of_z}
use mir.ValLaws.{to_z-of_z}
use Rattle.integer_laws.proofs.Machine.{plus, plus_small, plus_fits}
use Rattle.integer_laws.proofs.Differences.{abs_mul, sfits_abs}
use Rattle.restoring_weights.proofs.Products.{less_fits, less_back, less_small}

-- a weight times a stored word
product_small : (a : ℤ) (n x y : ℕ) → nat_abs a ≤ x → n ≤ y → nat_abs (a *ℤ pos n) ≤ x * y
product_small a n x y h g =
    let l : nat_abs a * n ≤ x * y = mul-le-mul h g in
    omega (arith, abs_mul a n)

-- ---- the rounding, less luma's bias
module _ (rounding bias : ℕ) (luma : ℤ) (hr : rounding ≤ 524288) (hl : nat_abs luma ≤ 2097152) (hb : bias ≤ 4096) where
  abbrev taken : ℤ
  taken = luma *ℤ pos bias

  taken_small : nat_abs taken ≤ 8589934592
  taken_small = product_small luma bias 2097152 4096 hl hb

  pub start_fits : {z : ℤ} → z ≡ taken → SFits w64 (to_z w64 rounding -ℤ to_z w64 (of_z w64 z))
  start_fits e = rw e (less_fits (pos rounding) taken 524288 8589934592 hr taken_small (omega arith))

  pub start_back : {z : ℤ} → z ≡ taken → to_z w64 (of_z w64 (to_z w64 rounding -ℤ to_z w64 (of_z w64 z))) ≡ pos rounding -ℤ taken
  start_back e =
      ap (λ (z : ℤ). to_z w64 (of_z w64 (to_z w64 rounding -ℤ to_z w64 (of_z w64 z)))) e
      ∙ less_back (pos rounding) taken 524288 8589934592 hr taken_small (omega arith)

  pub start_small : nat_abs (pos rounding -ℤ taken) ≤ 274877906944
  start_small = omega (arith, less_small (pos rounding) taken 524288 8589934592 hr taken_small (omega arith))

-- ---- green's: both biases are added
module _ (bias : ℕ) (start first third : ℤ) (hs : nat_abs start ≤ 274877906944) (hf : nat_abs first ≤ 2097152) (ht : nat_abs third ≤ 2097152) (hb : bias ≤ 65536) where
  one_small : nat_abs (first *ℤ pos bias) ≤ 137438953472
  one_small = product_small first bias 2097152 65536 hf hb

  two_small : nat_abs (third *ℤ pos bias) ≤ 137438953472
  two_small = product_small third bias 2097152 65536 ht hb

  abbrev half : ℤ
  half = start +ℤ first *ℤ pos bias

  half_small : nat_abs half ≤ 412316860416
  half_small = plus_small start (first *ℤ pos bias) 274877906944 137438953472 hs one_small (omega arith)

  abbrev total : ℤ
  total = half +ℤ third *ℤ pos bias

  pub total_small : nat_abs total ≤ 1099511627776
  total_small = omega (arith, plus_small half (third *ℤ pos bias) 412316860416 137438953472 half_small two_small (omega arith))

  total_fit : SFits w64 total
  total_fit = plus_fits half (third *ℤ pos bias) 412316860416 137438953472 half_small two_small (omega arith)

  -- from what was worked out
  half_is : {p a : ℤ} → p ≡ start → a ≡ first *ℤ pos bias → p +ℤ to_z w64 (of_z w64 a) ≡ half
  half_is ep ea =
      let f : SFits w64 (first *ℤ pos bias) = sfits_abs (omega (arith, one_small)) in
      λ i. ep i +ℤ (ap (λ (z : ℤ). to_z w64 (of_z w64 z)) ea ∙ to_z-of_z w64 (first *ℤ pos bias) f) i

  pub half_fits : {p a : ℤ} → p ≡ start → a ≡ first *ℤ pos bias → SFits w64 (p +ℤ to_z w64 (of_z w64 a))
  half_fits ep ea = rw (half_is ep ea) (plus_fits start (first *ℤ pos bias) 274877906944 137438953472 hs one_small (omega arith))

  module _ {p a b : ℤ} (ep : p ≡ start) (ea : a ≡ first *ℤ pos bias) (eb : b ≡ third *ℤ pos bias) where
    total_is : to_z w64 (of_z w64 (p +ℤ to_z w64 (of_z w64 a))) +ℤ to_z w64 (of_z w64 b) ≡ total
    total_is =
        (λ i. to_z w64 (of_z w64 (half_is ep ea i)) +ℤ to_z w64 (of_z w64 (eb i)))
        ∙ plus half (third *ℤ pos bias) 412316860416 137438953472 half_small two_small (omega arith)

    pub total_fits : SFits w64 (to_z w64 (of_z w64 (p +ℤ to_z w64 (of_z w64 a))) +ℤ to_z w64 (of_z w64 b))
    total_fits = rw total_is total_fit

    pub total_back : to_z w64 (of_z w64 (to_z w64 (of_z w64 (p +ℤ to_z w64 (of_z w64 a))) +ℤ to_z w64 (of_z w64 b))) ≡ total
    total_back = ap (λ (z : ℤ). to_z w64 (of_z w64 z)) total_is ∙ to_z-of_z w64 total total_fit
