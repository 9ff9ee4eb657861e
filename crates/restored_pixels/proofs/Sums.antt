-- Sums at 64 bits are what the definitions say. Assumes nothing.
use mathlib.Core.Path.{◌≡◌, ap, ◌∙◌, subst⁻¹}
use Prim.Native.Nat.{ℕ, ◌+◌, ◌*◌, ◌≤◌}
use native.Mathlib.Nat.{mul-le-mul}
use native.Mathlib.Omega.{arith}
use lib.IntN.{ℤ, pos, nat_abs, neg_ℤ, ◌+ℤ◌, ◌-ℤ◌, ◌*ℤ◌}
use mir.Syntax.{w64}
use mir.Val.{SFits, to_z, of_z}
use mir.ValLaws.{to_z-of_z}
use Rattle.integer_laws.proofs.Machine.{plus, plus_small, plus_fits}
use Rattle.integer_laws.proofs.Differences.{abs_mul, abs_neg, sfits_abs}

-- ---- a number and a product
module _ (start weight z : ℤ) (n : ℕ) (hs : nat_abs start ≤ 2199023255552) (hw : nat_abs weight ≤ 2097152) (hn : n ≤ 65535)
    (e : z ≡ to_z w64 (of_z w64 weight) *ℤ pos n) where
  product : z ≡ weight *ℤ pos n
  product = e ∙ ap (λ (x : ℤ). x *ℤ pos n) (to_z-of_z w64 weight (sfits_abs (omega (arith, hw))))

  product_small : nat_abs z ≤ 137438953472
  product_small =
      let k : nat_abs weight * n ≤ 2097152 * 65535 = mul-le-mul hw hn in
      let l : nat_abs (weight *ℤ pos n) ≤ 137438953472 = omega (arith, k, abs_mul weight n) in
      subst⁻¹ (λ (x : ℤ). nat_abs x ≤ 137438953472) product l

  start_fits : SFits w64 start
  start_fits = sfits_abs (omega (arith, hs))

  product_fits : SFits w64 z
  product_fits = sfits_abs (omega (arith, product_small))

  sum : to_z w64 (of_z w64 start) +ℤ to_z w64 (of_z w64 z) ≡ start +ℤ z
  sum = plus start z 2199023255552 137438953472 hs product_small (omega arith)

  pub sum_fits : SFits w64 (to_z w64 (of_z w64 start) +ℤ to_z w64 (of_z w64 z))
  sum_fits = rw sum (plus_fits start z 2199023255552 137438953472 hs product_small (omega arith))

  pub sum_back : to_z w64 (of_z w64 (to_z w64 (of_z w64 start) +ℤ to_z w64 (of_z w64 z))) ≡ start +ℤ weight *ℤ pos n
  sum_back =
      ap (λ (x : ℤ). to_z w64 (of_z w64 x)) sum
      ∙ to_z-of_z w64 (start +ℤ z) (plus_fits start z 2199023255552 137438953472 hs product_small (omega arith))
      ∙ ap (λ (x : ℤ). start +ℤ x) product

  pub sum_small : nat_abs (to_z w64 (of_z w64 (to_z w64 (of_z w64 start) +ℤ to_z w64 (of_z w64 z)))) ≤ nat_abs start + 137438953472
  sum_small =
      let le : nat_abs start ≤ nat_abs start = omega arith in
      subst⁻¹ (λ (x : ℤ). nat_abs x ≤ nat_abs start + 137438953472) (ap (λ (x : ℤ). to_z w64 (of_z w64 x)) sum ∙ to_z-of_z w64 (start +ℤ z) (plus_fits start z 2199023255552 137438953472 hs product_small (omega arith)))
      (plus_small start z (nat_abs start) 137438953472 le product_small (omega arith))

  -- and their difference
  less_small : nat_abs (neg_ℤ z) ≤ 137438953472
  less_small = omega (arith, abs_neg z, product_small)

  less : to_z w64 (of_z w64 start) -ℤ to_z w64 (of_z w64 z) ≡ start -ℤ z
  less = λ i. to_z-of_z w64 start start_fits i -ℤ to_z-of_z w64 z product_fits i

  less_fit : SFits w64 (start -ℤ z)
  less_fit = plus_fits start (neg_ℤ z) 2199023255552 137438953472 hs less_small (omega arith)

  pub less_fits : SFits w64 (to_z w64 (of_z w64 start) -ℤ to_z w64 (of_z w64 z))
  less_fits = rw less less_fit

  pub less_back : to_z w64 (of_z w64 (to_z w64 (of_z w64 start) -ℤ to_z w64 (of_z w64 z))) ≡ start -ℤ weight *ℤ pos n
  less_back = ap (λ (x : ℤ). to_z w64 (of_z w64 x)) less ∙ to_z-of_z w64 (start -ℤ z) less_fit ∙ ap (λ (x : ℤ). start -ℤ x) product

  pub less_within : nat_abs (to_z w64 (of_z w64 (to_z w64 (of_z w64 start) -ℤ to_z w64 (of_z w64 z)))) ≤ nat_abs start + 137438953472
  less_within =
      let le : nat_abs start ≤ nat_abs start = omega arith in
      subst⁻¹ (λ (x : ℤ). nat_abs x ≤ nat_abs start + 137438953472) (ap (λ (x : ℤ). to_z w64 (of_z w64 x)) less ∙ to_z-of_z w64 (start -ℤ z) less_fit)
      (plus_small start (neg_ℤ z) (nat_abs start) 137438953472 le less_small (omega arith))

-- ---- a number less two products
module _ (start v w y z : ℤ) (m n : ℕ) (hs : nat_abs start ≤ 1099511627776) (hv : nat_abs v ≤ 2097152) (hw : nat_abs w ≤ 2097152) (hm : m ≤ 65535) (hn : n ≤ 65535)
    (ey : y ≡ to_z w64 (of_z w64 v) *ℤ pos m) (ez : z ≡ to_z w64 (of_z w64 w) *ℤ pos n) where
  wide : nat_abs start ≤ 2199023255552
  wide = omega (arith, hs)

  abbrev one : ℤ
  one = start -ℤ v *ℤ pos m

  one_is : to_z w64 (of_z w64 start) -ℤ to_z w64 (of_z w64 y) ≡ one
  one_is = less start v y m wide hv hm ey ∙ ap (λ (x : ℤ). start -ℤ x) (product start v y m wide hv hm ey)

  one_small : nat_abs one ≤ 1236950581248
  one_small = omega (arith, ap nat_abs (less_back start v y m wide hv hm ey), less_within start v y m wide hv hm ey, hs)

  one_wide : nat_abs one ≤ 2199023255552
  one_wide = omega (arith, one_small)

  pub twice_fits : SFits w64 (to_z w64 (of_z w64 (to_z w64 (of_z w64 start) -ℤ to_z w64 (of_z w64 y))) -ℤ to_z w64 (of_z w64 z))
  twice_fits = rw one_is (less_fits one w z n one_wide hw hn ez)

  pub twice_back : to_z w64 (of_z w64 (to_z w64 (of_z w64 (to_z w64 (of_z w64 start) -ℤ to_z w64 (of_z w64 y))) -ℤ to_z w64 (of_z w64 z))) ≡ start -ℤ v *ℤ pos m -ℤ w *ℤ pos n
  twice_back = ap (λ (x : ℤ). to_z w64 (of_z w64 (to_z w64 (of_z w64 x) -ℤ to_z w64 (of_z w64 z)))) one_is ∙ less_back one w z n one_wide hw hn ez

  pub twice_small : nat_abs (to_z w64 (of_z w64 (to_z w64 (of_z w64 (to_z w64 (of_z w64 start) -ℤ to_z w64 (of_z w64 y))) -ℤ to_z w64 (of_z w64 z)))) ≤ 2199023255552
  twice_small =
      rw one_is (omega (arith, less_within one w z n one_wide hw hn ez, one_small))
