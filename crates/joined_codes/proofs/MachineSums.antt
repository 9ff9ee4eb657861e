-- What the machine works out at 64 bits is what the definitions say: a weight times a number, and a start and three products. Assumes nothing.
use mathlib.Core.Path.{◌≡◌, ap, ◌∙◌}
use Prim.Native.Nat.{ℕ, ◌*◌, ◌≤◌}
use native.Mathlib.Omega.{arith}
use lib.IntN.{ℤ, pos, nat_abs, ◌+ℤ◌, ◌*ℤ◌}
use mir.Syntax.{w64}
use mir.Val.{SFits, to_z, of_z}
use mir.ValLaws.{to_z-of_z, to_z_pos}
use Rattle.integer_laws.proofs.Machine.{plus, plus_small, plus_fits}
use Rattle.integer_laws.proofs.Differences.{abs_mul, sfits_abs}

-- ---- a weight times a number
module _ (a : ℤ) (x : ℕ) (ha : SFits w64 a) (hx : x ≤ 281474976710655) (small : nat_abs a * x ≤ 2305807825378467840) where
  weighed_is : to_z w64 (of_z w64 a) *ℤ to_z w64 x ≡ a *ℤ pos x
  weighed_is = λ i. to_z-of_z w64 a ha i *ℤ to_z_pos w64 x (omega arith) i

  pub weighed_small : nat_abs (a *ℤ pos x) ≤ 2305807825378467840
  weighed_small = omega (arith, abs_mul a x)

  weighed_fit : SFits w64 (a *ℤ pos x)
  weighed_fit = sfits_abs (omega (arith, weighed_small))

  pub weighed_fits : SFits w64 (to_z w64 (of_z w64 a) *ℤ to_z w64 x)
  weighed_fits = rw weighed_is weighed_fit

  pub weighed_back : to_z w64 (of_z w64 (to_z w64 (of_z w64 a) *ℤ to_z w64 x)) ≡ a *ℤ pos x
  weighed_back = ap (λ (z : ℤ). to_z w64 (of_z w64 z)) weighed_is ∙ to_z-of_z w64 (a *ℤ pos x) weighed_fit

-- ---- a start and three products, summed
module _ (s a b c : ℤ) (hs : nat_abs s ≤ 2305843009213693951) (ha : nat_abs a ≤ 2305807825378467840) (hb : nat_abs b ≤ 2305807825378467840) (hc : nat_abs c ≤ 2305807825378467840) where
  one : nat_abs (s +ℤ a) ≤ 4611650834592161791
  one = plus_small s a 2305843009213693951 2305807825378467840 hs ha (omega arith)

  two : nat_abs (s +ℤ a +ℤ b) ≤ 6917458659970629631
  two = plus_small (s +ℤ a) b 4611650834592161791 2305807825378467840 one hb (omega arith)

  pub first_is : to_z w64 (of_z w64 s) +ℤ to_z w64 (of_z w64 a) ≡ s +ℤ a
  first_is = plus s a 2305843009213693951 2305807825378467840 hs ha (omega arith)

  pub first_fits : SFits w64 (to_z w64 (of_z w64 s) +ℤ to_z w64 (of_z w64 a))
  first_fits = rw first_is (plus_fits s a 2305843009213693951 2305807825378467840 hs ha (omega arith))

  pub second_is : to_z w64 (of_z w64 (to_z w64 (of_z w64 s) +ℤ to_z w64 (of_z w64 a))) +ℤ to_z w64 (of_z w64 b) ≡ s +ℤ a +ℤ b
  second_is =
      ap (λ (z : ℤ). to_z w64 (of_z w64 z) +ℤ to_z w64 (of_z w64 b)) first_is
      ∙ plus (s +ℤ a) b 4611650834592161791 2305807825378467840 one hb (omega arith)

  pub second_fits : SFits w64 (to_z w64 (of_z w64 (to_z w64 (of_z w64 s) +ℤ to_z w64 (of_z w64 a))) +ℤ to_z w64 (of_z w64 b))
  second_fits = rw second_is (plus_fits (s +ℤ a) b 4611650834592161791 2305807825378467840 one hb (omega arith))

  third_is : to_z w64 (of_z w64 (to_z w64 (of_z w64 (to_z w64 (of_z w64 s) +ℤ to_z w64 (of_z w64 a))) +ℤ to_z w64 (of_z w64 b))) +ℤ to_z w64 (of_z w64 c) ≡ s +ℤ a +ℤ b +ℤ c
  third_is =
      ap (λ (z : ℤ). to_z w64 (of_z w64 z) +ℤ to_z w64 (of_z w64 c)) second_is
      ∙ plus (s +ℤ a +ℤ b) c 6917458659970629631 2305807825378467840 two hc (omega arith)

  third_fit : SFits w64 (s +ℤ a +ℤ b +ℤ c)
  third_fit = plus_fits (s +ℤ a +ℤ b) c 6917458659970629631 2305807825378467840 two hc (omega arith)

  pub third_small : nat_abs (s +ℤ a +ℤ b +ℤ c) ≤ 9223266485349097471
  third_small = plus_small (s +ℤ a +ℤ b) c 6917458659970629631 2305807825378467840 two hc (omega arith)

  pub third_fits : SFits w64 (to_z w64 (of_z w64 (to_z w64 (of_z w64 (to_z w64 (of_z w64 s) +ℤ to_z w64 (of_z w64 a))) +ℤ to_z w64 (of_z w64 b))) +ℤ to_z w64 (of_z w64 c))
  third_fits = rw third_is third_fit

  pub third_back : to_z w64 (of_z w64 (to_z w64 (of_z w64 (to_z w64 (of_z w64 (to_z w64 (of_z w64 s) +ℤ to_z w64 (of_z w64 a))) +ℤ to_z w64 (of_z w64 b))) +ℤ to_z w64 (of_z w64 c))) ≡ s +ℤ a +ℤ b +ℤ c
  third_back = ap (λ (z : ℤ). to_z w64 (of_z w64 z)) third_is ∙ to_z-of_z w64 (s +ℤ a +ℤ b +ℤ c) third_fit
