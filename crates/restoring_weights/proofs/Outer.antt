-- The weights of a pixel's first or third element are what the definition says, and small. Assumes nothing.
use mathlib.Core.Path.{◌≡◌, ap, ◌∙◌, subst⁻¹}
use Prim.Native.Nat.{ℕ, ◌*◌, ◌≤◌}
use native.Mathlib.Nat.{mul-le-mul}
use native.Mathlib.Omega.{arith}
use lib.IntN.{ℤ, pos, nat_abs, ◌-ℤ◌, ◌*ℤ◌}
use mir.Syntax.{w64}
use mir.Val.{SFits, to_z, of_z}
use Rattle.integer_laws.proofs.Differences.{abs_mul}
use Rattle.restoring_weights.specs.declared.ChromaSide.{ChromaSide}
use Rattle.restoring_weights.specs.declared.OuterWeights.{OuterWeights}
use Rattle.restoring_weights.specs.RestoringWeights.{outer_weights, SmallOuter}
use Rattle.restoring_weights.proofs.Products.{less_fits, less_back, less_small}

module _ (scale bias : ℕ) (start : ℤ) (side : ChromaSide) (at : side.at ≤ 1) (own : nat_abs side.own * scale ≤ 2097152) (green : nat_abs side.green * scale ≤ 2097152) (few : bias ≤ 65536) (begin : nat_abs start ≤ 274877906944) where
  -- what the bias adds, which is taken away
  abbrev taken : ℤ
  taken = side.own *ℤ pos scale *ℤ pos bias

  taken_small : nat_abs taken ≤ 137438953472
  taken_small =
      let l : nat_abs side.own * scale * bias ≤ 2097152 * 65536 = mul-le-mul own few in
      omega (arith, abs_mul (side.own *ℤ pos scale) bias, ap (λ (n : ℕ). n * bias) (abs_mul side.own scale))

  pub start_fits : {z : ℤ} → z ≡ taken → SFits w64 (to_z w64 (of_z w64 start) -ℤ to_z w64 (of_z w64 z))
  start_fits e = rw e (less_fits start taken 274877906944 137438953472 begin taken_small (omega arith))

  pub start_back : {z : ℤ} → z ≡ taken → to_z w64 (of_z w64 (to_z w64 (of_z w64 start) -ℤ to_z w64 (of_z w64 z))) ≡ start -ℤ taken
  start_back e =
      ap (λ (z : ℤ). to_z w64 (of_z w64 (to_z w64 (of_z w64 start) -ℤ to_z w64 (of_z w64 z)))) e
      ∙ less_back start taken 274877906944 137438953472 begin taken_small (omega arith)

  outer_small : SmallOuter (outer_weights scale bias start side)
  outer_small = record {
    at = at;
    own = omega (arith, abs_mul side.own scale);
    green = omega (arith, abs_mul side.green scale);
    start = omega (arith, less_small start taken 274877906944 137438953472 begin taken_small (omega arith));
  }

  -- the record of what was worked out
  pub outer_made : {a b z : ℤ} → a ≡ side.own *ℤ pos scale → b ≡ side.green *ℤ pos scale → z ≡ start -ℤ taken
      → (◌≡◌ {A = OuterWeights} (record { at = side.at; own = a; green = b; start = z }) (outer_weights scale bias start side)) × SmallOuter (record { at = side.at; own = a; green = b; start = z })
  outer_made {a} {b} {z} p q r =
      let e : ◌≡◌ {A = OuterWeights} (record { at = side.at; own = a; green = b; start = z }) (outer_weights scale bias start side) =
      λ i. record { at = side.at; own = p i; green = q i; start = r i } in
      (e, subst⁻¹ SmallOuter e outer_small)
