-- `restoring_weights::restoring_weights` meets its contract.
use mathlib.Core.Path.{◌≡◌, refl, ap, ◌∙◌, subst⁻¹}
use Prim.Native.Nat.{ℕ, ◌*◌, ◌^◌, ◌≤◌}
use native.Mathlib.Omega.{arith}
use lib.IntN.{ℤ, pos, nat_abs, ◌+ℤ◌, ◌-ℤ◌, ◌*ℤ◌}
use mir.Syntax.{w64}
use mir.Val.{to_z, of_z}
use Rattle.rules.specs.declared.Settings.{Settings}
use Rattle.rules.specs.declared.InverseWeights.{InverseWeights}
use Rattle.rule_laws.specs.Usable.{Reach}
use Rattle.inverse_bounds.specs.Bounds.{InverseWithin}
use Rattle.integer_laws.proofs.Machine.{back32}
use Rattle.restoring_weights.specs.declared.OuterWeights.{OuterWeights}
use Rattle.restoring_weights.specs.RestoringWeights.{scale_of, bias_word_y, bias_word_uv, luma_weight, luma_start, first_side, third_side, outer_weights, outer_of, SmallOuter}
use Rattle.restoring_weights.proofs.Products.{small_back, back_small}
use Rattle.restoring_weights.proofs.Sizes.{scaled_small, word_y_small, word_uv_small, side_small, first_small, third_small}
use Rattle.restoring_weights.proofs.Starts.{start_back, start_small, half_fits, total_fits, total_back, total_small}
use Rattle.restoring_weights.proofs.restoring_weights.Goals as goal
use Rattle.restoring_weights.proofs.restoring_weights.Goals.{After-scaled-luma, After-struct_known-1, After-struct_told-2-1, After-weigh, After-weigh-2, After-weigh-3}

-- ---- the scale and the biases that were worked out
module _ (c : After-struct_known-1) where
  abbrev s : Settings
  s = c.args.s

  abbrev w : InverseWeights
  w = c.args.w

  abbrev reach : Reach s
  reach = c.requires.reach

  abbrev within : InverseWithin (4 * 2 ^ s.precision) w
  within = c.requires.inverse_within

  abbrev scale : ℕ
  scale = c.scale_of-scale.result

  scale_is : scale ≡ scale_of s
  scale_is = c.scale_of-scale.ensures.0

  abbrev word_y : ℕ
  word_y = c.get_yuv_range-g.result.bias_y * c.from-factor.result

  y_is : word_y ≡ bias_word_y s
  y_is = λ i. (c.get_yuv_range-g.ensures i).bias_y * (c.from-factor.ensures ∙ c.packing_factor.ensures.0) i

  y_small : word_y ≤ 4096
  y_small = subst⁻¹ (λ (n : ℕ). n ≤ 4096) y_is (word_y_small s reach)

  abbrev word_uv : ℕ
  word_uv = c.get_yuv_range-g.result.bias_uv * c.from-factor.result

  uv_is : word_uv ≡ bias_word_uv s
  uv_is = λ i. (c.get_yuv_range-g.ensures i).bias_uv * (c.from-factor.ensures ∙ c.packing_factor.ensures.0) i

  uv_small : word_uv ≤ 32768
  uv_small = subst⁻¹ (λ (n : ℕ). n ≤ 32768) uv_is (word_uv_small s reach)

pub scaled-luma-requires : goal.scaled-luma-requires
scaled-luma-requires c =
    subst⁻¹ (λ (z : ℤ). nat_abs z * scale (goal.at.scaled-luma-requires c).After-struct_known-1 ≤ 2097152) (back32 (w (goal.at.scaled-luma-requires c).After-struct_known-1).y_coef (record { sfits = c.struct_told-1.given.0.1 }))
    (scaled_small (s (goal.at.scaled-luma-requires c).After-struct_known-1) (reach (goal.at.scaled-luma-requires c).After-struct_known-1) (scale_is (goal.at.scaled-luma-requires c).After-struct_known-1) (w (goal.at.scaled-luma-requires c).After-struct_known-1).y_coef (within (goal.at.scaled-luma-requires c).After-struct_known-1).luma.size)

-- ---- luma's weight
module _ (c : After-scaled-luma) where
  abbrev d : After-struct_known-1
  d = (goal.at.After-scaled-luma c).After-struct_known-1

  abbrev luma : ℤ
  luma = to_z w64 (of_z w64 c.scaled-luma.result)

  luma_is : luma ≡ luma_weight (s d) (w d)
  luma_is =
      small_back c.scaled-luma.result c.scaled-luma.ensures.1
      ∙ c.scaled-luma.ensures.0
      ∙ (λ i. back32 (w d).y_coef (record { sfits = c.struct_told-1.given.0.1 }) i *ℤ pos (scale_is d i))

  luma_small : nat_abs luma ≤ 2097152
  luma_small = back_small c.scaled-luma.result c.scaled-luma.ensures.1

pub overflow_mul-g : goal.overflow_mul-g
overflow_mul-g c = record { fits = omega (arith, y_small (goal.at.overflow_mul-g c).After-struct_known-1) }

pub weigh-requires : goal.weigh-requires
weigh-requires c = (luma_small (goal.at.weigh-requires c).After-scaled-luma, omega (arith, y_small (goal.at.weigh-requires c).After-struct_known-1))

-- ---- what each sum starts from, before the chroma's biases
module _ (c : After-weigh) where
  abbrev e : After-scaled-luma
  e = (goal.at.After-weigh c).After-scaled-luma

  abbrev start : ℤ
  start = to_z w64 (of_z w64 (to_z w64 (of_z w64 c.from.result) -ℤ to_z w64 (of_z w64 c.weigh.result)))

  start_worked : start ≡ pos c.rounding.result -ℤ luma e *ℤ pos (word_y (d e))
  start_worked =
      ap (λ (z : ℤ). to_z w64 (of_z w64 (to_z w64 (of_z w64 z) -ℤ to_z w64 (of_z w64 c.weigh.result)))) c.from.ensures
      ∙ start_back c.rounding.result (word_y (d e)) (luma e) c.rounding.ensures.1 (luma_small e) (y_small (d e)) c.weigh.ensures.0

  start_is : start ≡ luma_start (s (d e)) (w (d e))
  start_is = start_worked ∙ (λ i. pos (c.rounding.ensures.0 i) -ℤ luma_is e i *ℤ pos (y_is (d e) i))

  begin : nat_abs start ≤ 274877906944
  begin =
      subst⁻¹ (λ (z : ℤ). nat_abs z ≤ 274877906944) start_worked
      (start_small c.rounding.result (word_y (d e)) (luma e) c.rounding.ensures.1 (luma_small e) (y_small (d e)))

pub outer_weights-first-requires-clause-bias_bound : goal.outer_weights-first-requires-clause-bias_bound
outer_weights-first-requires-clause-bias_bound c =
    let k = d (e (goal.at.outer_weights-first-requires-clause-bias_bound c).After-weigh) in
    let x = side_small (s k) (reach k) (scale_is k) (λ i. (c.sides.ensures i).0) (first_small (within k) (s k).channels (s k).order) in
    (omega (arith, uv_small k), begin (goal.at.outer_weights-first-requires-clause-bias_bound c).After-weigh)

pub outer_weights-first-requires-clause-at_bound : goal.outer_weights-first-requires-clause-at_bound
outer_weights-first-requires-clause-at_bound c =
    let k = d (e (goal.at.outer_weights-first-requires-clause-at_bound c).After-weigh) in
    let x = side_small (s k) (reach k) (scale_is k) (λ i. (c.sides.ensures i).0) (first_small (within k) (s k).channels (s k).order) in
    x

pub outer_weights-third-requires-clause-at_bound : goal.outer_weights-third-requires-clause-at_bound
outer_weights-third-requires-clause-at_bound c =
    let k = d (e (goal.at.outer_weights-third-requires-clause-at_bound c).After-weigh) in
    let x = side_small (s k) (reach k) (scale_is k) (λ i. (c.sides.ensures i).1) (third_small (within k) (s k).channels (s k).order) in
    x

pub outer_weights-third-requires-clause-bias_bound : goal.outer_weights-third-requires-clause-bias_bound
outer_weights-third-requires-clause-bias_bound c =
    let k = d (e (goal.at.outer_weights-third-requires-clause-bias_bound c).After-weigh) in
    let x = side_small (s k) (reach k) (scale_is k) (λ i. (c.sides.ensures i).1) (third_small (within k) (s k).channels (s k).order) in
    (omega (arith, uv_small k), begin (goal.at.outer_weights-third-requires-clause-bias_bound c).After-weigh)

-- ---- the weights of the first and the third element
module _ (c : After-struct_told-2-1) where
  abbrev b : After-weigh
  b = (goal.at.After-struct_told-2-1 c).After-weigh

  abbrev k : After-struct_known-1
  k = d (e b)

  abbrev first : OuterWeights
  first = c.outer_weights-first.result

  first_is : first ≡ outer_of (s k) (w k) (first_side (s k).channels (s k).order (w k))
  first_is =
      c.outer_weights-first.ensures.0
      ∙ (λ i. outer_weights (scale_is k i) (uv_is k i) (start_is b i) ((c.sides.ensures i).0))

  abbrev third : OuterWeights
  third = c.outer_weights-third.result

  third_is : third ≡ outer_of (s k) (w k) (third_side (s k).channels (s k).order (w k))
  third_is =
      c.outer_weights-third.ensures.0
      ∙ (λ i. outer_weights (scale_is k i) (uv_is k i) (start_is b i) ((c.sides.ensures i).1))

  first_made : SmallOuter first
  first_made = c.outer_weights-first.ensures.1

  third_made : SmallOuter third
  third_made = c.outer_weights-third.ensures.1

pub weigh-requires-2 : goal.weigh-requires-2
weigh-requires-2 c = (back_small (first (goal.at.weigh-requires-2 c).After-struct_told-2-1).green (first_made (goal.at.weigh-requires-2 c).After-struct_told-2-1).green, omega (arith, uv_small (k (goal.at.weigh-requires-2 c).After-struct_told-2-1)))

pub weigh-requires-3 : goal.weigh-requires-3
weigh-requires-3 c = (back_small (third (goal.at.weigh-requires-3 c).After-struct_told-2-1).green (third_made (goal.at.weigh-requires-3 c).After-struct_told-2-1).green, omega (arith, uv_small (k (goal.at.weigh-requires-3 c).After-struct_told-2-1)))

-- ---- what green's sum starts from
module _ (c : After-weigh-2) where
  abbrev a : After-struct_told-2-1
  a = (goal.at.After-weigh-2 c).After-struct_told-2-1

  added : c.weigh-2.result ≡ (first a).green *ℤ pos (word_uv (k a))
  added = c.weigh-2.ensures.0 ∙ ap (λ (z : ℤ). z *ℤ pos (word_uv (k a))) (small_back (first a).green (first_made a).green)

  few : word_uv (k a) ≤ 65536
  few = omega (arith, uv_small (k a))

pub overflow_add-green_start : goal.overflow_add-green_start
overflow_add-green_start c = half_fits (word_uv (k (a (goal.at.overflow_add-green_start c).After-weigh-2))) (start (b (a (goal.at.overflow_add-green_start c).After-weigh-2))) (first (a (goal.at.overflow_add-green_start c).After-weigh-2)).green (third (a (goal.at.overflow_add-green_start c).After-weigh-2)).green (begin (b (a (goal.at.overflow_add-green_start c).After-weigh-2))) (first_made (a (goal.at.overflow_add-green_start c).After-weigh-2)).green (third_made (a (goal.at.overflow_add-green_start c).After-weigh-2)).green (few (goal.at.overflow_add-green_start c).After-weigh-2) refl (added (goal.at.overflow_add-green_start c).After-weigh-2)

module _ (c : After-weigh-3) where
  abbrev g : After-weigh-2
  g = (goal.at.After-weigh-3 c).After-weigh-2

  added_2 : c.weigh-3.result ≡ (third (a g)).green *ℤ pos (word_uv (k (a g)))
  added_2 = c.weigh-3.ensures.0 ∙ ap (λ (z : ℤ). z *ℤ pos (word_uv (k (a g)))) (small_back (third (a g)).green (third_made (a g)).green)

pub overflow_add-green_start-2 : goal.overflow_add-green_start-2
overflow_add-green_start-2 c =
    let n = a (g (goal.at.overflow_add-green_start-2 c).After-weigh-3) in
    total_fits (word_uv (k n)) (start (b n)) (first n).green (third n).green (begin (b n)) (first_made n).green (third_made n).green (few (g (goal.at.overflow_add-green_start-2 c).After-weigh-3)) refl (added (g (goal.at.overflow_add-green_start-2 c).After-weigh-3)) (added_2 (goal.at.overflow_add-green_start-2 c).After-weigh-3)

pub returns : goal.returns
returns c =
    let n = a (g (goal.at.returns c).After-weigh-3) in
    let t = total_back (word_uv (k n)) (start (b n)) (first n).green (third n).green (begin (b n)) (first_made n).green (third_made n).green (few (g (goal.at.returns c).After-weigh-3)) refl (added (g (goal.at.returns c).After-weigh-3)) (added_2 (goal.at.returns c).After-weigh-3) in
    let u = total_small (word_uv (k n)) (start (b n)) (first n).green (third n).green (begin (b n)) (first_made n).green (third_made n).green (few (g (goal.at.returns c).After-weigh-3)) in (
      (λ i. record {
        luma = luma_is (e (b n)) i;
        first = first_is n i;
        third = third_is n i;
        green_start = (t ∙ (λ j. start_is (b n) j +ℤ (first_is n j).green *ℤ pos (uv_is (k n) j) +ℤ (third_is n j).green *ℤ pos (uv_is (k n) j))) i;
      }),
      record {
        luma = luma_small (e (b n));
        first = first_made n;
        third = third_made n;
        green = subst⁻¹ (λ (z : ℤ). nat_abs z ≤ 1099511627776) t u;
      },
    )
