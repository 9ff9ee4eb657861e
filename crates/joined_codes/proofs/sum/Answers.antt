-- `joined_codes::sum` meets its contract.
use mathlib.Core.Path.{◌≡◌, ap, ◌∙◌, subst⁻¹}
use native.Mathlib.Omega.{arith}
use lib.Dec.{T}
use lib.IntN.{ℤ, pos, nat_abs, ◌+ℤ◌, ◌*ℤ◌}
use lib.Signed.{non_neg}
use mir.Syntax.{w64}
use mir.Val.{Fits}
use mir.ValLaws.{to_z-of_z}
use Rattle.joined_codes.specs.Sums.{joined_sum}
use Rattle.joined_codes.proofs.MachineSums.{second_fits, third_fits, third_small, third_back}
use Rattle.joined_codes.proofs.sum.Goals as goal
use Rattle.joined_codes.proofs.sum.Goals.{After-weigh-3}

pub overflow_add-result-2 : goal.overflow_add-result-2
overflow_add-result-2 c =
    let a = c.weigh in
    let b = c.weigh-2 in
    second_fits c.args.joined.start a.result b.result (pos 0) c.requires.sum_fits.start a.ensures.1 b.ensures.1 (omega arith)

pub overflow_add-result-3 : goal.overflow_add-result-3
overflow_add-result-3 c =
    let a = c.weigh in
    let b = c.weigh-2 in
    let d = c.weigh-3 in
    third_fits c.args.joined.start a.result b.result d.result c.requires.sum_fits.start a.ensures.1 b.ensures.1 d.ensures.1

-- the sum that was worked out is that of the definition
is_sum : (c : After-weigh-3)
    → let a = c.weigh in
    let b = c.weigh-2 in
    let v = c.args in v.joined.start +ℤ a.result +ℤ b.result +ℤ c.weigh-3.result ≡ joined_sum v.joined v.a v.b v.c
unfolding joined_sum
is_sum c =
    let a = c.weigh in
    let b = c.weigh-2 in
    let d = c.weigh-3 in
    let v = c.args in
    let t = c.struct_told-4-1.given in
    let x = a.ensures.0 ∙ ap (λ (y : ℤ). y *ℤ pos v.a) (to_z-of_z w64 v.joined.first (record { sfits = t.1.0.1 })) in
    let y = b.ensures.0 ∙ ap (λ (y : ℤ). y *ℤ pos v.b) (to_z-of_z w64 v.joined.second (record { sfits = t.1.1.0.1 })) in
    let z = d.ensures.0 ∙ ap (λ (y : ℤ). y *ℤ pos v.c) (to_z-of_z w64 v.joined.third (record { sfits = t.1.1.1.0.1 })) in
    λ i. v.joined.start +ℤ x i +ℤ y i +ℤ z i

pub overflow_cast-result : goal.overflow_cast-result
overflow_cast-result c =
    let a = c.weigh in
    let b = c.weigh-2 in
    let d = c.weigh-3 in
    subst⁻¹ (λ (z : ℤ). T (non_neg z) × Fits w64 (nat_abs z))
    (third_back c.args.joined.start a.result b.result d.result c.requires.sum_fits.start a.ensures.1 b.ensures.1 d.ensures.1) (
      subst⁻¹ (λ (z : ℤ). T (non_neg z)) (is_sum (goal.at.overflow_cast-result c).After-weigh-3) c.requires.t,
      record { fits = omega (arith, third_small c.args.joined.start a.result b.result d.result c.requires.sum_fits.start a.ensures.1 b.ensures.1 d.ensures.1) },
    )

pub returns : goal.returns
returns c =
    let a = c.weigh in
    let b = c.weigh-2 in
    let d = c.weigh-3 in
    ap nat_abs (third_back c.args.joined.start a.result b.result d.result c.requires.sum_fits.start a.ensures.1 b.ensures.1 d.ensures.1 ∙ is_sum (goal.at.returns c).After-weigh-3)
