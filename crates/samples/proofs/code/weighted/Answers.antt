-- `samples::code::weighted` meets its contract.
use mathlib.Core.Path.{ap, ◌∙◌, subst⁻¹}
use Prim.Native.Nat.{◌≤◌}
use lib.IntN.{ℤ, pos, nat_abs, ◌+ℤ◌, ◌*ℤ◌}
use mir.Syntax.{w64}
use mir.Val.{SFits, to_z, of_z}
use mir.ValLaws.{to_z-of_z}
use Rattle.rules.specs.Sample.{weighted}
use Rattle.integer_laws.proofs.Machine.{back32, plus3, plus3_small, plus3_fits}
use Rattle.samples.proofs.code.weighted.Goals as goal

pub overflow_add-result-2 : goal.overflow_add-result-2
overflow_add-result-2 c =
    let a = c.weigh in
    let b = c.weigh-2 in
    let d = c.weigh-3 in
    subst⁻¹ (SFits w64) (plus3 a.result b.result d.result a.ensures.1 b.ensures.1 d.ensures.1)
    (plus3_fits a.result b.result d.result a.ensures.1 b.ensures.1 d.ensures.1)

pub returns : goal.returns
unfolding weighted
returns c =
    let a = c.weigh in
    let b = c.weigh-2 in
    let d = c.weigh-3 in
    let v = c.args in
    let t = c.struct_told-3-1.given in
    let f = plus3_fits a.result b.result d.result a.ensures.1 b.ensures.1 d.ensures.1 in
    let e = ap (λ (z : ℤ). to_z w64 (of_z w64 z)) (plus3 a.result b.result d.result a.ensures.1 b.ensures.1 d.ensures.1) ∙ to_z-of_z w64 (a.result +ℤ b.result +ℤ d.result) f in
    let x = a.ensures.0 ∙ ap (λ (y : ℤ). y *ℤ pos v.p.red) (back32 v.w.red (record { sfits = t.0.1 })) in
    let y = b.ensures.0 ∙ ap (λ (y : ℤ). y *ℤ pos v.p.green) (back32 v.w.green (record { sfits = t.1.0.1 })) in
    let z = d.ensures.0 ∙ ap (λ (y : ℤ). y *ℤ pos v.p.blue) (back32 v.w.blue (record { sfits = t.1.1.0.1 })) in
    (e ∙ (λ i. x i +ℤ y i +ℤ z i), subst⁻¹ (λ (z : ℤ). nat_abs z ≤ 422212465065984) e (plus3_small a.result b.result d.result a.ensures.1 b.ensures.1 d.ensures.1))
