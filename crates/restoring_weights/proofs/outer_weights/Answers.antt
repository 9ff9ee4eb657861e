-- `restoring_weights::outer_weights` meets its contract.
use mathlib.Core.Path.{◌≡◌, ap, ◌∙◌}
use Prim.Native.Nat.{ℕ}
use lib.IntN.{ℤ, pos, ◌*ℤ◌}
use mir.Syntax.{w64}
use mir.Val.{to_z, of_z}
use Rattle.integer_laws.proofs.Machine.{back32, got}
use Rattle.restoring_weights.specs.declared.ChromaSide.{ChromaSide}
use Rattle.restoring_weights.proofs.Outer.{start_fits, start_back, outer_made}
use Rattle.restoring_weights.proofs.outer_weights.Goals as goal
use Rattle.restoring_weights.proofs.outer_weights.Goals.{After-weigh}

-- what was worked out
module _ (c : After-weigh) where
  abbrev scale : ℕ
  scale = c.args.scale

  abbrev bias : ℕ
  bias = c.args.bias

  abbrev start : ℤ
  start = c.args.start

  abbrev side : ChromaSide
  side = c.args.side

  own_is : to_z w64 (of_z w64 c.scaled-own.result) ≡ side.own *ℤ pos scale
  own_is =
      let a = c.scaled-own in
      got a.result a.type_inv (a.ensures.0 ∙ ap (λ (z : ℤ). z *ℤ pos scale) (back32 side.own (record { sfits = c.struct_told-2-1.given.1.0.1 })))

  green_is : to_z w64 (of_z w64 c.scaled-green.result) ≡ side.green *ℤ pos scale
  green_is =
      let a = c.scaled-green in
      got a.result a.type_inv (a.ensures.0 ∙ ap (λ (z : ℤ). z *ℤ pos scale) (back32 side.green (record { sfits = c.struct_told-2-1.given.1.1.0.1 })))

  taken_is : c.weigh.result ≡ side.own *ℤ pos scale *ℤ pos bias
  taken_is = c.weigh.ensures.0 ∙ ap (λ (z : ℤ). z *ℤ pos bias) own_is

pub overflow_sub-result : goal.overflow_sub-result
overflow_sub-result c =
    let p = c.requires in
    start_fits (scale (goal.at.overflow_sub-result c).After-weigh) (bias (goal.at.overflow_sub-result c).After-weigh) (start (goal.at.overflow_sub-result c).After-weigh) (side (goal.at.overflow_sub-result c).After-weigh) p.at_bound.0 p.at_bound.1 p.at_bound.2 p.bias_bound.0 p.bias_bound.1 (taken_is (goal.at.overflow_sub-result c).After-weigh)

pub returns : goal.returns
returns c =
    let p = c.requires in
    let b = start_back (scale (goal.at.returns c).After-weigh) (bias (goal.at.returns c).After-weigh) (start (goal.at.returns c).After-weigh) (side (goal.at.returns c).After-weigh) p.at_bound.0 p.at_bound.1 p.at_bound.2 p.bias_bound.0 p.bias_bound.1 (taken_is (goal.at.returns c).After-weigh) in
    outer_made (scale (goal.at.returns c).After-weigh) (bias (goal.at.returns c).After-weigh) (start (goal.at.returns c).After-weigh) (side (goal.at.returns c).After-weigh) p.at_bound.0 p.at_bound.1 p.at_bound.2 p.bias_bound.0 p.bias_bound.1 (own_is (goal.at.returns c).After-weigh) (green_is (goal.at.returns c).After-weigh) b
