-- `joined_weights::chroma_weights` meets its contract.
use mathlib.Core.Path.{◌≡◌, subst⁻¹}
use Prim.Native.Nat.{◌≤◌}
use native.Mathlib.Omega.{arith}
use lib.IntN.{ℤ, pos, nat_abs}
use mir.Syntax.{w32}
use mir.Val.{to_z, of_z}
use Rattle.joined_weights.specs.JoinedWeights.{scaled_start, NoWeightAbove}
use Rattle.joined_weights.proofs.Products.{got32}
use Rattle.joined_weights.proofs.Sizes.{start_small, scaled_modest}
use Rattle.joined_weights.proofs.chroma_weights.Goals as goal
use Rattle.joined_weights.proofs.chroma_weights.Goals.{After-scaled_start-start}

-- the start that was worked out
start_is : (c : After-scaled_start-start) → to_z w32 (of_z w32 c.scaled_start-start.result) ≡ pos (scaled_start c.args.s c.args.bias)
start_is c = got32 c.scaled_start-start.result c.scaled_start-start.type_inv c.scaled_start-start.ensures

pub join_weights-requires : goal.join_weights-requires
join_weights-requires c =
    let r = c.requires.reach.0 in (
      subst⁻¹ (λ (z : ℤ). nat_abs z ≤ 1073741823) (start_is (goal.at.join_weights-requires c).After-scaled_start-start) (omega (arith, start_small c.args.s r c.args.bias c.requires.reach.1)),
      subst⁻¹ (NoWeightAbove 1073741823) c.scaled_weights-2.ensures (scaled_modest c.args.s r c.args.b c.requires.no_weight_above.1),
    )
