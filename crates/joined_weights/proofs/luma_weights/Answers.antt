-- `joined_weights::luma_weights` meets its contract.
use mathlib.Core.Path.{◌≡◌, subst⁻¹}
use Prim.Native.Nat.{◌≤◌}
use native.Mathlib.Omega.{arith}
use lib.IntN.{ℤ, pos, nat_abs}
use mir.Syntax.{w32}
use mir.Val.{to_z, of_z}
use Rattle.joined_weights.specs.JoinedWeights.{scaled_start}
use Rattle.joined_weights.proofs.Products.{got32}
use Rattle.joined_weights.proofs.Sizes.{start_small}
use Rattle.joined_weights.proofs.luma_weights.Goals as goal
use Rattle.joined_weights.proofs.luma_weights.Goals.{After-scaled_start}

-- the start that was worked out
start_is : (c : After-scaled_start) → to_z w32 (of_z w32 c.scaled_start.result) ≡ pos (scaled_start c.args.s c.args.bias)
start_is c = got32 c.scaled_start.result c.scaled_start.type_inv c.scaled_start.ensures

pub shared_weights-requires : goal.shared_weights-requires
shared_weights-requires c = subst⁻¹ (λ (z : ℤ). nat_abs z ≤ 1073741823) (start_is (goal.at.shared_weights-requires c).After-scaled_start) (omega (arith, start_small c.args.s c.requires.reach.0 c.args.bias c.requires.reach.1))
