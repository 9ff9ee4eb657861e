-- `joined_weights::scaled_start` meets its contract.
use mathlib.Core.Path.{◌≡◌, ap, ◌∙◌}
use Prim.Native.Nat.{◌*◌}
use native.Mathlib.Omega.{arith}
use lib.IntN.{pos}
use mir.Syntax.{w32}
use mir.ValLaws.{to_z_pos}
use Rattle.joined_weights.specs.JoinedWeights.{scaled_start}
use Rattle.joined_weights.proofs.Sizes.{start_small}
use Rattle.joined_weights.proofs.scaled_start.Goals as goal
use Rattle.joined_weights.proofs.scaled_start.Goals.{After-scale_of}

-- the product that was worked out
product : (c : After-scale_of) → c.start.result * c.scale_of.result ≡ scaled_start c.args.s c.args.bias
product c = λ i. c.start.ensures i * c.scale_of.ensures i

pub overflow_mul-result : goal.overflow_mul-result
overflow_mul-result c = record { fits = omega (arith, product (goal.at.overflow_mul-result c).After-scale_of, start_small c.args.s c.requires.0 c.args.bias c.requires.1) }

pub overflow_cast-result : goal.overflow_cast-result
overflow_cast-result c = record { sfits = omega (arith, product (goal.at.overflow_cast-result c).After-scale_of, start_small c.args.s c.requires.0 c.args.bias c.requires.1) }

pub returns : goal.returns
returns c = to_z_pos w32 _ (omega (arith, product (goal.at.returns c).After-scale_of, start_small c.args.s c.requires.0 c.args.bias c.requires.1)) ∙ ap pos (product (goal.at.returns c).After-scale_of)
