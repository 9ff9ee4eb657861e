-- `weights::get_forward_transform` meets its contract.
use lib.Ieee.{of_bits, neg}
use Rattle.rules.specs.Weights.{forward}
use Rattle.weights.proofs.get_forward_transform.Goals as goal

pub returns-clause-exact : goal.returns-clause-exact
unfolding forward of_bits neg
returns-clause-exact c =
    let g = c.well_formed in simp (c.nearest_u32_to_f32-rgba.ensures, c.nearest_u32_to_f32-ry.ensures, c.nearest_u32_to_f32-ruv.ensures)
