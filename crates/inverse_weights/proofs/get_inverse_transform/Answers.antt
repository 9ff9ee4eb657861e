-- `inverse_weights::get_inverse_transform` meets its contract.
use lib.Ieee.{of_bits}
use Rattle.rules.specs.Inverse.{backward}
use Rattle.inverse_weights.proofs.get_inverse_transform.Goals as goal

pub returns : goal.returns
unfolding backward of_bits
returns c = simp (c.nearest_u32_to_f32-bgra.ensures, c.nearest_u32_to_f32-ry.ensures, c.nearest_u32_to_f32-ruv.ensures)
