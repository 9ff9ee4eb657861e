-- `frame_refusals::samples_verdict` meets its contract.
use mathlib.Core.Path.{subst⁻¹}
use Rattle.frame_refusals.specs.Places.{WithinFrame}
use Rattle.frame_refusals.proofs.Places.{found_within}
use Rattle.frame_refusals.proofs.samples_verdict.Goals as goal

pub place_verdict-requires : goal.place_verdict-requires
place_verdict-requires c = subst⁻¹ WithinFrame c.too_large.ensures (found_within _ c.args.f _ c.requires.sized.0)
