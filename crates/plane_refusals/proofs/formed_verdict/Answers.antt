-- `plane_refusals::formed_verdict` meets its contract: what was found lies in its plane.
use mathlib.Core.Path.{sym, ◌∙◌}
use native.Mathlib.Omega.{arith}
use Rattle.plane_laws.proofs.Searches.{found_wrong}
use Rattle.blocks.proofs.Tiles.{width_small, height_small}
use Rattle.plane_refusals.proofs.Sizes.{search_by}
use Rattle.plane_refusals.proofs.formed_verdict.Goals as goal

pub place_of-requires : goal.place_of-requires
place_of-requires c =
    let w = found_wrong _ _ _ _ _ (sym c.first_malformed.ensures ∙ c.in-Some.is) in
    let z = c.requires.sized.0 in
    (omega (arith, w.below, z.flat), omega (arith, w.inside, z.narrow))

pub place_of-requires-in-Some-first_malformed : goal.place_of-requires-in-Some-first_malformed
place_of-requires-in-Some-first_malformed c =
    let w = found_wrong _ _ _ _ _ (sym (c.first_malformed-2.ensures ∙ search_by c.chroma_width-wide.ensures c.chroma_height-rows.ensures _) ∙ c.in-Some-first_malformed.is) in
    let z = c.requires.sized.0 in
    (omega (arith, w.below, height_small c.args.s.subsampling c.args.f.height, z.flat), omega (arith, w.inside, width_small c.args.s.subsampling c.args.f.width, z.narrow))
