-- `frame_check::check_settled` meets its contract.
use mathlib.Core.Path.{sym, ◌∙◌}
use native.Mathlib.Omega.{arith}
use Rattle.plane_laws.proofs.Searches.{found_wrong}
use Rattle.blocks.proofs.Tiles.{width_small, height_small}
use Rattle.frame_check.proofs.check_settled.Goals as goal

pub place_of-requires : goal.place_of-requires
place_of-requires c =
    let w = found_wrong _ _ _ _ _ (sym c.walk_luma.ensures ∙ c.in-Some.is) in
    let z = c.requires.ready.sized in
    (omega (arith, w.below, z.flat), omega (arith, w.inside, z.narrow))

pub place_of-requires-2 : goal.place_of-requires-2
place_of-requires-2 c =
    let w = found_wrong _ _ _ _ _ (sym c.walk_chroma.ensures ∙ c.in_ok-found.was) in
    let z = c.requires.ready.sized in
    (omega (arith, w.below, height_small c.new-judge.result.settings.subsampling c.args.f.height, z.flat), omega (arith, w.inside, width_small c.new-judge.result.settings.subsampling c.args.f.width, z.narrow))
