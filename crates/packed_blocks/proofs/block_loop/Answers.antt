-- `packed_blocks::block_loop` meets its contract.
use mathlib.Core.Path.{◌≡◌, refl, subst⁻¹}
use mathlib.Core.Bool.{true}
use Prim.Native.Nat.{◌+◌, ◌*◌, ◌/◌, ◌%◌, ◌≤◌}
use native.Mathlib.Omega.{arith}
use lib.ListN.{length}
use Rattle.rules.specs.Ranges.{most}
use Rattle.rule_laws.specs.Codes.{Low}
use Rattle.tolerance_laws.proofs.Means.{averaged_low}
use Rattle.tolerance_laws.specs.Block.{four}
use Rattle.plane_laws.proofs.Tables.{begun_at}
use Rattle.frames.specs.Rows.{row_pixel}
use Rattle.packed_store.proofs.Readings.{two_rows}
use Rattle.packed_store.proofs.Turns.{TwoColumns, TwoPixels, columns_at, pixels, luma_turn, pair_turn, wide_enough}
use Rattle.packed_blocks.proofs.block_loop.Goals as goal
use Rattle.packed_blocks.proofs.block_loop.Goals.{After-mean_of_four, After-pixel_at-q, After-pixel_at-v, In-loop-block}

-- the two columns of this turn, and their pixels in both rows
spot : (c : In-loop-block) → TwoColumns c.args.width c.get_channels_count-n.result (2 * c.loop-block.block) (2 * c.loop-block.block * c.get_channels_count-n.result)
spot c = columns_at c.args.s c.requires.convertible.0 c.get_channels_count-n.ensures (2 * c.loop-block.block) (2 * c.loop-block.block * c.get_channels_count-n.result) refl c.requires.row_lengths.narrow (omega (arith, c.loop-block-test.true))

read : (c : After-pixel_at-q) → TwoPixels c.args.s c.args.upper.now (2 * c.loop-block.block) c.pixel_at-p.result c.pixel_at-q.result
read c = pixels c.args.s c.requires.convertible.0 c.get_channels_count-n.ensures (2 * c.loop-block.block) (2 * c.loop-block.block * c.get_channels_count-n.result) refl (spot (goal.at.After-pixel_at-q c).In-loop-block) c.pixel_at-p.ensures c.pixel_at-q.ensures

read_lower : (c : After-pixel_at-v) → TwoPixels c.args.s c.args.lower.now (2 * c.loop-block.block) c.pixel_at-u.result c.pixel_at-v.result
read_lower c = pixels c.args.s c.requires.convertible.1 c.get_channels_count-n.ensures (2 * c.loop-block.block) (2 * c.loop-block.block * c.get_channels_count-n.result) refl (spot (goal.at.After-pixel_at-v c).In-loop-block) c.pixel_at-u.ensures c.pixel_at-v.ensures

low_mean : (c : After-mean_of_four) → Low (most c.args.s.depth) c.mean_of_four.result
low_mean c =
    let g = read (goal.at.After-mean_of_four c).After-pixel_at-q in
    let h = read_lower (goal.at.After-mean_of_four c).After-pixel_at-v in
    subst⁻¹ (Low (most c.args.s.depth)) c.mean_of_four.ensures (averaged_low (four g.first_low_lem g.second_low_lem h.first_low_lem h.second_low_lem))

chroma_room : (c : In-loop-block) → 2 * c.loop-block.block + 2 ≤ length c.args.chroma.now
chroma_room c =
    omega (arith, (spot c).inside, c.requires.row_lengths.chroma_long, wide_enough c.args.s.subsampling c.args.width)

pub put_pair-requires-clause-low : goal.put_pair-requires-clause-low
put_pair-requires-clause-low c =
    low_mean (goal.at.put_pair-requires-clause-low c).After-mean_of_four

pub loop-block-preserved : goal.loop-block-preserved
loop-block-preserved c =
    let v = c.args in
    let i = c.loop-block.invariant in
    let x = 2 * c.loop-block.block in
    let t = row_pixel v.s.channels v.upper.now in
    let u = row_pixel v.s.channels v.lower.now in
    let place = spot (goal.at.loop-block-preserved c).In-loop-block in
    let g = read (goal.at.loop-block-preserved c).After-pixel_at-q in
    let h = read_lower (goal.at.loop-block-preserved c).After-pixel_at-v in
    let even : x % 2 ≡ 0 = omega arith in
    let next : x + 2 ≡ 2 * (c.loop-block.block + 1) = omega arith in
    let room : x + 2 ≤ length v.luma.now = omega (arith, place.inside, c.requires.row_lengths.luma_long) in
    let mean = two_rows v.s v.w v.width t u x c.requires.usable.1 even (omega (arith, place.inside)) _ _ _ _ c.mean_of_four.ensures g.first_is g.second_is h.first_is h.second_is in (
      begun_at next (luma_turn v.s v.w v.luma.now _ g room i.0 c.put_luma.ensures),
      begun_at next (pair_turn v.s v.w _ v.width true t u x (x / 2) v.chroma.now _ even refl (chroma_room (goal.at.loop-block-preserved c).In-loop-block) mean i.1 c.put_pair.ensures),
    )
