-- `packed_rows::paired_loop` meets its contract.
use mathlib.Core.Path.{◌≡◌, refl, subst⁻¹}
use mathlib.Core.Bool.{false}
use Prim.Native.Nat.{◌+◌, ◌*◌, ◌/◌, ◌%◌, ◌≤◌}
use native.Mathlib.Omega.{arith}
use lib.ListN.{length}
use Rattle.rules.specs.Ranges.{most}
use Rattle.rule_laws.specs.Codes.{Low}
use Rattle.tolerance_laws.proofs.Means.{averaged_low}
use Rattle.tolerance_laws.specs.Block.{two}
use Rattle.plane_laws.proofs.Tables.{begun_at}
use Rattle.frames.specs.Rows.{row_pixel}
use Rattle.packed_store.proofs.Readings.{two_columns}
use Rattle.packed_store.proofs.Turns.{TwoColumns, TwoPixels, columns_at, pixels, luma_turn, pair_turn, wide_enough}
use Rattle.packed_rows.proofs.paired_loop.Goals as goal
use Rattle.packed_rows.proofs.paired_loop.Goals.{After-mean_of_two, After-pixel_at-q, In-loop-pair}

-- the two columns of this turn, and their pixels
spot : (c : In-loop-pair) → TwoColumns c.args.width c.get_channels_count-n.result (2 * c.loop-pair.pair) (2 * c.loop-pair.pair * c.get_channels_count-n.result)
spot c = columns_at c.args.s c.requires.convertible c.get_channels_count-n.ensures (2 * c.loop-pair.pair) (2 * c.loop-pair.pair * c.get_channels_count-n.result) refl c.requires.row_lengths.narrow (omega (arith, c.loop-pair-test.true))

read : (c : After-pixel_at-q) → TwoPixels c.args.s c.args.rgba.now (2 * c.loop-pair.pair) c.pixel_at-p.result c.pixel_at-q.result
read c = pixels c.args.s c.requires.convertible c.get_channels_count-n.ensures (2 * c.loop-pair.pair) (2 * c.loop-pair.pair * c.get_channels_count-n.result) refl (spot (goal.at.After-pixel_at-q c).In-loop-pair) c.pixel_at-p.ensures c.pixel_at-q.ensures

low_mean : (c : After-mean_of_two) → Low (most c.args.s.depth) c.mean_of_two.result
low_mean c =
    let g = read (goal.at.After-mean_of_two c).After-pixel_at-q in
    subst⁻¹ (Low (most c.args.s.depth)) c.mean_of_two.ensures (averaged_low (two g.first_low_lem g.second_low_lem))

chroma_room : (c : In-loop-pair) → 2 * c.loop-pair.pair + 2 ≤ length c.args.chroma.now
chroma_room c =
    omega (arith, (spot c).inside, c.requires.row_lengths.chroma_long, wide_enough c.args.s.subsampling c.args.width)

pub put_pair-requires-clause-low : goal.put_pair-requires-clause-low
put_pair-requires-clause-low c =
    low_mean (goal.at.put_pair-requires-clause-low c).After-mean_of_two

pub loop-pair-preserved : goal.loop-pair-preserved
loop-pair-preserved c =
    let v = c.args in
    let i = c.loop-pair.invariant in
    let x = 2 * c.loop-pair.pair in
    let t = row_pixel v.s.channels v.rgba.now in
    let place = spot (goal.at.loop-pair-preserved c).In-loop-pair in
    let g = read (goal.at.loop-pair-preserved c).After-pixel_at-q in
    let even : x % 2 ≡ 0 = omega arith in
    let next : x + 2 ≡ 2 * (c.loop-pair.pair + 1) = omega arith in
    let room : x + 2 ≤ length v.luma.now = omega (arith, place.inside, c.requires.row_lengths.luma_long) in
    let mean = two_columns v.s v.w v.width t t x c.requires.usable.1 even (omega (arith, place.inside)) _ _ c.mean_of_two.ensures g.first_is g.second_is in (
      begun_at next (luma_turn v.s v.w v.luma.now _ g room i.0 c.put_luma.ensures),
      begun_at next (pair_turn v.s v.w _ v.width false t t x (x / 2) v.chroma.now _ even refl (chroma_room (goal.at.loop-pair-preserved c).In-loop-pair) mean i.1 c.put_pair.ensures),
    )
