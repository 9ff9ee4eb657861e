-- `packed_rows::single_loop` meets its contract.
use mathlib.Core.Path.{refl, ap, ◌∙◌}
use mathlib.Core.Bool.{false}
use Prim.Native.Nat.{◌+◌, ◌*◌, ◌≤◌}
use native.Mathlib.Omega.{arith}
use lib.ListN.{length}
use Rattle.rules.specs.declared.YuvChromaSubsampling.{YuvChromaSubsampling}
use Rattle.rules.specs.Blocks.{chroma_width}
use Rattle.plane_laws.proofs.Tables.{begun_at}
use Rattle.frames.specs.Rows.{row_pixel}
use Rattle.packed_store.proofs.Readings.{single}
use Rattle.packed_store.proofs.Turns.{TwoColumns, TwoPixels, columns_at, pixels, luma_turn, pair_turn}
use Rattle.packed_rows.proofs.single_loop.Goals as goal
use Rattle.packed_rows.proofs.single_loop.Goals.{After-pixel_at-q, In-loop-pair}

-- the two columns of this turn, and their pixels
spot : (c : In-loop-pair) → TwoColumns c.args.width c.get_channels_count-n.result (2 * c.loop-pair.pair) (2 * c.loop-pair.pair * c.get_channels_count-n.result)
spot c = columns_at c.args.s c.requires.convertible c.get_channels_count-n.ensures (2 * c.loop-pair.pair) (2 * c.loop-pair.pair * c.get_channels_count-n.result) refl c.requires.row_lengths.narrow (omega (arith, c.loop-pair-test.true))

read : (c : After-pixel_at-q) → TwoPixels c.args.s c.args.rgba.now (2 * c.loop-pair.pair) c.pixel_at-p.result c.pixel_at-q.result
read c = pixels c.args.s c.requires.convertible c.get_channels_count-n.ensures (2 * c.loop-pair.pair) (2 * c.loop-pair.pair * c.get_channels_count-n.result) refl (spot (goal.at.After-pixel_at-q c).In-loop-pair) c.pixel_at-p.ensures c.pixel_at-q.ensures

chroma_room : (c : In-loop-pair) → 2 * (2 * c.loop-pair.pair) + 4 ≤ length c.args.chroma.now
chroma_room c =
    omega (arith, (spot c).inside, c.requires.row_lengths.chroma_long, ap (λ (o : YuvChromaSubsampling). chroma_width o c.args.width) c.requires.usable.1)

pub put_pair-requires-in-loop-pair-clause-low : goal.put_pair-requires-in-loop-pair-clause-low
put_pair-requires-in-loop-pair-clause-low c =
    (read (goal.at.put_pair-requires-in-loop-pair-clause-low c).After-pixel_at-q).second_low_lem

pub loop-pair-preserved : goal.loop-pair-preserved
loop-pair-preserved c =
    let v = c.args in
    let i = c.loop-pair.invariant in
    let x = 2 * c.loop-pair.pair in
    let t = row_pixel v.s.channels v.rgba.now in
    let place = spot (goal.at.loop-pair-preserved c).In-loop-pair in
    let g = read (goal.at.loop-pair-preserved c).After-pixel_at-q in
    let room : x + 2 ≤ length v.luma.now = omega (arith, place.inside, c.requires.row_lengths.luma_long) in
    let j = pair_turn v.s v.w _ v.width false t t (2 * x) x v.chroma.now _ (omega arith) (omega arith) (omega (arith, chroma_room (goal.at.loop-pair-preserved c).In-loop-pair)) (g.first_is ∙ single v.s v.width t x c.requires.usable.1) i.1 c.put_pair.ensures in
    let k = pair_turn v.s v.w _ v.width false t t (2 * x + 2) (x + 1) v.chroma.now _ (omega arith) (omega arith) (omega (arith, chroma_room (goal.at.loop-pair-preserved c).In-loop-pair)) (g.second_is ∙ single v.s v.width t (x + 1) c.requires.usable.1) j c.put_pair-in-loop-pair.ensures in
    (begun_at (omega arith) (luma_turn v.s v.w v.luma.now _ g room i.0 c.put_luma.ensures), begun_at (omega arith) k)
