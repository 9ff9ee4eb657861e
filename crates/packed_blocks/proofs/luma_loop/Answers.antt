-- `packed_blocks::luma_loop` meets its contract.
use native.Mathlib.Omega.{arith}
use Rattle.plane_laws.proofs.Tables.{begun_at}
use Rattle.packed_store.proofs.Turns.{TwoColumns, TwoPixels, columns, pixels, ended, luma_turn}
use Rattle.packed_blocks.proofs.luma_loop.Goals as goal
use Rattle.packed_blocks.proofs.luma_loop.Goals.{After-pixel_at-q, In-loop-i}

-- the two columns of this turn, and their pixels
spot : (c : In-loop-i) → TwoColumns c.args.width c.get_channels_count-n.result c.loop-i.x c.loop-i.i
spot c = columns c.args.s c.requires.convertible c.get_channels_count-n.ensures c.loop-i.x c.loop-i.i c.loop-i.invariant.0.0 c.requires.width_bound.0 (omega (arith, c.loop-i-test.true))

read : (c : After-pixel_at-q) → TwoPixels c.args.s c.args.rgba.now c.loop-i.x c.pixel_at-p.result c.pixel_at-q.result
read c = pixels c.args.s c.requires.convertible c.get_channels_count-n.ensures c.loop-i.x c.loop-i.i c.loop-i.invariant.0.0 (spot (goal.at.After-pixel_at-q c).In-loop-i) c.pixel_at-p.ensures c.pixel_at-q.ensures

pub put_luma-requires-clause-low : goal.put_luma-requires-clause-low
put_luma-requires-clause-low c =
    let g = read (goal.at.put_luma-requires-clause-low c).After-pixel_at-q in
    (g.first_low_lem, g.second_low_lem)

pub loop-i-preserved : goal.loop-i-preserved
loop-i-preserved c =
    let v = c.args in
    let i = c.loop-i.invariant in (
      (omega (arith, i.0.0), omega (arith, c.loop-i-test.true), omega (arith, i.0.2)),
      luma_turn v.s v.w v.luma.now _ (read (goal.at.loop-i-preserved c).After-pixel_at-q) (omega (arith, (spot (goal.at.loop-i-preserved c).In-loop-i).inside, c.requires.width_bound.1)) i.1 c.put_luma.ensures,
    )

pub returns : goal.returns
returns c =
    let i = c.loop-i.invariant in
    begun_at (ended c.args.s c.requires.convertible c.get_channels_count-n.ensures c.loop-i.x c.loop-i.i i.0.0 i.0.2 i.0.1 (omega (arith, c.loop-i-test.false))) i.1
