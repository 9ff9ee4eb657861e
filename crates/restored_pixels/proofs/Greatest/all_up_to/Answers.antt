-- `restored_pixels::Greatest::all_up_to` meets its contract.
use Rattle.restored_pixels.proofs.Bits.{only_up_to}
use Rattle.restored_pixels.proofs.Greatest.all_up_to.Goals as goal

pub returns : goal.returns
returns c =
    let m = c.args.self in
    rw c.from-outside.ensures (only_up_to m.depth m.code m.deep m.whole c.args.a c.args.b c.args.c c.ranges.a c.ranges.b c.ranges.c)
