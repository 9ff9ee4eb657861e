-- `means::mean` meets its contract.
use Rattle.std.proofs.Common.{rules}
use Rattle.means.proofs.Means.{summed_none, summed_more, averaged_is}
use Rattle.means.proofs.mean.Goals as goal

pub loop-p-init : goal.loop-p-init
loop-p-init g c = (summed_none _ _, summed_none _ _, summed_none _ _)

pub loop-p-preserved : goal.loop-p-preserved
loop-p-preserved g c =
    let i = c.loop-p.invariant in
    (summed_more _ i.0 (search rules) c.from-reds.ensures (search rules), summed_more _ i.1 (search rules) c.from-greens.ensures (search rules), summed_more _ i.2 (search rules) c.from-blues.ensures (search rules))

pub returns : goal.returns
returns g c =
    averaged_is c.args.block g.row.N (search rules) c.loop-p-test.false c.loop-p.invariant c.rounded.ensures c.rounded-2.ensures c.rounded-3.ensures
