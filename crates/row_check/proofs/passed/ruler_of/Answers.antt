-- `row_check::passed::ruler_of` meets its contract.
use mathlib.Core.Bool.{true, false}
use Rattle.check_limits.proofs.Limits.{own_fits, chroma_modest}
use Rattle.row_check.proofs.passed.ruler_of.Goals as goal

pub shares_of-shares-requires : goal.shares_of-shares-requires
shares_of-shares-requires c =
    let h = c.args.judge.limits_of in
    (h.whole, (chroma_modest h c.args.judge.reach h.luma.small).range≤, c.packing_factor-factor.ensures.2)

pub gauge_of-cb-requires : goal.gauge_of-cb-requires
gauge_of-cb-requires c =
    let h = c.args.judge.limits_of in
    let f = own_fits h true c.paired-wide.result c.args.two c.own_limit.ensures in
    ((chroma_modest h c.args.judge.reach h.luma.small).bias≤, f.0, f.1, c.packing_factor-factor.ensures.2)

pub gauge_of-cr-requires : goal.gauge_of-cr-requires
gauge_of-cr-requires c =
    let h = c.args.judge.limits_of in
    let f = own_fits h false c.paired-wide.result c.args.two c.own_limit-2.ensures in
    ((chroma_modest h c.args.judge.reach h.luma.small).bias≤, f.0, f.1, c.packing_factor-factor.ensures.2)
