-- `sample_check::sample::chroma_right` meets its contract.
use mathlib.Core.Path.{◌∙◌}
use Rattle.frames.specs.Rows.{row_pixel}
use Rattle.check_limits.proofs.Limits.{own_fits, chroma_modest}
use Rattle.sample_check.proofs.Samples.{chroma_judged}
use Rattle.sample_check.proofs.sample.chroma_right.Goals as goal

pub exact_chroma-x-requires-clause-modest : goal.exact_chroma-x-requires-clause-modest
exact_chroma-x-requires-clause-modest c =
    let a = c.args in
    chroma_modest c.args.judge.limits_of c.args.judge.reach (own_fits c.args.judge.limits_of a.u a.t.wide a.t.two c.own_limit-limit.ensures).0

pub right_by-requires-clause-small : goal.right_by-requires-clause-small
right_by-requires-clause-small c =
    let a = c.args in
    (c.exact_chroma-x.ensures.small, (own_fits c.args.judge.limits_of a.u a.t.wide a.t.two c.own_limit-limit.ensures).1)

pub returns : goal.returns
returns c =
    let a = c.args in
    let ch = a.judge.settings.channels in
    c.right_by.ensures
    ∙ chroma_judged a.judge.settings a.judge.named a.judge.limits c.args.judge.limits_of a.v a.u a.t.wide a.t.two (row_pixel ch a.top.now) (row_pixel ch a.low.now) a.t.left
    c.exact_chroma-x.result c.own_limit-limit.ensures c.sums-b.ensures.0 c.exact_chroma-x.ensures.value
