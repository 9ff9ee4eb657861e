-- `sample_check::sample::luma_right` meets its contract.
use mathlib.Core.Path.{◌∙◌}
use Rattle.check_limits.proofs.Limits.{luma_modest}
use Rattle.sample_check.proofs.Samples.{luma_judged}
use Rattle.sample_check.proofs.sample.luma_right.Goals as goal

pub exact_luma-x-requires : goal.exact_luma-x-requires
exact_luma-x-requires c = luma_modest c.args.judge.limits_of c.args.judge.reach c.args.judge.limits_of.luma.small

pub returns : goal.returns
returns c =
    let a = c.args in
    c.right_by.ensures ∙ luma_judged a.judge.settings a.judge.named a.judge.limits c.args.judge.limits_of a.v a.p c.exact_luma-x.result c.exact_luma-x.ensures.value
