-- `row_check::passed::luma_passed` meets its contract.
use mathlib.Core.Path.{sym, ap, ◌∙◌}
use mathlib.Core.List.{[], ◌∷◌}
use Prim.Native.Nat.{◌<◌}
use native.Mathlib.Omega.{arith}
use lib.ListN.{length, get_or}
use Rattle.rules.specs.Storage.{exchanged}
use Rattle.fractions.specs.Sums.{sums_of}
use Rattle.frames.specs.Rows.{row_pixel}
use Rattle.check_limits.proofs.Limits.{luma_modest}
use Rattle.gauges.specs.Gauges.{shares_of, gauge_of, luma_near}
use Rattle.formed_rows.proofs.Formed.{all_formed_iff}
use Rattle.gauges.proofs.Prefixes.{passed_as}
use Rattle.gauges.proofs.Gauged.{luma_true}
use Rattle.row_check.proofs.passed.luma_passed.Goals as goal

pub shares_of-h-requires : goal.shares_of-h-requires
shares_of-h-requires c =
    let h = c.args.judge.limits_of in
    (h.whole, (luma_modest h c.args.judge.reach h.luma.small).range≤, c.packing_factor-factor.ensures.2)

pub gauge_of-g-requires : goal.gauge_of-g-requires
gauge_of-g-requires c =
    let h = c.args.judge.limits_of in
    ((luma_modest h c.args.judge.reach h.luma.small).bias≤, h.luma.small, h.luma.close, c.packing_factor-factor.ensures.2)

pub returns : goal.returns
returns c =
    let a = c.args in
    let n = c.packing_factor-factor.ensures.0 in
    let shares = c.shares_of-h.ensures.0 ∙ ap (shares_of a.judge.named a.judge.limits.ranges.range_y) n in
    let gauge = c.gauge_of-g.ensures.0 ∙ ap (gauge_of a.judge.limits.ranges.bias_y a.judge.limits.luma) n in
    let formed = (all_formed_iff a.judge.settings a.luma.now).0 (sym c.all_formed.ensures ∙ c.if-not-all_formed.false) in
    let p = c.luma_run.ensures in
    passed_as
    (λ e i q. let inside : e < length a.luma.now = omega (arith, i, p.most, c.requires.width_in_bounds.0) in
    luma_true a.judge.settings (get_or a.luma.now e 0) (formed.each e inside) a.judge.named a.judge.limits c.args.judge.limits_of (row_pixel a.judge.settings.channels a.pixels.now e)
    (sym (λ o. luma_near (gauge o) (shares o) (sums_of (row_pixel a.judge.settings.channels a.pixels.now e ∷ [])) (exchanged a.judge.settings.endianness (get_or a.luma.now e 0))) ∙ q))
    p
