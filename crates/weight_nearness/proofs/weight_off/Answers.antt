-- `weight_nearness::weight_off` meets its contract.
use mathlib.Core.Path.{sym, ap, ◌∙◌}
use native.Mathlib.Omega.{arith}
use Rattle.yuv_support.specs.declared.ranges.YuvChromaRange.{YuvChromaRange}
use Rattle.rule_laws.proofs.Depths.{sane, tabled_sum}
use Rattle.weight_nearness.proofs.weight_off.Goals as goal

pub all_near-requires : goal.all_near-requires
all_near-requires c =
    let a = c.args in
    let pre = c.requires in
    let q = sane a.s.depth a.s.range pre.le_depth.0 pre.le_depth.1 in
    let k = tabled_sum a.s.matrix _ (sym pre.matrix_value ∙ c.in-Tabled.is) in
    let y = ap (λ (r : YuvChromaRange). r.range_y) c.get_yuv_range-g.ensures in
    let u = ap (λ (r : YuvChromaRange). r.range_uv) c.get_yuv_range-g.ensures in
    (pre.le_depth.2, k, omega (arith, c.most-m.ensures, q.m_lt), omega (arith, y, q.y_le, q.m_lt), omega (arith, u, q.uv_le, q.m_lt))
