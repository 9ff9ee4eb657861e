-- `restored_pixels::chroma_terms` meets its contract.
use mathlib.Core.Path.{◌≡◌, ap, ◌∙◌}
use Prim.Native.Nat.{ℕ, ◌≤◌}
use native.Mathlib.Omega.{arith}
use lib.IntN.{ℤ, pos, nat_abs, ◌*ℤ◌}
use mir.Syntax.{w64}
use mir.Val.{to_z, of_z}
use Rattle.restored_pixels.proofs.Sums.{sum_fits, sum_back, sum_small, less_fits, twice_fits, twice_back, twice_small}
use Rattle.restored_pixels.proofs.chroma_terms.Goals as goal

-- a product that was worked out, by the word that was widened
widened : (weight z : ℤ) {m n : ℕ} → z ≡ to_z w64 (of_z w64 weight) *ℤ pos m → m ≡ n → z ≡ to_z w64 (of_z w64 weight) *ℤ pos n
widened weight z p e = p ∙ ap (λ (k : ℕ). to_z w64 (of_z w64 weight) *ℤ pos k) e

wide : (z : ℤ) → nat_abs z ≤ 1099511627776 → nat_abs z ≤ 2199023255552
wide z h = omega (arith, h)

pub overflow_sub-result : goal.overflow_sub-result
overflow_sub-result c =
    let r = c.args.r in
    let q = c.requires in
    less_fits r.green_start r.first.green c.weigh-2.result c.args.a (wide r.green_start q.green) q.first.green (omega (arith, c.ranges.a.fits))
    (widened r.first.green c.weigh-2.result c.weigh-2.ensures.0 c.from-2.ensures)

pub overflow_sub-result-2 : goal.overflow_sub-result-2
overflow_sub-result-2 c =
    let r = c.args.r in
    let q = c.requires in
    twice_fits r.green_start r.first.green r.third.green c.weigh-2.result c.weigh-3.result c.args.a c.args.b q.green q.first.green q.third.green (omega (arith, c.ranges.a.fits)) (omega (arith, c.ranges.b.fits))
    (widened r.first.green c.weigh-2.result c.weigh-2.ensures.0 c.from-2.ensures) (widened r.third.green c.weigh-3.result c.weigh-3.ensures.0 c.from-3.ensures)

pub overflow_add-result-2 : goal.overflow_add-result-2
overflow_add-result-2 c =
    let r = c.args.r in
    let q = c.requires in
    sum_fits r.third.start r.third.own c.weigh-4.result c.args.b (wide r.third.start q.third.start) q.third.own (omega (arith, c.ranges.b.fits))
    (widened r.third.own c.weigh-4.result c.weigh-4.ensures.0 c.from-4.ensures)

pub returns : goal.returns
returns c =
    let r = c.args.r in
    let q = c.requires in
    let ha : c.args.a ≤ 65535 = omega (arith, c.ranges.a.fits) in
    let hb : c.args.b ≤ 65535 = omega (arith, c.ranges.b.fits) in
    let x = wide r.first.start q.first.start in
    let z = wide r.third.start q.third.start in
    let e = widened r.first.own c.weigh.result c.weigh.ensures.0 c.from.ensures in
    let f = widened r.first.green c.weigh-2.result c.weigh-2.ensures.0 c.from-2.ensures in
    let g = widened r.third.green c.weigh-3.result c.weigh-3.ensures.0 c.from-3.ensures in
    let h = widened r.third.own c.weigh-4.result c.weigh-4.ensures.0 c.from-4.ensures in
    let first = sum_back r.first.start r.first.own c.weigh.result c.args.a x q.first.own ha e in
    let green = twice_back r.green_start r.first.green r.third.green c.weigh-2.result c.weigh-3.result c.args.a c.args.b q.green q.first.green q.third.green ha hb f g in
    let third = sum_back r.third.start r.third.own c.weigh-4.result c.args.b z q.third.own hb h in (
      (λ i. record { first = first i; green = green i; third = third i }),
      record {
        first = omega (arith, sum_small r.first.start r.first.own c.weigh.result c.args.a x q.first.own ha e, q.first.start);
        green = twice_small r.green_start r.first.green r.third.green c.weigh-2.result c.weigh-3.result c.args.a c.args.b q.green q.first.green q.third.green ha hb f g;
        third = omega (arith, sum_small r.third.start r.third.own c.weigh-4.result c.args.b z q.third.own hb h, q.third.start);
      },
    )
