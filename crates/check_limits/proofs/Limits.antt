-- The limits that are worked out once, and the ranges in which no product passes 64 bits. Assumes nothing.
use mathlib.Core.Path.{◌≡◌, sym, subst}
use mathlib.Core.Bool.{Bool, true, false}
use Prim.Native.Nat.{ℕ, ◌-◌, ◌*◌, ◌≤◌}
use native.Mathlib.Omega.{arith}
use lib.ListN.{length}
use Rattle.rules.specs.declared.Settings.{Settings}
use Rattle.rules.specs.declared.Named.{Named}
use Rattle.rules.specs.declared.Pixel.{Pixel}
use Rattle.rules.specs.Ranges.{most}
use Rattle.rules.specs.Fractions.{halves}
use Rattle.rule_laws.specs.Usable.{Reach}
use Rattle.rule_laws.proofs.Depths.{sane}
use Rattle.tolerance_laws.specs.Chroma.{own_k}
use Rattle.yuv_support.specs.declared.ranges.YuvChromaRange.{YuvChromaRange}
use Rattle.blocks.specs.Tiles.{tiles}
use Rattle.fractions.specs.Sums.{Modest}
use Rattle.check_limits.specs.declared.Limit.{Limit}
use Rattle.check_limits.specs.declared.BlockLimits.{BlockLimits}
use Rattle.check_limits.specs.declared.SettingsLimits.{SettingsLimits}
use Rattle.check_limits.specs.Limits.{LimitOf, BlockLimitsOf, LimitsOf, limit_for, own_limit}

-- a limit of a divisor that was worked out
pub of_divisor : {precision m h under under' : ℕ} {l : Limit} → under ≡ under' → LimitOf precision m h under l → LimitOf precision m h under' l
of_divisor {precision} {m} {h} {l = l} e k = subst (λ (n : ℕ). LimitOf precision m h n l) e k

-- the limit of a block of tiles
module _ {precision m own : ℕ} {l : BlockLimits} (k : BlockLimitsOf precision m own l) (t u : ℕ → Pixel) (x : ℕ) where
  sized : (a b : Bool) → LimitOf precision m (halves (tiles a b t u x)) (2 * (10000 - own) * length (tiles a b t u x) * m) (limit_for l a b)
  sized false false = k.one
  sized true false = k.two
  sized false true = k.two
  sized true true = k.four

module _ {s : Settings} {k : Named} {limits : SettingsLimits} (h : LimitsOf s k limits) where
  -- of Cb or Cr
  pub own_sized : (u a b : Bool) (t l : ℕ → Pixel) (x : ℕ) →
      LimitOf s.precision (most s.depth) (halves (tiles a b t l x)) (2 * (10000 - own_k u k) * length (tiles a b t l x) * most s.depth) (own_limit limits u a b)
  own_sized true a b t l x = sized h.cb t l x a b
  own_sized false a b t l x = sized h.cr t l x a b

  -- in the ranges of the test
  pub own_fits : (u a b : Bool) {q : Limit} → q ≡ own_limit limits u a b → (q.under ≤ 5242800000) × (q.bound ≤ 60000000000000000)
  own_fits u a b e =
      let l = own_sized u a b (λ _. black) (λ _. black) 0 in
      subst (λ (q : Limit). (q.under ≤ 5242800000) × (q.bound ≤ 60000000000000000)) (sym e) (l.small, l.close)
    where
      black : Pixel
      black = record { red = 0; green = 0; blue = 0 }

  module _ (r : Reach s) {under : ℕ} (small : under ≤ 5242800000) where
    pub luma_modest : Modest k limits.ranges.bias_y limits.ranges.range_y under
    luma_modest =
        let n = sane s.depth s.range r.shallow r.deep in
        subst (λ (g : YuvChromaRange). Modest k g.bias_y g.range_y under) (sym h.ranges)
        (record { whole = h.whole; bias≤ = n.bias_y_lem; range≤ = omega (arith, n.y_le, n.m_lt); under≤ = small })

    pub chroma_modest : Modest k limits.ranges.bias_uv limits.ranges.range_uv under
    chroma_modest =
        let n = sane s.depth s.range r.shallow r.deep in
        subst (λ (g : YuvChromaRange). Modest k g.bias_uv g.range_uv under) (sym h.ranges)
        (record { whole = h.whole; bias≤ = n.bias_uv_lem; range≤ = omega (arith, n.uv_le, n.m_lt); under≤ = small })
