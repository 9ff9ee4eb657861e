-- `joined_weights::frame_weights` meets its contract.
use mathlib.Core.Path.{◌≡◌, ap, ◌∙◌, subst⁻¹}
use mathlib.Core.Bool.{Bool}
use lib.IntN.{pos}
use Prim.Native.Nat.{ℕ, ◌+◌, ◌^◌, ◌≤◌}
use Rattle.rules.specs.declared.Settings.{Settings}
use Rattle.rules.specs.declared.Weights.{Weights}
use Rattle.rules.specs.Ranges.{y_bias, uv_bias}
use Rattle.rules.specs.Channels.{is_u}
use Rattle.rule_laws.specs.Usable.{Usable}
use Rattle.tolerance_laws.specs.Chroma.{chroma_row}
use Rattle.yuv_support.specs.declared.ranges.YuvChromaRange.{YuvChromaRange}
use Rattle.joined_weights.specs.JoinedWeights.{joined_weights, shared_weights, scaled_start, scaled_weights, frame_weights}
use Rattle.joined_weights.proofs.Sizes.{bias_y_lem, bias_uv_lem}
use Rattle.joined_weights.proofs.frame_weights.Goals as goal
use Rattle.joined_weights.proofs.frame_weights.Goals.{After-chroma_row-second}

-- what was worked out for the lines
module _ (c : After-chroma_row-second) where
  abbrev s : Settings
  s = c.args.s

  abbrev w : Weights
  w = c.args.w

  abbrev u : Usable s w
  u = c.requires

  y_bias_lem : c.get_yuv_range-g.result.bias_y ≡ y_bias s.range s.depth
  y_bias_lem = ap (λ (r : YuvChromaRange). r.bias_y) c.get_yuv_range-g.ensures

  uv_bias_lem : c.get_yuv_range-g.result.bias_uv ≡ uv_bias s.depth
  uv_bias_lem = ap (λ (r : YuvChromaRange). r.bias_uv) c.get_yuv_range-g.ensures

  first : c.chroma_row-first.result ≡ chroma_row (is_u s.order 0) w
  first = c.chroma_row-first.ensures ∙ ap (λ (b : Bool). chroma_row b w) c.is_u.ensures

  second : c.chroma_row-second.result ≡ chroma_row (is_u s.order 1) w
  second = c.chroma_row-second.ensures ∙ ap (λ (b : Bool). chroma_row b w) c.is_u-2.ensures

pub luma_weights-requires-clause-reach : goal.luma_weights-requires-clause-reach
luma_weights-requires-clause-reach c =
    ((u (goal.at.luma_weights-requires-clause-reach c).After-chroma_row-second).reach, subst⁻¹ (λ (n : ℕ). n + 1 ≤ 2 ^ (s (goal.at.luma_weights-requires-clause-reach c).After-chroma_row-second).depth) (y_bias_lem (goal.at.luma_weights-requires-clause-reach c).After-chroma_row-second) (bias_y_lem (s (goal.at.luma_weights-requires-clause-reach c).After-chroma_row-second).depth (s (goal.at.luma_weights-requires-clause-reach c).After-chroma_row-second).range (u (goal.at.luma_weights-requires-clause-reach c).After-chroma_row-second).reach.shallow))

pub chroma_weights-requires-clause-reach : goal.chroma_weights-requires-clause-reach
chroma_weights-requires-clause-reach d =
    ((u (goal.at.chroma_weights-requires-clause-reach d).After-chroma_row-second).reach, subst⁻¹ (λ (n : ℕ). n + 1 ≤ 2 ^ (s (goal.at.chroma_weights-requires-clause-reach d).After-chroma_row-second).depth) (uv_bias_lem (goal.at.chroma_weights-requires-clause-reach d).After-chroma_row-second) (bias_uv_lem (s (goal.at.chroma_weights-requires-clause-reach d).After-chroma_row-second).depth (u (goal.at.chroma_weights-requires-clause-reach d).After-chroma_row-second).reach.shallow))

pub returns : goal.returns
unfolding frame_weights
returns d =
    let y = d.luma_row-y.ensures in
    λ i. record {
      luma = (d.luma_weights.ensures ∙ (λ j. shared_weights (pos (scaled_start (s (goal.at.returns d).After-chroma_row-second) (y_bias_lem (goal.at.returns d).After-chroma_row-second j))) (scaled_weights (s (goal.at.returns d).After-chroma_row-second) (y j)))) i;
      chroma = (d.chroma_weights.ensures ∙ (λ j. joined_weights (pos (scaled_start (s (goal.at.returns d).After-chroma_row-second) (uv_bias_lem (goal.at.returns d).After-chroma_row-second j))) (scaled_weights (s (goal.at.returns d).After-chroma_row-second) (first (goal.at.returns d).After-chroma_row-second j)) (pos (scaled_start (s (goal.at.returns d).After-chroma_row-second) (uv_bias_lem (goal.at.returns d).After-chroma_row-second j))) (scaled_weights (s (goal.at.returns d).After-chroma_row-second) (second (goal.at.returns d).After-chroma_row-second j)))) i;
      below = d.bits_below.ensures i;
    }
