-- What weights must be good for to convert a frame by them. Definitions only.
use Rattle.std.specs.Prelude.{◌^◌, ◌≤◌}
use Rattle.rules.specs.declared.Settings.{Settings}
use Rattle.rules.specs.declared.Weights.{Weights}
use Rattle.rules.specs.Ranges.{most, y_bias, uv_bias}
use Rattle.rules.specs.Weights.{luma_row, cb_row, cr_row}
use Rattle.rules.specs.Settle.{black, white, blue, yellow, red, cyan}
use Rattle.rule_laws.specs.Signs.{Bounded}
use Rattle.rule_laws.specs.Codes.{Spans, Coded}

-- refusals 1 and 2 are not due
pub record Reach (s : Settings) : Type 0 where
  pub shallow : 10 ≤ s.depth
  pub deep : s.depth ≤ 16
  pub coarse : 1 ≤ s.precision
  pub fine : s.precision ≤ 13

-- the nine weights have their signs and are at most 2^P in size; luma lies from black's code to white's, Cb from full yellow's
-- to full blue's, Cr from full cyan's to full red's; and every code from 0 to m
pub record Usable (s : Settings) (w : Weights) : Type 0 where
  pub reach : Reach s
  pub weights : Bounded (2 ^ s.precision) w
  pub luma : Spans s.precision (most s.depth) (y_bias s.range s.depth) (luma_row w) black (white (most s.depth))
  pub cb : Spans s.precision (most s.depth) (uv_bias s.depth) (cb_row w) (yellow (most s.depth)) (blue (most s.depth))
  pub cr : Spans s.precision (most s.depth) (uv_bias s.depth) (cr_row w) (cyan (most s.depth)) (red (most s.depth))
  pub luma_coded : Coded s.precision (most s.depth) (y_bias s.range s.depth) (luma_row w)
  pub cb_coded : Coded s.precision (most s.depth) (uv_bias s.depth) (cb_row w)
  pub cr_coded : Coded s.precision (most s.depth) (uv_bias s.depth) (cr_row w)
