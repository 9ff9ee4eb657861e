-- Document 01, "Settings and weights": the nine weights, first in 32-bit floats and then as whole numbers. Definitions only.
use Rattle.std.specs.Prelude.{ℕ, ◌+◌, ◌*◌, ◌/◌, ◌^◌, min, Bool, true, false, ℤ, pos, negsuc, neg_ℤ, Float}
use Rattle.std.specs.Float.{nan, inf, fin, binary32}
use Rattle.std.specs.Float.Ieee.{up, down, round, sub, mul, div, of_int}
use Rattle.rules.specs.declared.CbCrForwardTransform.{CbCrForwardTransform}
use Rattle.rules.specs.declared.Weights.{Weights}
use Rattle.rules.specs.declared.Triple.{Triple}
use Rattle.rules.specs.declared.YuvBias.{YuvBias}
use Rattle.rules.specs.declared.Settings.{Settings}
use Rattle.rules.specs.declared.Matrix.{Matrix}
use Rattle.rules.specs.declared.Matrix.TheVariants.{Tabled, Own}
use Rattle.rules.specs.Ranges.{most, y_range, uv_range}
use Rattle.rules.specs.Matrices.{matrix_of}

-- ---- in 32-bit floats

-- the 32-bit float nearest to n / 10000
abbrev pub nearest : ℕ → Float
nearest n = round binary32 false n 10000

-- a whole number as a 32-bit float
abbrev pub whole : ℕ → Float
whole n = of_int binary32 (pos n)

abbrev pub nought : Float
nought = fin false 0 (pos 0)

abbrev pub one : Float
one = fin false 1 (pos 0)

-- 1 · 2^(−1)
abbrev pub half : Float
half = fin false 1 (negsuc 0)

abbrev pub minus_half : Float
minus_half = fin true 1 (negsuc 0)

abbrev pub pair : Float → Float → YuvBias
pair kr kb = record { kr = kr; kb = kb }

-- "A named matrix uses the 32-bit floats nearest Kr/10000 and Kb/10000"; a custom one has its own
abbrev pub pair_of : Matrix → YuvBias
pair_of (Tabled k) = pair (nearest k.kr) (nearest k.kb)
pair_of (Own p) = p

-- "kg is 1 − kr, then minus kb"
abbrev pub rest : YuvBias → Float
rest p = sub binary32 (sub binary32 one p.kr) p.kb

-- k · range_y / m
abbrev pub luma_part : ℕ → ℕ → Float → Float
luma_part m range k = div binary32 (mul binary32 k (whole range)) (whole m)

-- −1/2 · k / (1 − own) · range_uv / m
abbrev pub other_part : ℕ → ℕ → Float → Float → Float
other_part m range k own = div binary32 (mul binary32 (div binary32 (mul binary32 minus_half k) (sub binary32 one own)) (whole range)) (whole m)

-- 1/2 · range_uv / m
abbrev pub own_part : ℕ → ℕ → Float
own_part m range = div binary32 (mul binary32 half (whole range)) (whole m)

-- "each operation in the order of get_forward_transform", from m, range_y, range_uv and the pair
unfoldable pub forward : ℕ → ℕ → ℕ → YuvBias → CbCrForwardTransform
forward m y uv p = record {
  yr = luma_part m y p.kr;
  yg = luma_part m y (rest p);
  yb = luma_part m y p.kb;
  cb_r = other_part m uv p.kr p.kb;
  cb_g = other_part m uv (rest p) p.kb;
  cb_b = own_part m uv;
  cr_r = own_part m uv;
  cr_g = other_part m uv (rest p) p.kr;
  cr_b = other_part m uv p.kb p.kr;
}

-- ---- to whole numbers

abbrev pub signed : Bool → ℕ → ℤ
signed true n = neg_ℤ (pos n)
signed false n = pos n

-- a / c to the nearest whole number, a half up
abbrev pub half_up : ℕ → ℕ → ℕ
half_up a c = (a * 2 + c) / (c * 2)

-- "to the nearest whole number, halves away from zero": the size a half up, then the sign.
-- No weight that settle hands out is not a number or passes 2^31 − 1; the other cases make it total.
unfoldable pub rounded : Float → ℤ
rounded nan = pos 0
rounded (inf s) = signed s 2147483647
rounded (fin s m e) = signed s (min (half_up (m * up e) (down e)) 2147483647)

-- "Each is multiplied by 2^P", in floats, and rounded
abbrev pub scaled : ℕ → Float → ℤ
scaled precision x = rounded (mul binary32 x (whole (2 ^ precision)))

abbrev pub integers : ℕ → CbCrForwardTransform → Weights
integers p f = record {
  yr = scaled p f.yr;
  yg = scaled p f.yg;
  yb = scaled p f.yb;
  cb_r = scaled p f.cb_r;
  cb_g = scaled p f.cb_g;
  cb_b = scaled p f.cb_b;
  cr_r = scaled p f.cr_r;
  cr_g = scaled p f.cr_g;
  cr_b = scaled p f.cr_b;
}

-- the nine weights of any settings
unfoldable pub weights_of : Settings → Weights
weights_of s =
    integers s.precision
    (forward (most s.depth) (y_range s.range s.depth) (uv_range s.range s.depth) (pair_of (matrix_of s.matrix)))

-- ---- the three rows

abbrev pub luma_row : Weights → Triple
luma_row w = record { red = w.yr; green = w.yg; blue = w.yb }

abbrev pub cb_row : Weights → Triple
cb_row w = record { red = w.cb_r; green = w.cb_g; blue = w.cb_b }

abbrev pub cr_row : Weights → Triple
cr_row w = record { red = w.cr_r; green = w.cr_g; blue = w.cr_b }
