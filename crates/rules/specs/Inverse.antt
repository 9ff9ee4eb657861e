-- Document 02, Six: the five weights of the way back to RGB, first in 32-bit floats and then as whole numbers. Definitions only.
use Rattle.std.specs.Prelude.{ℕ, pos, false, Float}
use Rattle.std.specs.Float.{fin, binary32}
use Rattle.std.specs.Float.Ieee.{sub, mul, div}
use Rattle.rules.specs.declared.CbCrInverseTransform.{CbCrInverseTransform}
use Rattle.rules.specs.declared.InverseWeights.{InverseWeights}
use Rattle.rules.specs.declared.YuvBias.{YuvBias}
use Rattle.rules.specs.declared.Settings.{Settings}
use Rattle.rules.specs.Ranges.{most, y_range, uv_range}
use Rattle.rules.specs.Matrices.{matrix_of}
use Rattle.rules.specs.Weights.{whole, one, rest, scaled, pair_of}

abbrev pub two : Float
two = fin false 1 (pos 1)

-- m / range
abbrev pub stretch : ℕ → ℕ → Float
stretch m range = div binary32 (whole m) (whole range)

-- (2 · (1 − own)) · (m / range_uv)
abbrev pub own_back : ℕ → ℕ → Float → Float
own_back m range own = mul binary32 (mul binary32 two (sub binary32 one own)) (stretch m range)

-- (2 · ((1 − own) · own / kg)) · (m / range_uv)
abbrev pub green_back : ℕ → ℕ → Float → Float → Float
green_back m range own kg = mul binary32 (mul binary32 two (div binary32 (mul binary32 (sub binary32 one own) own) kg)) (stretch m range)

-- "Weights come from get_inverse_transform with its order of f32 steps", from m, range_y, range_uv and the pair
unfoldable pub backward : ℕ → ℕ → ℕ → YuvBias → CbCrInverseTransform
backward m y uv p = record {
  y_coef = stretch m y;
  cr_coef = own_back m uv p.kr;
  cb_coef = own_back m uv p.kb;
  g_coeff_1 = green_back m uv p.kr (rest p);
  g_coeff_2 = green_back m uv p.kb (rest p);
}

-- "scaled by 2^P and rounded as in 01"
abbrev pub inverse_integers : ℕ → CbCrInverseTransform → InverseWeights
inverse_integers p f = record {
  y_coef = scaled p f.y_coef;
  cr_coef = scaled p f.cr_coef;
  cb_coef = scaled p f.cb_coef;
  g_coeff_1 = scaled p f.g_coeff_1;
  g_coeff_2 = scaled p f.g_coeff_2;
}

-- the five weights of any settings
unfoldable pub inverse_weights_of : Settings → InverseWeights
inverse_weights_of s =
    inverse_integers s.precision
    (backward (most s.depth) (y_range s.range s.depth) (uv_range s.range s.depth) (pair_of (matrix_of s.matrix)))
