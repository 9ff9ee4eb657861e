-- Document 01: refusals 1 to 5, and what settle answers. Definitions only.
use Rattle.std.specs.Prelude.{ℕ, ◌-◌, ◌*◌, ◌^◌, Bool, false, not, ◌&&◌, ◌||◌, List, [], ◌∷◌, leb, ℤ, pos, nat_abs, neg_ℤ, ◌-ℤ◌, ◌*ℤ◌}
use Rattle.std.specs.Int.Signed.{le_z}
use Rattle.std.specs.Float.Ieee.{lt}
use Rattle.rules.specs.declared.Settings.{Settings}
use Rattle.rules.specs.declared.Pixel.{Pixel}
use Rattle.rules.specs.declared.Triple.{Triple}
use Rattle.rules.specs.declared.Weights.{Weights}
use Rattle.rules.specs.declared.YuvBias.{YuvBias}
use Rattle.rules.specs.declared.Named.{Named}
use Rattle.rules.specs.declared.Matrix.{Matrix}
use Rattle.rules.specs.declared.Matrix.TheVariants.{Tabled, Own}
use Rattle.rules.specs.Ranges.{most, y_bias, uv_bias, y_range, uv_range}
use Rattle.rules.specs.Matrices.{kg, matrix_of}
use Rattle.rules.specs.Weights.{nought, rest, weights_of, luma_row, cb_row, cr_row}
use Rattle.rules.specs.Sample.{signed_code}
use Rattle.rules.specs.Refusals.{outside, Line, line, first}
use Rattle.rules.specs.Answers.{Answer, given, answer, weight_values}

-- ---- 3: "custom pair: not (kr > 0 and kb > 0 and kg > 0, kg as worked out in f32); not-a-number counts as failing"

abbrev pub positive_pair : YuvBias → Bool
positive_pair p = lt nought p.kr && (lt nought p.kb && lt nought (rest p))

abbrev pub pair_off : Matrix → Bool
pair_off (Tabled k) = false
pair_off (Own p) = not (positive_pair p)

-- ---- 4: "named matrix: some integer weight lies more than 51/100 from 2^P times its exact fraction"

-- w is within 51/100 of 2^P times a / d
unfoldable pub near : ℕ → ℕ → ℤ → ℤ → Bool
near precision d w a = leb (100 * nat_abs (w *ℤ pos d -ℤ a *ℤ pos (2 ^ precision))) (51 * d)

unfoldable pub row_near : ℕ → ℕ → Triple → ℤ → ℤ → ℤ → Bool
row_near precision d w a b c = near precision d w.red a && (near precision d w.green b && near precision d w.blue c)

-- the exact fractions are the factors of the exact values (Fractions), over 10000·m, 2·(10000 − Kb)·m and 2·(10000 − Kr)·m
unfoldable pub all_near : ℕ → Named → ℕ → ℕ → ℕ → Weights → Bool
all_near precision k m y uv w =
    row_near precision (10000 * m) (luma_row w) (pos (k.kr * y)) (pos (kg k * y)) (pos (k.kb * y))
    && (row_near precision (2 * (10000 - k.kb) * m) (cb_row w) (neg_ℤ (pos (k.kr * uv))) (neg_ℤ (pos (kg k * uv))) (pos ((10000 - k.kb) * uv))
    && row_near precision (2 * (10000 - k.kr) * m) (cr_row w) (pos ((10000 - k.kr) * uv)) (neg_ℤ (pos (kg k * uv))) (neg_ℤ (pos (k.kb * uv))))

abbrev pub weight_off : Settings → Matrix → Weights → Bool
weight_off s (Own p) w = false
weight_off s (Tabled k) w = not (all_near s.precision k (most s.depth) (y_range s.range s.depth) (uv_range s.range s.depth) w)

-- ---- 5: "one of five codes is outside 0 to m: white's luma, Cb of full blue and of full yellow, Cr of full red and of full cyan"

abbrev pub colour : ℕ → ℕ → ℕ → Pixel
colour r g b = record { red = r; green = g; blue = b }

abbrev pub black : Pixel
black = colour 0 0 0

abbrev pub white : ℕ → Pixel
white m = colour m m m

abbrev pub blue : ℕ → Pixel
blue m = colour 0 0 m

abbrev pub yellow : ℕ → Pixel
yellow m = colour m m 0

abbrev pub red : ℕ → Pixel
red m = colour m 0 0

abbrev pub cyan : ℕ → Pixel
cyan m = colour 0 m m

-- a code is outside 0 to m
unfoldable pub code_off : ℕ → ℕ → ℕ → Triple → Pixel → Bool
code_off precision m bias w p = let c = signed_code precision bias w p in not (le_z (pos 0) c && le_z c (pos m))

unfoldable pub some_code_off : Settings → Weights → Bool
some_code_off s w =
    let p = s.precision in
    let m = most s.depth in
    let uv = uv_bias s.depth in
    code_off p m (y_bias s.range s.depth) (luma_row w) (white m)
    || (code_off p m uv (cb_row w) (blue m)
    || (code_off p m uv (cb_row w) (yellow m)
    || (code_off p m uv (cr_row w) (red m)
    || code_off p m uv (cr_row w) (cyan m))))

-- ---- the table, a line for each test, and the answer

abbrev pub depth_line : Settings → Line
depth_line s = line 1 (outside 10 16 s.depth)

abbrev pub precision_line : Settings → Line
precision_line s = line 2 (outside 1 13 s.precision)

abbrev pub pair_line : Settings → Line
pair_line s = line 3 (pair_off (matrix_of s.matrix))

abbrev pub weight_line : Settings → Line
weight_line s = line 4 (weight_off s (matrix_of s.matrix) (weights_of s))

abbrev pub code_line : Settings → Line
code_line s = line 5 (some_code_off s (weights_of s))

abbrev pub settle_lines : Settings → List Line
settle_lines s = depth_line s ∷ precision_line s ∷ pair_line s ∷ weight_line s ∷ code_line s ∷ []

-- THE PROMISE of settle
unfoldable pub settle : Settings → Answer
settle s = answer (first (settle_lines s)) (given (weight_values (weights_of s)))
