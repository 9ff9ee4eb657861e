-- Document 01, "Table of proved examples": J's weights and p1 to p12, by one statement over one list.
use Rattle.std.specs.Prelude.{Bool, true, false, not, ◌&&◌, List, [], ◌∷◌, ℕ, ◌+◌, T, eqb, ℤ, pos, negsuc, length, get_or}
use Rattle.std.specs.Int.Count.{count_trailing_zeros}
use Rattle.std.specs.Float.Ieee.{mul, div, sub, sum, neg, round, units, odd, size, span, climb, of_int}
use Rattle.std.specs.Int.Signed.{le_z}
use Rattle.rules.specs.declared.Settings.{Settings}
use Rattle.rules.specs.declared.Matrix.{Matrix}
use Rattle.rules.specs.declared.Matrix.TheVariants.{Tabled, Own}
use Rattle.rules.specs.declared.Pixel.{Pixel}
use Rattle.rules.specs.declared.Triple.{Triple}
use Rattle.rules.specs.declared.Weights.{Weights}
use Rattle.rules.specs.declared.YuvStandardMatrix.{YuvStandardMatrix}
use Rattle.rules.specs.declared.YuvStandardMatrix.TheVariants.{Bt601, Bt709, Smpte240}
use Rattle.rules.specs.declared.YuvRange.{YuvRange}
use Rattle.rules.specs.declared.YuvRange.TheVariants.{Limited, Full}
use Rattle.rules.specs.declared.YuvChromaSubsampling.TheVariants.{Yuv420}
use Rattle.rules.specs.declared.YuvNVOrder.TheVariants.{UV}
use Rattle.rules.specs.declared.YuvBytesPacking.{YuvBytesPacking}
use Rattle.rules.specs.declared.YuvBytesPacking.TheVariants.{MostSignificantBytes, LeastSignificantBytes}
use Rattle.rules.specs.declared.YuvEndianness.{YuvEndianness}
use Rattle.rules.specs.declared.YuvEndianness.TheVariants.{BigEndian, LittleEndian}
use Rattle.rules.specs.declared.YuvSourceChannels.TheVariants.{Rgb}
use Rattle.rules.specs.Matrices.{matrix_of}
use Rattle.rules.specs.Weights.{forward, rounded, weights_of, luma_row, cb_row, cr_row}
use Rattle.rules.specs.Sample.{weighted, signed_code}
use Rattle.rules.specs.Blocks.{total, mean}
use Rattle.rules.specs.Storage.{word}
use Rattle.rules.specs.Refusals.{first}
use Rattle.rules.specs.Answers.{Answer, given, refused}
use Rattle.rules.specs.Settle.{near, row_near, all_near, colour, white, blue, yellow, red, code_off, some_code_off, settle}
use Rattle.rules.specs.PlaneSamples.{luma_sample}
use Rattle.rules.specs.Check.{right}

-- an example, with what it must give last
pub data Example : Type 0 where
  -- the code of a pixel, by a precision, a bias and three weights
  codes : ℕ → ℕ → Triple → Pixel → ℤ → Example
  -- whether check calls a code right for a pixel's luma
  checks : Settings → Pixel → ℕ → Bool → Example
  -- the word that a code of a depth is stored as
  stores : YuvBytesPacking → YuvEndianness → ℕ → ℕ → ℕ → Example
  -- the mean of some samples
  means : List ℕ → ℕ → Example
  -- three of the nine weights that settle hands out: from 0 on those of luma, from 3 on of Cb, from 6 on of Cr
  settles : Settings → ℕ → Triple → Example
  -- the number by which settle refuses
  declines : Settings → ℕ → Example

abbrev pub same_z : ℤ → ℤ → Bool
same_z a b = le_z a b && le_z b a

abbrev pub same : Bool → Bool → Bool
same true b = b
same false b = not b

abbrev pub gives_row : Answer → ℕ → Triple → Bool
gives_row (given v) n t = same_z (get_or v n (pos 0)) t.red && (same_z (get_or v (n + 1) (pos 0)) t.green && same_z (get_or v (n + 2) (pos 0)) t.blue)
gives_row (refused m v) n t = false

abbrev pub gives_number : Answer → ℕ → Bool
gives_number (given v) n = false
gives_number (refused m v) n = eqb m n

-- by Kr and Kb of the matrix's row; a custom matrix has none
abbrev pub judges : Matrix → Settings → Pixel → ℕ → Bool → Bool
judges (Tabled k) s x c e = same e (right s k (luma_sample (λ row column. x) 0 0) c)
judges (Own p) s x c e = false

unfoldable pub holds : Example → Bool
holds (codes p bias w x c) = same_z (signed_code p bias w x) c
holds (checks s x c e) = judges (matrix_of s.matrix) s x c e
holds (stores k e d c v) = eqb (word k e d c) v
holds (means l m) = eqb (mean (length l) (total l)) m
holds (settles s n t) = gives_row (settle s) n t
holds (declines s n) = gives_number (settle s) n

unfoldable pub every : List Example → Bool
every [] = true
every (e ∷ es) = holds e && every es

-- P = 13, 4:2:0, RGB, UV, least-significant, little endian, by a depth, a matrix and a range
abbrev example : ℕ → YuvStandardMatrix → YuvRange → Settings
example d m r = record {
  depth = d;
  precision = 13;
  matrix = m;
  range = r;
  subsampling = Yuv420;
  order = UV;
  packing = LeastSignificantBytes;
  endianness = LittleEndian;
  channels = Rgb;
}

-- "J" is Bt601, full, d = 10, P = 13
abbrev j : Settings
j = example 10 Bt601 Full

-- "Its weights: Y 2449, 4809, 934; Cb −1382, −2714, 4096; Cr 4096, −3430, −666"
abbrev j_weights : Weights
j_weights = record {
  yr = pos 2449;
  yg = pos 4809;
  yb = pos 934;
  cb_r = negsuc 1381;
  cb_g = negsuc 2713;
  cb_b = pos 4096;
  cr_r = pos 4096;
  cr_g = negsuc 3429;
  cr_b = negsuc 665;
}

abbrev luma : ℤ → ℤ → ℤ → Triple
luma r g b = record { red = r; green = g; blue = b }

abbrev examples : List Example
examples =
    -- J's weights, from which p1 to p6 start
    settles j 0 (luma_row j_weights) ∷
    settles j 3 (cb_row j_weights) ∷
    settles j 6 (cr_row j_weights) ∷
    -- p1: J red (1023,0,0): 306, 339, 1023
    codes 13 0 (luma_row j_weights) (red 1023) (pos 306) ∷
    codes 13 512 (cb_row j_weights) (red 1023) (pos 339) ∷
    codes 13 512 (cr_row j_weights) (red 1023) (pos 1023) ∷
    -- p2: J blue: 117, 1023, 429
    codes 13 0 (luma_row j_weights) (blue 1023) (pos 117) ∷
    codes 13 512 (cb_row j_weights) (blue 1023) (pos 1023) ∷
    codes 13 512 (cr_row j_weights) (blue 1023) (pos 429) ∷
    -- p3: J (0,0,1): Cb 512, an exact half
    codes 13 512 (cb_row j_weights) (colour 0 0 1) (pos 512) ∷
    -- p4: J yellow (1023,1023,0): Cb 0
    codes 13 512 (cb_row j_weights) (yellow 1023) (pos 0) ∷
    -- p5: J white: 1023, 512, 512
    codes 13 0 (luma_row j_weights) (white 1023) (pos 1023) ∷
    codes 13 512 (cb_row j_weights) (white 1023) (pos 512) ∷
    codes 13 512 (cr_row j_weights) (white 1023) (pos 512) ∷
    -- p6: J check of the red pixel's luma: 306 within; 305 and 307 wrong
    checks j (red 1023) 306 true ∷
    checks j (red 1023) 305 false ∷
    checks j (red 1023) 307 false ∷
    -- p7: luma weights 1491, 5017, 506 (Bt709 limited, d = 10, P = 13): white 940
    settles (example 10 Bt709 Limited) 0 (luma (pos 1491) (pos 5017) (pos 506)) ∷
    codes 13 64 (luma (pos 1491) (pos 5017) (pos 506)) (white 1023) (pos 940) ∷
    -- p8: 940 at d = 10: most-significant 60160, exchanged 235
    stores MostSignificantBytes LittleEndian 10 940 60160 ∷
    stores MostSignificantBytes BigEndian 10 940 235 ∷
    -- p9: 940 least-significant, exchanged: 44035
    stores LeastSignificantBytes BigEndian 10 940 44035 ∷
    -- p10: four-pixel mean of 0,0,0,1 is 0; of 0,0,1,1 is 1
    means (0 ∷ 0 ∷ 0 ∷ 1 ∷ []) 0 ∷
    means (0 ∷ 0 ∷ 1 ∷ 1 ∷ []) 1 ∷
    -- p11: luma weights 1737, 5743, 713 (Smpte240 full, P = 13): white at d = 12 is 4095
    settles (example 12 Smpte240 Full) 0 (luma (pos 1737) (pos 5743) (pos 713)) ∷
    codes 13 0 (luma (pos 1737) (pos 5743) (pos 713)) (white 4095) (pos 4095) ∷
    -- p12: the same at d = 13: white is 8192, refusal 5
    codes 13 0 (luma (pos 1737) (pos 5743) (pos 713)) (white 8191) (pos 8192) ∷
    declines (example 13 Smpte240 Full) 5 ∷
    []

pub table : T (every examples)
unfolding every holds settle weights_of near row_near all_near code_off some_code_off signed_code weighted first forward rounded
    word total mul div sub sum neg round units odd size span climb of_int count_trailing_zeros
table = tt
