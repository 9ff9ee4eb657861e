-- Document 01, "Exact fractions and the tolerance" and refusal 6: which visible samples are wrong, and what check answers. Definitions only.
use Rattle.std.specs.Prelude.{ℕ, ◌+◌, ◌*◌, Bool, true, false, ◌&&◌, List, [], ◌∷◌, ◌++◌, length, get_or, None, Some}
use Rattle.rules.specs.declared.Settings.{Settings}
use Rattle.rules.specs.declared.Frame.{Frame}
use Rattle.rules.specs.declared.Pixel.{Pixel}
use Rattle.rules.specs.declared.Named.{Named}
use Rattle.rules.specs.declared.Matrix.{Matrix}
use Rattle.rules.specs.declared.Matrix.TheVariants.{Tabled, Own}
use Rattle.rules.specs.declared.Component.{Component}
use Rattle.rules.specs.declared.Component.TheVariants.{Y, Cb, Cr}
use Rattle.rules.specs.Ranges.{most, y_range, uv_range}
use Rattle.rules.specs.Channels.{Picture}
use Rattle.rules.specs.Matrices.{matrix_of}
use Rattle.rules.specs.Blocks.{chroma_width, chroma_height}
use Rattle.rules.specs.PlaneSamples.{Sample, sample_at, bias_of}
use Rattle.rules.specs.Storage.{well_formed, stored}
use Rattle.rules.specs.Fractions.{Fraction, exact_luma, exact_cb, exact_cr, halves, within}
use Rattle.rules.specs.Search.{Test, first_failing, Search}
use Rattle.rules.specs.Refusals.{place_values, Line, line, first}
use Rattle.rules.specs.Answers.{Answer, given, refused, answer}
use Rattle.rules.specs.Settle.{settle_lines}
use Rattle.rules.specs.Frames.{shown, frame_lines}

-- ---- one sample

-- its exact value, by its component
abbrev pub exact_of : Settings → Named → Component → List Pixel → Fraction
exact_of s k Y = exact_luma k (most s.depth) (bias_of s Y) (y_range s.range s.depth)
exact_of s k Cb = exact_cb k (most s.depth) (bias_of s Cb) (uv_range s.range s.depth)
exact_of s k Cr = exact_cr k (most s.depth) (bias_of s Cr) (uv_range s.range s.depth)

-- a stored word is right for a sample: well formed, and its code within the tolerance of the exact value
abbrev pub right : Settings → Named → Sample → ℕ → Bool
right s k x v =
    well_formed s.packing s.endianness s.depth v
    && within s.precision (most s.depth) (halves x.pixels) (exact_of s k x.component x.pixels) (stored s.packing s.endianness s.depth v)

-- ---- the two planes

-- whether the word at a row and an element of a plane is right, by the plane's number and stride
abbrev pub plane_test : Settings → Named → Frame → Picture → ℕ → ℕ → List ℕ → Test
plane_test s k f px plane stride words row element = right s k (sample_at s f px plane row element) (get_or words (row * stride + element) 0)

abbrev pub luma_test : Settings → Named → Frame → Picture → List ℕ → Test
luma_test s k f px luma = plane_test s k f px 0 f.luma_stride luma

abbrev pub chroma_test : Settings → Named → Frame → Picture → List ℕ → Test
chroma_test s k f px chroma = plane_test s k f px 1 f.chroma_stride chroma

-- ---- what check answers

abbrev pub is_custom : Matrix → Bool
is_custom (Own p) = true
is_custom (Tabled k) = false

-- 6: "check only: the matrix is custom"; 02 asks it on the way back to RGB too
abbrev pub custom_line : Settings → Line
custom_line s = line 6 (is_custom (matrix_of s.matrix))

-- settle's refusals, then 6, then the frame's
abbrev pub check_lines : Settings → Frame → List ℕ → List ℕ → List ℕ → List Line
check_lines s f source luma chroma = settle_lines s ++ (custom_line s ∷ frame_lines s f source (length luma) (length chroma))

-- the first wrong sample of luma, or else of chroma, or that there is none
abbrev pub first_place : Search → Search → Answer
first_place (Some p) c = given (place_values 0 p.row p.element)
first_place None (Some p) = given (place_values 1 p.row p.element)
first_place None None = given []

-- "The check goes through luma row by row, then chroma element by element, and leaves the walk at the first wrong sample"
abbrev pub judged : Settings → Named → Frame → Picture → List ℕ → List ℕ → Answer
judged s k f px luma chroma =
    first_place (first_failing (luma_test s k f px luma) f.width f.height)
    (first_failing (chroma_test s k f px chroma) (chroma_width s.subsampling f.width) (chroma_height s.subsampling f.height))

-- the planes are judged by a row of the table of matrices; a custom matrix has none, and 6 refuses it
abbrev pub judged_by : Matrix → Settings → Frame → Picture → List ℕ → List ℕ → Answer
judged_by (Tabled k) s f px luma chroma = judged s k f px luma chroma
judged_by (Own p) s f px luma chroma = refused 6 []

abbrev pub judgement : Settings → Frame → List ℕ → List ℕ → List ℕ → Answer
judgement s f source luma chroma = judged_by (matrix_of s.matrix) s f (shown s f source) luma chroma

-- THE PROMISE of check
unfoldable pub check : Settings → Frame → List ℕ → List ℕ → List ℕ → Answer
check s f source luma chroma = answer (first (check_lines s f source luma chroma)) (judgement s f source luma chroma)
