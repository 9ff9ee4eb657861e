-- Document 01: what convert answers and what the planes then hold, for any input. Definitions only.
use Rattle.std.specs.Prelude.{ℕ, List, [], ◌++◌, length}
use Rattle.rules.specs.declared.Settings.{Settings}
use Rattle.rules.specs.declared.Frame.{Frame}
use Rattle.rules.specs.declared.Weights.{Weights}
use Rattle.rules.specs.declared.Triple.{Triple}
use Rattle.rules.specs.declared.Pixel.{Pixel}
use Rattle.rules.specs.Channels.{Picture}
use Rattle.rules.specs.Weights.{weights_of}
use Rattle.rules.specs.Sample.{code}
use Rattle.rules.specs.Blocks.{averaged, chroma_width, chroma_height}
use Rattle.rules.specs.PlaneSamples.{Sample, luma_sample, chroma_sample, bias_of, row_of}
use Rattle.rules.specs.Storage.{word}
use Rattle.rules.specs.Planes.{written}
use Rattle.rules.specs.Refusals.{Line, passes, refuses, first}
use Rattle.rules.specs.Answers.{Answer, given, answer}
use Rattle.rules.specs.Settle.{settle_lines}
use Rattle.rules.specs.Frames.{shown, frame_lines}

-- ---- the words of a picture

-- the stored word of a pixel's code
unfoldable pub word_of : Settings → ℕ → Triple → Pixel → ℕ
word_of s bias w p = word s.packing s.endianness s.depth (code s.precision bias w p)

-- the word of a sample: by its component's bias and weights, of the mean of its pixels
unfoldable pub sample_word : Settings → Weights → Sample → ℕ
sample_word s w x = word_of s (bias_of s x.component) (row_of w x.component) (averaged x.pixels)

abbrev pub luma_word : Settings → Weights → Picture → ℕ → ℕ → ℕ
luma_word s w px row column = sample_word s w (luma_sample px row column)

abbrev pub chroma_word : Settings → Weights → ℕ → ℕ → Picture → ℕ → ℕ → ℕ
chroma_word s w width height px row element = sample_word s w (chroma_sample s width height px row element)

-- ---- the answer and the planes

-- settle's refusals, then the frame's: the first that applies
abbrev pub verdict : Settings → Frame → List ℕ → List ℕ → List ℕ → Line
verdict s f source luma chroma = first (settle_lines s ++ frame_lines s f source (length luma) (length chroma))

-- a refusal leaves a plane untouched
abbrev pub kept : Line → List ℕ → List ℕ → List ℕ
kept passes new old = new
kept (refuses n v) new old = old

-- the planes that a picture is written into, by given weights
abbrev pub luma_written : Settings → Weights → Frame → Picture → List ℕ → List ℕ
luma_written s w f px luma = written f.luma_stride f.width f.height (luma_word s w px) luma

abbrev pub chroma_written : Settings → Weights → Frame → Picture → List ℕ → List ℕ
chroma_written s w f px chroma =
    written f.chroma_stride (chroma_width s.subsampling f.width) (chroma_height s.subsampling f.height)
    (chroma_word s w f.width f.height px) chroma

-- what is left in them, by what the table comes to
abbrev pub luma_left : Line → Settings → Weights → Frame → List ℕ → List ℕ → List ℕ
luma_left l s w f source luma = kept l (luma_written s w f (shown s f source) luma) luma

abbrev pub chroma_left : Line → Settings → Weights → Frame → List ℕ → List ℕ → List ℕ
chroma_left l s w f source chroma = kept l (chroma_written s w f (shown s f source) chroma) chroma

-- THE PROMISE of convert: its answer, and both planes after it
unfoldable pub convert : Settings → Frame → List ℕ → List ℕ → List ℕ → Answer
convert s f source luma chroma = answer (verdict s f source luma chroma) (given [])

unfoldable pub luma_after : Settings → Frame → List ℕ → List ℕ → List ℕ → List ℕ
luma_after s f source luma chroma = luma_left (verdict s f source luma chroma) s (weights_of s) f source luma

unfoldable pub chroma_after : Settings → Frame → List ℕ → List ℕ → List ℕ → List ℕ
chroma_after s f source luma chroma = chroma_left (verdict s f source luma chroma) s (weights_of s) f source chroma
