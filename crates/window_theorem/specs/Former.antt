-- Document 01 as it stood before request Four of document 02: a frame has no window, and its source has the frame's rows. Definitions only.
use Rattle.std.specs.Prelude.{ℕ, zero, suc, ◌*◌, Bool, not, ◌||◌, List, [], ◌∷◌, ◌++◌, eqb, length, take, drop}
use Rattle.rules.specs.declared.Settings.{Settings}
use Rattle.rules.specs.declared.Frame.{Frame}
use Rattle.rules.specs.Ranges.{most}
use Rattle.rules.specs.Channels.{Picture, count, picture}
use Rattle.rules.specs.Matrices.{matrix_of}
use Rattle.rules.specs.Weights.{weights_of}
use Rattle.rules.specs.Blocks.{chroma_width}
use Rattle.rules.specs.Refusals.{outside, Line, passes, line, first}
use Rattle.rules.specs.Answers.{Answer, given, answer}
use Rattle.rules.specs.Settle.{settle_lines}
use Rattle.rules.specs.Frames.{luma_size, chroma_size, too_large, size_line, place_line}
use Rattle.rules.specs.Convert.{kept, luma_written, chroma_written}
use Rattle.rules.specs.Ring.{count_line, Outcome, untouched, one_then, unless}
use Rattle.rules.specs.Check.{custom_line, judged_by}

-- 8: "a stride is shorter than its visible row or over 65,536"
abbrev pub stride_off : Settings → Frame → Bool
stride_off s f =
    outside (f.width * count s.channels) 65536 f.source_stride
    || (outside f.width 65536 f.luma_stride || outside (chroma_width s.subsampling f.width) 65536 f.chroma_stride)

-- "stride × rows"
abbrev pub source_size : Frame → ℕ
source_size f = f.height * f.source_stride

-- 9: "a buffer's length is not exactly stride × rows"
abbrev pub length_off : Settings → Frame → ℕ → ℕ → ℕ → ℕ → Bool
length_off s f count source luma chroma =
    not (eqb source (count * source_size f)) || (not (eqb luma (count * luma_size f)) || not (eqb chroma (count * chroma_size s f)))

-- "the part that starts at row × source stride"
abbrev pub shown : Settings → Frame → List ℕ → Picture
shown s f source = picture s.channels f.source_stride source

abbrev pub frame_lines : Settings → Frame → List ℕ → ℕ → ℕ → List Line
frame_lines s f source luma chroma =
    size_line f ∷ line 8 (stride_off s f) ∷ line 9 (length_off s f 1 (length source) luma chroma)
    ∷ place_line (too_large (most s.depth) f (shown s f source)) ∷ []

-- ---- convert

abbrev pub verdict : Settings → Frame → List ℕ → List ℕ → List ℕ → Line
verdict s f source luma chroma = first (settle_lines s ++ frame_lines s f source (length luma) (length chroma))

abbrev pub convert : Settings → Frame → List ℕ → List ℕ → List ℕ → Answer
convert s f source luma chroma = answer (verdict s f source luma chroma) (given [])

abbrev pub luma_after : Settings → Frame → List ℕ → List ℕ → List ℕ → List ℕ
luma_after s f source luma chroma = kept (verdict s f source luma chroma) (luma_written s (weights_of s) f (shown s f source) luma) luma

abbrev pub chroma_after : Settings → Frame → List ℕ → List ℕ → List ℕ → List ℕ
chroma_after s f source luma chroma = kept (verdict s f source luma chroma) (chroma_written s (weights_of s) f (shown s f source) chroma) chroma

-- ---- check

abbrev pub check : Settings → Frame → List ℕ → List ℕ → List ℕ → Answer
check s f source luma chroma =
    answer (first (settle_lines s ++ (custom_line s ∷ frame_lines s f source (length luma) (length chroma))))
    (judged_by (matrix_of s.matrix) s f (shown s f source) luma chroma)

-- ---- a ring

abbrev pub ring_lines : Settings → Frame → ℕ → ℕ → ℕ → ℕ → List Line
ring_lines s f count source luma chroma =
    size_line f ∷ line 8 (stride_off s f) ∷ count_line count ∷ line 9 (length_off s f count source luma chroma) ∷ []

unfoldable pub in_turn : ℕ → Settings → Frame → List ℕ → List ℕ → List ℕ → Outcome
in_turn zero s f source luma chroma = untouched passes luma chroma
in_turn (suc n) s f source luma chroma =
    let x = take (source_size f) source in
    let y = take (luma_size f) luma in
    let z = take (chroma_size s f) chroma in
    unless (verdict s f x y z) luma chroma
    (one_then (luma_after s f x y z) (chroma_after s f x y z) (in_turn n s f (drop (source_size f) source) (drop (luma_size f) luma) (drop (chroma_size s f) chroma)))

abbrev pub convert_ring : Settings → Frame → ℕ → List ℕ → List ℕ → List ℕ → Outcome
convert_ring s f count source luma chroma =
    unless (first (settle_lines s ++ ring_lines s f count (length source) (length luma) (length chroma))) luma chroma
    (in_turn count s f source luma chroma)
