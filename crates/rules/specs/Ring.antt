-- Document 02, Two: "up to 64 frames laid end to end, with equal settings, sizes and strides", in one call. Definitions only.
use Rattle.std.specs.Prelude.{ℕ, zero, suc, List, [], ◌∷◌, ◌++◌, length, take, drop}
use Rattle.rules.specs.declared.Settings.{Settings}
use Rattle.rules.specs.declared.Frame.{Frame}
use Rattle.rules.specs.Refusals.{outside, Line, passes, refuses, line, first}
use Rattle.rules.specs.Answers.{RingAnswer}
use Rattle.rules.specs.Settle.{settle_lines}
use Rattle.rules.specs.Frames.{source_size, luma_size, chroma_size, size_line, window_line, stride_line, length_line}
use Rattle.rules.specs.Convert.{verdict, luma_after, chroma_after}

-- ---- what is asked "before any frame is written"

-- 11: "count not 1 to 64"
abbrev pub count_line : ℕ → Line
count_line count = line 11 (outside 1 64 count)

-- 11 comes "after 8", and 9 "then speaks of count × stride × rows"
abbrev pub ring_lines : Settings → Frame → ℕ → ℕ → ℕ → ℕ → List Line
ring_lines s f count source luma chroma =
    size_line f ∷ window_line f ∷ stride_line s f ∷ count_line count ∷ length_line s f count source luma chroma ∷ []

-- ---- the frames

-- the answer, and both planes after it
pub record Outcome : Type 0 where
  pub answer : RingAnswer
  pub luma : List ℕ
  pub chroma : List ℕ

-- no frame is written, and both planes are as they were
abbrev pub untouched : Line → List ℕ → List ℕ → Outcome
untouched l luma chroma = record { answer = record { written = 0; ended = l }; luma = luma; chroma = chroma }

-- a frame is written, which leaves these parts of the planes; then what comes of the frames after it
abbrev pub one_then : List ℕ → List ℕ → Outcome → Outcome
one_then luma chroma rest = record {
  answer = record { written = suc rest.answer.written; ended = rest.answer.ended };
  luma = luma ++ rest.luma;
  chroma = chroma ++ rest.chroma;
}

-- "that frame and all after it are untouched"
abbrev pub unless : Line → List ℕ → List ℕ → Outcome → Outcome
unless passes luma chroma on = on
unless (refuses n v) luma chroma on = untouched (refuses n v) luma chroma

-- "converting them one after the other": the first frame is converted, from and into its parts of the buffers, then those after it
unfoldable pub in_turn : ℕ → Settings → Frame → List ℕ → List ℕ → List ℕ → Outcome
in_turn zero s f source luma chroma = untouched passes luma chroma
in_turn (suc n) s f source luma chroma =
    let x = take (source_size f) source in
    let y = take (luma_size f) luma in
    let z = take (chroma_size s f) chroma in
    unless (verdict s f x y z) luma chroma
    (one_then (luma_after s f x y z) (chroma_after s f x y z) (in_turn n s f (drop (source_size f) source) (drop (luma_size f) luma) (drop (chroma_size s f) chroma)))

-- THE PROMISE of converting a ring: its answer, and both planes after it
unfoldable pub convert_ring : Settings → Frame → ℕ → List ℕ → List ℕ → List ℕ → Outcome
convert_ring s f count source luma chroma =
    unless (first (settle_lines s ++ ring_lines s f count (length source) (length luma) (length chroma))) luma chroma
    (in_turn count s f source luma chroma)
