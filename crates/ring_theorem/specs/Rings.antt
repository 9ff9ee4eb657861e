-- What is said of a ring's outcomes. Statements only.
use Rattle.std.specs.Prelude.{ℕ, ◌*◌, ◌<◌, ◌≡◌, List, [], drop}
use Rattle.rules.specs.declared.Settings.{Settings}
use Rattle.rules.specs.declared.Frame.{Frame}
use Rattle.rules.specs.declared.Ringed.{Ringed}
use Rattle.rules.specs.Refusals.{Line, passes, refuses}
use Rattle.rules.specs.Answers.{given, RingAnswer, ringed_answer}
use Rattle.rules.specs.Frames.{source_size, luma_size, chroma_size}
use Rattle.rules.specs.Convert.{verdict, convert, luma_after, chroma_after}
use Rattle.rules.specs.Ring.{Outcome, convert_ring}
use Rattle.plane_laws.specs.Parts.{part}

-- an answer and two planes that the contract admits for an input
pub record Admitted (s : Settings) (f : Frame) (count : ℕ) (source luma chroma : List ℕ) (a : Ringed) (l c : List ℕ) : Type 0 where
  pub answer_is : ringed_answer a ≡ (convert_ring s f count source luma chroma).answer
  pub luma_is : l ≡ (convert_ring s f count source luma chroma).luma
  pub chroma_is : c ≡ (convert_ring s f count source luma chroma).chroma

-- ---- one frame: convert's own outcome

abbrev pub written_by : Line → ℕ
written_by passes = 1
written_by (refuses n v) = 0

abbrev pub converted : Settings → Frame → List ℕ → List ℕ → List ℕ → Outcome
converted s f source luma chroma = record {
  answer = record { written = written_by (verdict s f source luma chroma); ended = verdict s f source luma chroma };
  luma = luma_after s f source luma chroma;
  chroma = chroma_after s f source luma chroma;
}

-- ---- the frames of a ring

-- convert takes a frame, and leaves these two planes
pub record ConvertedTo (s : Settings) (f : Frame) (source luma chroma l c : List ℕ) : Type 0 where
  pub done : convert s f source luma chroma ≡ given []
  pub luma_is : l ≡ luma_after s f source luma chroma
  pub chroma_is : c ≡ chroma_after s f source luma chroma

-- of frame i, by its parts of the buffers
abbrev pub Written : Settings → Frame → List ℕ → List ℕ → List ℕ → ℕ → List ℕ → List ℕ → Type 0
Written s f source luma chroma i l c =
    ConvertedTo s f (part (source_size f) i source) (part (luma_size f) i luma) (part (chroma_size s f) i chroma) (part (luma_size f) i l) (part (chroma_size s f) i c)

-- the frames before `written` hold what convert of their parts leaves; from that frame on both planes are as they were; where no refusal
-- ended it, all are written
pub record Accounted (s : Settings) (f : Frame) (count : ℕ) (source luma chroma : List ℕ) (o : Outcome) : Type 0 where
  pub frames : (i : ℕ) → i < o.answer.written → Written s f source luma chroma i o.luma o.chroma
  pub luma_kept : drop (o.answer.written * luma_size f) o.luma ≡ drop (o.answer.written * luma_size f) luma
  pub chroma_kept : drop (o.answer.written * chroma_size s f) o.chroma ≡ drop (o.answer.written * chroma_size s f) chroma
  pub finished : o.answer.ended ≡ passes → o.answer.written ≡ count

-- what ended it where fewer are written: convert's verdict on the frame after them
abbrev pub StoppedBy : Settings → Frame → ℕ → List ℕ → List ℕ → List ℕ → RingAnswer → Type 0
StoppedBy s f count source luma chroma a =
    a.written < count
    → a.ended ≡ verdict s f (part (source_size f) a.written source) (part (luma_size f) a.written luma) (part (chroma_size s f) a.written chroma)
