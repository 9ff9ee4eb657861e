-- What check answers from a stage of its table on. Definitions only.
use Rattle.std.specs.Prelude.{ℕ, List, ◌∷◌, length}
use Rattle.rules.specs.declared.Settings.{Settings}
use Rattle.rules.specs.declared.Frame.{Frame}
use Rattle.rules.specs.Refusals.{first}
use Rattle.rules.specs.Answers.{Answer, answer}
use Rattle.rules.specs.Frames.{frame_lines, frame_line}
use Rattle.rules.specs.Check.{custom_line, judgement}

-- where settle accepts: refusal 6, then the frame's, then the judgement
abbrev pub from_matrix : Settings → Frame → List ℕ → List ℕ → List ℕ → Answer
from_matrix s f source luma chroma =
    answer (first (custom_line s ∷ frame_lines s f source (length luma) (length chroma))) (judgement s f source luma chroma)

-- where the matrix is named too: the frame's refusals, then the judgement
abbrev pub from_frame : Settings → Frame → List ℕ → List ℕ → List ℕ → Answer
from_frame s f source luma chroma = answer (frame_line s f source luma chroma) (judgement s f source luma chroma)
