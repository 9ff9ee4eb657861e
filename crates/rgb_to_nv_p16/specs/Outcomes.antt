-- What is said of convert's outcomes. Statements only.
use Rattle.rules.specs.Refusals.{Verdict}
use Rattle.std.specs.Prelude.{ℕ, ◌≡◌, List}
use Rattle.rules.specs.declared.Settings.{Settings}
use Rattle.rules.specs.declared.Frame.{Frame}
use Rattle.rules.specs.Answers.{converted_answer}
use Rattle.rules.specs.Convert.{convert, luma_after, chroma_after}

-- an answer and two planes that convert's contract admits for an input
pub record Admitted (s : Settings) (f : Frame) (source luma chroma : List ℕ) (a : Verdict) (l c : List ℕ) : Type 0 where
  pub answer_is : converted_answer a ≡ convert s f source luma chroma
  pub luma_is : l ≡ luma_after s f source luma chroma
  pub chroma_is : c ≡ chroma_after s f source luma chroma
