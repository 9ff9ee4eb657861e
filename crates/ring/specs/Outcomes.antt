-- What a call that comes to an outcome leaves. Statements only.
use Rattle.std.specs.Prelude.{ℕ, ◌≡◌, List}
use Rattle.rules.specs.declared.Ringed.{Ringed}
use Rattle.rules.specs.Answers.{ringed_answer}
use Rattle.rules.specs.Ring.{Outcome}

-- an answer and two planes are an outcome's
pub record ComesTo (o : Outcome) (r : Ringed) (l c : List ℕ) : Type 0 where
  pub answer_is : ringed_answer r ≡ o.answer
  pub luma_is : l ≡ o.luma
  pub chroma_is : c ≡ o.chroma
