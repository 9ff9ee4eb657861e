-- Document 01: "a definition gives this paper's number and values for each case of the enum, and the promises use that definition". Definitions only.
use Rattle.std.specs.Prelude.{ℕ, List, [], ◌∷◌, ℤ, Option, None, Some, Result, Ok, Err}
use Rattle.rules.specs.declared.Refusal.{Refusal}
use Rattle.rules.specs.declared.Weights.{Weights}
use Rattle.rules.specs.declared.Place.{Place}
use Rattle.rules.specs.declared.Ringed.{Ringed}
use Rattle.rules.specs.Refusals.{number_of, place_values, values_of, Line, passes, refuses, line_of, Verdict}

-- an answer in the paper's terms: the values that a service gives, or a refusal's number and the values that come with it
pub data Answer : Type 0 where
  given : List ℤ → Answer
  refused : ℕ → List ℤ → Answer

-- the first refusal of a service's table, or what the service gives
abbrev pub answer : Line → Answer → Answer
answer passes a = a
answer (refuses n v) a = refused n v

-- ---- the answer that each answer of the code stands for

abbrev pub refusal : Refusal → Answer
refusal r = refused (number_of r) (values_of r)

-- "Settle's success returns the nine integer weights"
abbrev pub weight_values : Weights → List ℤ
weight_values w =
    w.yr ∷ w.yg ∷ w.yb ∷ w.cb_r ∷ w.cb_g ∷ w.cb_b ∷ w.cr_r ∷ w.cr_g ∷ w.cr_b ∷ []

abbrev pub Settled : Type 0
Settled = Result Weights Refusal

abbrev pub settled_answer : Settled → Answer
settled_answer (Ok w) = given (weight_values w)
settled_answer (Err r) = refusal r

-- "convert's says done and nothing more"; so does that of turning a frame back to RGB
abbrev pub converted_answer : Verdict → Answer
converted_answer (Ok u) = given []
converted_answer (Err r) = refusal r

-- 02: "the answer says how many were written and the refusal that ended it", if one did
pub record RingAnswer : Type 0 where
  pub written : ℕ
  pub ended : Line

abbrev pub ringed_answer : Ringed → RingAnswer
ringed_answer r = record { written = r.written; ended = line_of r.ended }

-- the first wrong sample, or none, or a refusal
abbrev pub Checked : Type 0
Checked = Result (Option Place) Refusal

abbrev pub checked_answer : Checked → Answer
checked_answer (Ok None) = given []
checked_answer (Ok (Some p)) = given (place_values p.plane p.row p.element)
checked_answer (Err r) = refusal r
