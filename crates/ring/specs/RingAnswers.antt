-- A line that refuses, and the record of a ring's answer. Definitions only.
use Rattle.std.specs.Prelude.{ℕ, Bool, true, false}
use Rattle.rules.specs.declared.Ringed.{Ringed}
use Rattle.rules.specs.Refusals.{Line, passes, refuses, Verdict}

abbrev pub refusing : Line → Bool
refusing passes = false
refusing (refuses n v) = true

abbrev pub ringed : ℕ → Verdict → Ringed
ringed written ended = record { written = written; ended = ended }
