-- The refusal of an answer of check is at most 18, and `wrong` at most 1. Assumes nothing.
use Rattle.std.proofs.Common.{Ok, None, Some, Err}
use Rattle.rules.specs.Answers.{Checked}
use Rattle.numbers.specs.Numbers.{Meant}
use Prim.Native.Nat.{ℕ, ◌≤◌}
use mathlib.Core.Path.{subst⁻¹}
use mathlib.Core.List.{List}
use lib.Dec.{lit≤}
use Rattle.rules.specs.declared.Frame.{Frame}
use Rattle.answer_numbers.specs.declared.CheckedNumbers.{CheckedNumbers}
use Rattle.answer_numbers.specs.AnswerNumbers.{checked_numbers}
use Rattle.ayresokum.specs.Calls.{CheckCall}
use Rattle.cases.proofs.SmallNumber.{small_number}

abbrev Small : CheckedNumbers → Type 0
Small r = (r.refusal ≤ 18) × (r.wrong ≤ 1)

small_case_checked : (a : Checked) → Small (checked_numbers a)
small_case_checked (Ok None) = (lit≤ tt, lit≤ tt)
small_case_checked (Ok (Some p)) = (lit≤ tt, lit≤ tt)
small_case_checked (Err r) = (small_number r, lit≤ tt)

module _ (f : Frame) (source luma chroma : List ℕ) where
  pub small_checked : (m : Meant) (r : CheckedNumbers) → CheckCall m f source luma chroma r → Small r
  small_checked (Err u) r e = subst⁻¹ Small e (lit≤ tt, lit≤ tt)
  small_checked (Ok s) r t = subst⁻¹ Small t.told (small_case_checked t.case)
