-- The refusal of an answer of a frame turned back to RGB is at most 18. Assumes nothing.
use Rattle.std.proofs.Common.{Ok, Err}
use Rattle.rules.specs.Refusals.{Verdict}
use Rattle.numbers.specs.Numbers.{Meant}
use Prim.Native.Nat.{ℕ, ◌≤◌}
use mathlib.Core.Path.{subst⁻¹}
use mathlib.Core.List.{List}
use lib.Dec.{lit≤}
use Rattle.rules.specs.declared.Frame.{Frame}
use Rattle.answer_numbers.specs.declared.RestoredNumbers.{RestoredNumbers}
use Rattle.answer_numbers.specs.AnswerNumbers.{restored_numbers}
use Rattle.ayresokum.specs.Calls.{ToRgbCall}
use Rattle.cases.proofs.SmallNumber.{small_number}

small_case_restored : (a : Verdict) → (restored_numbers a).refusal ≤ 18
small_case_restored (Ok u) = lit≤ tt
small_case_restored (Err r) = small_number r

module _ (f : Frame) (luma chroma rgb : List ℕ) where
  pub small_restored : (m : Meant) (r : RestoredNumbers) → ToRgbCall m f luma chroma rgb r → r.refusal ≤ 18
  small_restored (Err u) r e = subst⁻¹ (λ (x : RestoredNumbers). x.refusal ≤ 18) e (lit≤ tt)
  small_restored (Ok s) r t = subst⁻¹ (λ (x : RestoredNumbers). x.refusal ≤ 18) t.told (small_case_restored t.case)
