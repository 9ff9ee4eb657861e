-- The refusal of an answer of settle, of convert and of a ring is at most 18. Assumes nothing.
use Rattle.std.proofs.Common.{Ok, Err}
use Rattle.numbers.specs.Numbers.{Meant}
use Rattle.rules.specs.Answers.{Settled}
use Rattle.rules.specs.Refusals.{Verdict}
use Prim.Native.Nat.{ℕ, ◌≤◌}
use mathlib.Core.Path.{subst⁻¹}
use mathlib.Core.List.{List}
use lib.Dec.{lit≤}
use Rattle.rules.specs.declared.Frame.{Frame}
use Rattle.answer_numbers.specs.declared.SettledNumbers.{SettledNumbers}
use Rattle.answer_numbers.specs.declared.ConvertedNumbers.{ConvertedNumbers}
use Rattle.answer_numbers.specs.declared.RingNumbers.{RingNumbers}
use Rattle.answer_numbers.specs.AnswerNumbers.{settled_numbers, converted_numbers, ring_ended}
use Rattle.ayresokum.specs.Calls.{SettleCall, ConvertCall, RingCall}
use Rattle.cases.proofs.SmallNumber.{small_number}

-- ---- settle

small_case_settled : (a : Settled) → (settled_numbers a).refusal ≤ 18
small_case_settled (Ok w) = lit≤ tt
small_case_settled (Err r) = small_number r

pub small_settled : (m : Meant) (r : SettledNumbers) → SettleCall m r → r.refusal ≤ 18
small_settled (Err u) r e = subst⁻¹ (λ (x : SettledNumbers). x.refusal ≤ 18) e (lit≤ tt)
small_settled (Ok s) r t = subst⁻¹ (λ (x : SettledNumbers). x.refusal ≤ 18) t.told (small_case_settled t.case)

-- ---- convert

small_case_converted : (a : Verdict) → (converted_numbers a).refusal ≤ 18
small_case_converted (Ok u) = lit≤ tt
small_case_converted (Err r) = small_number r

module _ (f : Frame) (source luma chroma : List ℕ) where
  pub small_converted : (m : Meant) (r : ConvertedNumbers) → ConvertCall m f source luma chroma r → r.refusal ≤ 18
  small_converted (Err u) r e = subst⁻¹ (λ (x : ConvertedNumbers). x.refusal ≤ 18) e (lit≤ tt)
  small_converted (Ok s) r t = subst⁻¹ (λ (x : ConvertedNumbers). x.refusal ≤ 18) t.told (small_case_converted t.case)

-- ---- a ring of frames

small_case_ringed : (written : ℕ) (ended : Verdict) → (ring_ended written ended).refusal ≤ 18
small_case_ringed written (Ok u) = lit≤ tt
small_case_ringed written (Err r) = small_number r

module _ (f : Frame) (count : ℕ) (source luma chroma : List ℕ) where
  pub small_ringed : (m : Meant) (r : RingNumbers) → RingCall m f count source luma chroma r → r.refusal ≤ 18
  small_ringed (Err u) r e = subst⁻¹ (λ (x : RingNumbers). x.refusal ≤ 18) e (lit≤ tt)
  small_ringed (Ok s) r t = subst⁻¹ (λ (x : RingNumbers). x.refusal ≤ 18) t.told (small_case_ringed t.case.written t.case.ended)
