-- Each promise of an exported function admits one answer. Assumes nothing.
use Rattle.std.proofs.Common.{Ok, Err}
use Rattle.numbers.specs.Numbers.{Meant}
use Prim.Native.Nat.{ℕ}
use mathlib.Core.Path.{◌≡◌, sym, ap, ◌∙◌}
use mathlib.Core.List.{List}
use Rattle.rules.specs.declared.Frame.{Frame}
use Rattle.rules.specs.Answers.{settled_answer, converted_answer, ringed_answer, checked_answer}
use Rattle.rules.specs.Settle.{settle}
use Rattle.rules.specs.Convert.{convert}
use Rattle.rules.specs.Ring.{convert_ring}
use Rattle.rules.specs.Check.{check}
use Rattle.rules.specs.ToRgb.{to_rgb}
use Rattle.rule_laws.proofs.Answers.{one_settled, one_converted, one_ringed, one_checked}
use Rattle.answer_numbers.specs.declared.SettledNumbers.{SettledNumbers}
use Rattle.answer_numbers.specs.declared.ConvertedNumbers.{ConvertedNumbers}
use Rattle.answer_numbers.specs.declared.RingNumbers.{RingNumbers}
use Rattle.answer_numbers.specs.declared.CheckedNumbers.{CheckedNumbers}
use Rattle.answer_numbers.specs.declared.RestoredNumbers.{RestoredNumbers}
use Rattle.answer_numbers.specs.AnswerNumbers.{settled_numbers, converted_numbers, ring_numbers, checked_numbers, restored_numbers}
use Rattle.ayresokum.specs.Calls.{Told, SettleCall, ConvertCall, RingCall, CheckCall, ToRgbCall}

-- ---- THE THEOREMS: any two answers that the promise of an exported function admits are equal

one_told : {A P R : Type 0} (paper : A → P) (numbers : A → R) (answer : P) → ((a b : A) → paper a ≡ paper b → a ≡ b) → (r q : R) →
    Told paper numbers answer r → Told paper numbers answer q → r ≡ q
one_told paper numbers answer one r q a b = a.told ∙ ap numbers (one a.case b.case (a.stands ∙ sym b.stands)) ∙ sym b.told

pub one_settle_call : (m : Meant) (r q : SettledNumbers) → SettleCall m r → SettleCall m q → r ≡ q
one_settle_call (Err u) r q a b = a ∙ sym b
one_settle_call (Ok s) r q a b = one_told settled_answer settled_numbers (settle s) one_settled r q a b

pub one_convert_call : (m : Meant) (f : Frame) (source luma chroma : List ℕ) (r q : ConvertedNumbers) → ConvertCall m f source luma chroma r → ConvertCall m f source luma chroma q → r ≡ q
one_convert_call (Err u) f source luma chroma r q a b = a ∙ sym b
one_convert_call (Ok s) f source luma chroma r q a b = one_told converted_answer converted_numbers (convert s f source luma chroma) one_converted r q a b

pub one_ring_call : (m : Meant) (f : Frame) (count : ℕ) (source luma chroma : List ℕ) (r q : RingNumbers) →
    RingCall m f count source luma chroma r → RingCall m f count source luma chroma q → r ≡ q
one_ring_call (Err u) f count source luma chroma r q a b = a ∙ sym b
one_ring_call (Ok s) f count source luma chroma r q a b = one_told ringed_answer ring_numbers (convert_ring s f count source luma chroma).answer one_ringed r q a b

pub one_check_call : (m : Meant) (f : Frame) (source luma chroma : List ℕ) (r q : CheckedNumbers) →
    CheckCall m f source luma chroma r → CheckCall m f source luma chroma q → r ≡ q
one_check_call (Err u) f source luma chroma r q a b = a ∙ sym b
one_check_call (Ok s) f source luma chroma r q a b = one_told checked_answer checked_numbers (check s f source luma chroma) one_checked r q a b

pub one_to_rgb_call : (m : Meant) (f : Frame) (luma chroma rgb : List ℕ) (r q : RestoredNumbers) → ToRgbCall m f luma chroma rgb r → ToRgbCall m f luma chroma rgb q → r ≡ q
one_to_rgb_call (Err u) f luma chroma rgb r q a b = a ∙ sym b
one_to_rgb_call (Ok s) f luma chroma rgb r q a b = one_told converted_answer restored_numbers (to_rgb s f luma chroma rgb) one_converted r q a b
