-- What the exported functions answer: the services' answers as numbers. Definitions only.
use Rattle.numbers.specs.Numbers.{Meant}
use Rattle.std.specs.Prelude.{ℕ, ◌≡◌, List, Ok, Err}
use Rattle.rules.specs.declared.Frame.{Frame}
use Rattle.rules.specs.Answers.{settled_answer, converted_answer, ringed_answer, checked_answer}
use Rattle.rules.specs.Settle.{settle}
use Rattle.rules.specs.Convert.{convert, luma_after, chroma_after}
use Rattle.rules.specs.Ring.{convert_ring}
use Rattle.rules.specs.Check.{check}
use Rattle.rules.specs.ToRgb.{to_rgb, rgb_after}
use Rattle.answer_numbers.specs.declared.SettledNumbers.{SettledNumbers}
use Rattle.answer_numbers.specs.declared.ConvertedNumbers.{ConvertedNumbers}
use Rattle.answer_numbers.specs.declared.RingNumbers.{RingNumbers}
use Rattle.answer_numbers.specs.declared.CheckedNumbers.{CheckedNumbers}
use Rattle.answer_numbers.specs.declared.RestoredNumbers.{RestoredNumbers}
use Rattle.answer_numbers.specs.AnswerNumbers.{unnamed, weightless, settled_numbers, no_sample, refused_for, converted_numbers, ring_told, ring_numbers, no_place, told, checked_numbers, restored_for, restored_numbers}

-- the number of the interface; it changes whenever a function's arguments or the layout of a record do
abbrev pub version : ℕ
version = 2

-- the case of an enumeration that stands for a service's answer, as numbers; one case does
pub record Told {A P R : Type 0} (paper : A → P) (numbers : A → R) (answer : P) (r : R) : Type 0 where
  pub case : A
  pub stands : paper case ≡ answer
  pub told : r ≡ numbers case

-- ---- settle

abbrev pub SettleCall : Meant → SettledNumbers → Type 0
SettleCall (Err u) r = r ≡ weightless unnamed
SettleCall (Ok s) r = Told settled_answer settled_numbers (settle s) r

-- ---- convert

abbrev pub ConvertCall : Meant → Frame → List ℕ → List ℕ → List ℕ → ConvertedNumbers → Type 0
ConvertCall (Err u) f source luma chroma r = r ≡ refused_for unnamed no_sample
ConvertCall (Ok s) f source luma chroma r = Told converted_answer converted_numbers (convert s f source luma chroma) r

abbrev pub luma_call : Meant → Frame → List ℕ → List ℕ → List ℕ → List ℕ
luma_call (Err u) f source luma chroma = luma
luma_call (Ok s) f source luma chroma = luma_after s f source luma chroma

abbrev pub chroma_call : Meant → Frame → List ℕ → List ℕ → List ℕ → List ℕ
chroma_call (Err u) f source luma chroma = chroma
chroma_call (Ok s) f source luma chroma = chroma_after s f source luma chroma

-- ---- a ring of frames

abbrev pub RingCall : Meant → Frame → ℕ → List ℕ → List ℕ → List ℕ → RingNumbers → Type 0
RingCall (Err u) f count source luma chroma r = r ≡ ring_told 0 unnamed no_sample
RingCall (Ok s) f count source luma chroma r = Told ringed_answer ring_numbers (convert_ring s f count source luma chroma).answer r

abbrev pub luma_ring_call : Meant → Frame → ℕ → List ℕ → List ℕ → List ℕ → List ℕ
luma_ring_call (Err u) f count source luma chroma = luma
luma_ring_call (Ok s) f count source luma chroma = (convert_ring s f count source luma chroma).luma

abbrev pub chroma_ring_call : Meant → Frame → ℕ → List ℕ → List ℕ → List ℕ → List ℕ
chroma_ring_call (Err u) f count source luma chroma = chroma
chroma_ring_call (Ok s) f count source luma chroma = (convert_ring s f count source luma chroma).chroma

-- ---- check

abbrev pub CheckCall : Meant → Frame → List ℕ → List ℕ → List ℕ → CheckedNumbers → Type 0
CheckCall (Err u) f source luma chroma r = r ≡ told unnamed 0 no_place no_sample
CheckCall (Ok s) f source luma chroma r = Told checked_answer checked_numbers (check s f source luma chroma) r

-- ---- a frame back to RGB

abbrev pub ToRgbCall : Meant → Frame → List ℕ → List ℕ → List ℕ → RestoredNumbers → Type 0
ToRgbCall (Err u) f luma chroma rgb r = r ≡ restored_for unnamed no_place
ToRgbCall (Ok s) f luma chroma rgb r = Told converted_answer restored_numbers (to_rgb s f luma chroma rgb) r

abbrev pub rgb_call : Meant → Frame → List ℕ → List ℕ → List ℕ → List ℕ
rgb_call (Err u) f luma chroma rgb = rgb
rgb_call (Ok s) f luma chroma rgb = rgb_after s f luma chroma rgb
