-- The answers of the services as numbers. Definitions only.
use Rattle.rules.specs.Answers.{Settled, Checked}
use Rattle.std.specs.Prelude.{ℕ, pos, Ok, Err, None, Some}
use Rattle.rules.specs.declared.Place.{Place}
use Rattle.rules.specs.declared.Refusal.{Refusal}
use Rattle.rules.specs.declared.Refusal.TheVariants.{Depth, Precision, CustomPair, WeightOff, CodeOutside, CustomUnchecked, Size, Stride, Length, TooLarge, Count, Window, Malformed}
use Rattle.rules.specs.declared.SourcePlace.{SourcePlace}
use Rattle.rules.specs.declared.Weights.{Weights}
use Rattle.rules.specs.declared.Ringed.{Ringed}
use Rattle.rules.specs.Refusals.{number_of, Verdict}
use Rattle.answer_numbers.specs.declared.SettledNumbers.{SettledNumbers}
use Rattle.answer_numbers.specs.declared.ConvertedNumbers.{ConvertedNumbers}
use Rattle.answer_numbers.specs.declared.RingNumbers.{RingNumbers}
use Rattle.answer_numbers.specs.declared.CheckedNumbers.{CheckedNumbers}
use Rattle.answer_numbers.specs.declared.RestoredNumbers.{RestoredNumbers}

-- the number of the refusal where a number names no case of its enumeration
abbrev pub unnamed : ℕ
unnamed = 18

-- on a refusal the nine weights are 0
abbrev pub no_weights : Weights
no_weights = record {
  yr = pos 0;
  yg = pos 0;
  yb = pos 0;
  cb_r = pos 0;
  cb_g = pos 0;
  cb_b = pos 0;
  cr_r = pos 0;
  cr_g = pos 0;
  cr_b = pos 0;
}

abbrev pub weightless : ℕ → SettledNumbers
weightless n = record { refusal = n; weights = no_weights }

abbrev pub settled_numbers : Settled → SettledNumbers
settled_numbers (Ok w) = record { refusal = 0; weights = w }
settled_numbers (Err r) = weightless (number_of r)

-- ---- the places that answers carry; what does not apply is 0

abbrev pub no_sample : SourcePlace
no_sample = record { row = 0; pixel = 0; channel = 0 }

abbrev pub no_place : Place
no_place = record { plane = 0; row = 0; element = 0 }

-- the sample that a refusal carries
abbrev pub sample_of : Refusal → SourcePlace
sample_of Depth = no_sample
sample_of Precision = no_sample
sample_of CustomPair = no_sample
sample_of WeightOff = no_sample
sample_of CodeOutside = no_sample
sample_of CustomUnchecked = no_sample
sample_of Size = no_sample
sample_of Stride = no_sample
sample_of Length = no_sample
sample_of (TooLarge p) = p
sample_of Count = no_sample
sample_of Window = no_sample
sample_of (Malformed p) = no_sample

-- the place in a plane that a refusal carries
abbrev pub place_of : Refusal → Place
place_of Depth = no_place
place_of Precision = no_place
place_of CustomPair = no_place
place_of WeightOff = no_place
place_of CodeOutside = no_place
place_of CustomUnchecked = no_place
place_of Size = no_place
place_of Stride = no_place
place_of Length = no_place
place_of (TooLarge p) = no_place
place_of Count = no_place
place_of Window = no_place
place_of (Malformed p) = p

-- ---- convert, a ring of frames, check, and a frame back to RGB

abbrev pub refused_for : ℕ → SourcePlace → ConvertedNumbers
refused_for refusal sample = record { refusal = refusal; sample = sample }

abbrev pub converted_numbers : Verdict → ConvertedNumbers
converted_numbers (Ok u) = refused_for 0 no_sample
converted_numbers (Err r) = refused_for (number_of r) (sample_of r)

abbrev pub ring_told : ℕ → ℕ → SourcePlace → RingNumbers
ring_told written refusal sample = record { written = written; refusal = refusal; sample = sample }

abbrev pub ring_ended : ℕ → Verdict → RingNumbers
ring_ended written (Ok u) = ring_told written 0 no_sample
ring_ended written (Err r) = ring_told written (number_of r) (sample_of r)

abbrev pub ring_numbers : Ringed → RingNumbers
ring_numbers r = ring_ended r.written r.ended

abbrev pub told : ℕ → ℕ → Place → SourcePlace → CheckedNumbers
told refusal wrong place sample = record { refusal = refusal; wrong = wrong; place = place; sample = sample }

abbrev pub checked_numbers : Checked → CheckedNumbers
checked_numbers (Ok None) = told 0 0 no_place no_sample
checked_numbers (Ok (Some p)) = told 0 1 p no_sample
checked_numbers (Err r) = told (number_of r) 0 no_place (sample_of r)

abbrev pub restored_for : ℕ → Place → RestoredNumbers
restored_for refusal place = record { refusal = refusal; place = place }

abbrev pub restored_numbers : Verdict → RestoredNumbers
restored_numbers (Ok u) = restored_for 0 no_place
restored_numbers (Err r) = restored_for (number_of r) (place_of r)
