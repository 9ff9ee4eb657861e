-- Document 01, "The refusal numbers, in order": a refusal's number and values, and how a table of tests comes to an answer. Definitions only.
use Rattle.std.specs.Prelude.{ℕ, Bool, true, false, not, ◌&&◌, List, [], ◌∷◌, leb, ℤ, pos, Result, Ok, Err}
use Rattle.rules.specs.declared.Refusal.{Refusal}
use Rattle.rules.specs.declared.Refusal.TheVariants.{Depth, Precision, CustomPair, WeightOff, CodeOutside, CustomUnchecked, Size, Stride, Length, TooLarge, Count, Window, Malformed}

-- ---- a refusal in the paper's terms

abbrev pub number_of : Refusal → ℕ
number_of Depth = 1
number_of Precision = 2
number_of CustomPair = 3
number_of WeightOff = 4
number_of CodeOutside = 5
number_of CustomUnchecked = 6
number_of Size = 7
number_of Stride = 8
number_of Length = 9
number_of (TooLarge p) = 10
number_of Count = 11
number_of Window = 12
number_of (Malformed p) = 13

-- 02: "row, pixel and channel (red before green before blue)"
abbrev pub source_values : ℕ → ℕ → ℕ → List ℤ
source_values row pixel channel = pos row ∷ pos pixel ∷ pos channel ∷ []

-- "naming plane, row and element in the row"
abbrev pub place_values : ℕ → ℕ → ℕ → List ℤ
place_values plane row element = pos plane ∷ pos row ∷ pos element ∷ []

-- "A refusal returns its number only", but for 10 and 13, which are to carry the place of the sample
abbrev pub values_of : Refusal → List ℤ
values_of Depth = []
values_of Precision = []
values_of CustomPair = []
values_of WeightOff = []
values_of CodeOutside = []
values_of CustomUnchecked = []
values_of Size = []
values_of Stride = []
values_of Length = []
values_of (TooLarge p) = source_values p.row p.pixel p.channel
values_of Count = []
values_of Window = []
values_of (Malformed p) = place_values p.plane p.row p.element

-- ---- a table of tests

-- a line of a table: its test passes, or refuses with a number and the values that come with it
pub data Line : Type 0 where
  passes : Line
  refuses : ℕ → List ℤ → Line

-- the line of a test that refuses by its number alone, where it applies
abbrev pub line : ℕ → Bool → Line
line n true = refuses n []
line n false = passes

-- "given exactly when no earlier one applies and" its own test does
abbrev pub earlier : Line → Line → Line
earlier passes l = l
earlier (refuses n v) l = refuses n v

unfoldable pub first : List Line → Line
first [] = passes
first (l ∷ ls) = earlier l (first ls)

-- what the tests of an input come to: none refuses, or this refusal is given
abbrev pub Verdict : Type 0
Verdict = Result (Unit {0}) Refusal

-- the line that a verdict of the code stands for
abbrev pub line_of : Verdict → Line
line_of (Ok u) = passes
line_of (Err r) = refuses (number_of r) (values_of r)

-- n is not low to high
abbrev pub outside : ℕ → ℕ → ℕ → Bool
outside low high n = not (leb low n && leb n high)
