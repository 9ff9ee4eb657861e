-- The number of a refusal is at most 18. Assumes nothing.
use Prim.Native.Nat.{◌≤◌}
use lib.Dec.{lit≤}
use Rattle.rules.specs.declared.Refusal.{Refusal}
use Rattle.rules.specs.declared.Refusal.TheVariants.{Depth, Precision, CustomPair, WeightOff, CodeOutside, CustomUnchecked, Size, Stride, Length, TooLarge, Count, Window, Malformed}
use Rattle.rules.specs.Refusals.{number_of}

pub small_number : (r : Refusal) → number_of r ≤ 18
small_number Depth = lit≤ tt
small_number Precision = lit≤ tt
small_number CustomPair = lit≤ tt
small_number WeightOff = lit≤ tt
small_number CodeOutside = lit≤ tt
small_number CustomUnchecked = lit≤ tt
small_number Size = lit≤ tt
small_number Stride = lit≤ tt
small_number Length = lit≤ tt
small_number (TooLarge p) = lit≤ tt
small_number Count = lit≤ tt
small_number Window = lit≤ tt
small_number (Malformed p) = lit≤ tt
