-- A sum by joined weights, and the two words in it. Definitions and statements only.
use Rattle.std.specs.Prelude.{ℕ, ◌+◌, ◌-◌, ◌*◌, ◌/◌, ◌%◌, ◌≤◌, ℤ, pos, nat_abs, ◌+ℤ◌, ◌*ℤ◌}
use Rattle.std.specs.Int.Bits.{bit_and}
use Rattle.joined_weights.specs.declared.JoinedWeights.{JoinedWeights}

-- two samples in one number: a + b × 2^32
abbrev pub joined_samples : ℕ → ℕ → ℕ
joined_samples a b = a + b * 4294967296

-- the start and three products
unfoldable pub joined_sum : JoinedWeights → ℕ → ℕ → ℕ → ℤ
joined_sum j a b c = j.start +ℤ j.first *ℤ pos a +ℤ j.second *ℤ pos b +ℤ j.third *ℤ pos c

-- a sum without the bits below its words
abbrev pub cleared : ℕ → ℕ → ℕ
cleared v below = v - bit_and v below

-- the word in the lower 32 bits, and that in the upper
abbrev pub first_word : ℕ → ℕ
first_word kept = kept % 4294967296 / 8192

abbrev pub second_word : ℕ → ℕ
second_word kept = kept / 4294967296 / 8192

-- the start is below 2^61 and no product is above 2^13 × 65,535 × (2^32 + 1), so that no step on the way to the sum leaves 64 bits
pub record SumFits (j : JoinedWeights) (a b c : ℕ) : Type 0 where
  pub start : nat_abs j.start ≤ 2305843009213693951
  pub first : nat_abs j.first * a ≤ 2305807825378467840
  pub second : nat_abs j.second * b ≤ 2305807825378467840
  pub third : nat_abs j.third * c ≤ 2305807825378467840
