-- Four rows of a picture of which no sample exceeds a bound. Statements only.
use Rattle.std.specs.Prelude.{ℕ, ◌+◌, ◌≤◌, ◌<◌}
use Rattle.rules.specs.Channels.{Picture}
use Rattle.frames.specs.Rows.{LowRow}

-- no visible sample of the four rows from `row` on, as far as there are four, exceeds m
pub record LowFour (m : ℕ) (px : Picture) (width height row : ℕ) : Type 0 where
  pub low : (k : ℕ) → row ≤ k → k < row + 4 → k < height → LowRow m (px k) width
