-- The search for a sample that exceeds m, one row of a picture at a time. Definitions only.
use Rattle.std.specs.Prelude.{ℕ, ◌*◌}
use Rattle.rules.specs.declared.Frame.{Frame}
use Rattle.rules.specs.Channels.{Picture}
use Rattle.rules.specs.Search.{first_below, failing, Search}
use Rattle.rules.specs.Frames.{low_test}

-- the first sample of a row of a picture that exceeds m
abbrev pub search_row : ℕ → Frame → Picture → ℕ → Search
search_row m f px row = first_below (3 * f.width) (λ i. failing (low_test m px row i) row i)
