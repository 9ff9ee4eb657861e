-- Places that fit the 32 bits of their numbers. Statements only.
use Rattle.rules.specs.Search.{Search}
use Rattle.std.specs.Prelude.{◌≤◌, None, Some}

-- what is found in a frame that refusal 7 passes: a row, and one of three colour samples for each pixel
abbrev pub WithinFrame : Search → Type 0
WithinFrame None = Unit
WithinFrame (Some p) = (p.row ≤ 16384) × (p.element ≤ 49152)
