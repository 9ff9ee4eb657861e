-- How far a chroma row passes by its gauges. Definitions only.
use Rattle.std.specs.Prelude.{ℕ, List}
use Rattle.rules.specs.declared.Pixel.{Pixel}
use Rattle.fractions.specs.Sums.{sums_of}
use Rattle.gauges.specs.Prefixes.{Passed}
use Rattle.gauged_chroma.specs.declared.Ruler.{Ruler}
use Rattle.gauged_chroma.specs.Pairing.{pair_near}

-- the first n of a chroma row's pairs pass, each by the pixels of its block
abbrev pub PairsPassed : Ruler → (ℕ → List Pixel) → List ℕ → ℕ → ℕ → Type 0
PairsPassed m pixels chroma pairs n = Passed (λ (pair : ℕ). pair_near m (sums_of (pixels pair)) chroma pair) pairs n
