-- The packing factor: a well-formed word, its bytes in order, is its code times 2^(16−d) or times 1. Definitions only.
use Rattle.std.specs.Prelude.{ℕ, ◌-◌, ◌^◌}
use Rattle.rules.specs.declared.YuvBytesPacking.{YuvBytesPacking}
use Rattle.rules.specs.declared.YuvBytesPacking.TheVariants.{MostSignificantBytes, LeastSignificantBytes}

-- "most-significant packing multiplies the code by 2^(16−d), least-significant keeps it"
abbrev pub packing_factor : YuvBytesPacking → ℕ → ℕ
packing_factor MostSignificantBytes d = 2 ^ (16 - d)
packing_factor LeastSignificantBytes d = 1
