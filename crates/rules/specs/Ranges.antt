-- Document 01, "Settings and weights": what a depth and a range give. Definitions only.
use Rattle.std.specs.Prelude.{ℕ, ◌-◌, ◌*◌, ◌^◌}
use Rattle.rules.specs.declared.YuvRange.{YuvRange}
use Rattle.rules.specs.declared.YuvRange.TheVariants.{Limited, Full}

-- "For depth d let m = 2^d − 1"
abbrev pub most : ℕ → ℕ
most d = 2 ^ d - 1

-- "Limited: bias_y = 16·2^(d−8) .. Full: bias_y = 0"
abbrev pub y_bias : YuvRange → ℕ → ℕ
y_bias Limited d = 16 * 2 ^ (d - 8)
y_bias Full d = 0

-- "Limited: .. range_y = 219·2^(d−8) .. Full: .. both ranges m"
abbrev pub y_range : YuvRange → ℕ → ℕ
y_range Limited d = 219 * 2 ^ (d - 8)
y_range Full d = most d

-- "Limited: .. range_uv = 224·2^(d−8). Full: .. both ranges m"
abbrev pub uv_range : YuvRange → ℕ → ℕ
uv_range Limited d = 224 * 2 ^ (d - 8)
uv_range Full d = most d

-- "In both, bias_uv = 2^(d−1)"
abbrev pub uv_bias : ℕ → ℕ
uv_bias d = 2 ^ (d - 1)
