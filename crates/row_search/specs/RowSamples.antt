-- The colour samples of a row part. Definitions only.
use Rattle.std.specs.Prelude.{ℕ, ◌/◌, ◌%◌, List}
use Rattle.rules.specs.declared.YuvSourceChannels.{YuvSourceChannels}
use Rattle.rules.specs.Frames.{channel_of}
use Rattle.frames.specs.Rows.{row_pixel}

-- colour sample i of a row part
abbrev pub sample_of : YuvSourceChannels → List ℕ → ℕ → ℕ
sample_of c part i = channel_of (i % 3) (row_pixel c part (i / 3))
