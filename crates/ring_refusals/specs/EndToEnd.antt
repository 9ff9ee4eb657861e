-- What the tests of a ring leave. Statements only.
use Rattle.std.specs.Prelude.{ℕ, ◌*◌, ◌≤◌, ◌≡◌}
use Rattle.rules.specs.declared.Settings.{Settings}
use Rattle.rules.specs.declared.Frame.{Frame}
use Rattle.rules.specs.Frames.{source_size, luma_size, chroma_size}
use Rattle.frames.specs.Tests.{Sized, Windowed, Strided}

-- 7, 12, 8, 11 and 9 are not due: at most 64 frames lie end to end in three buffers of these lengths
pub record EndToEnd (s : Settings) (f : Frame) (count sources lumas chromas : ℕ) : Type 0 where
  pub sized : Sized f
  pub windowed : Windowed f
  pub strided : Strided s f
  pub few : count ≤ 64
  pub source : sources ≡ count * source_size f
  pub luma : lumas ≡ count * luma_size f
  pub chroma : chromas ≡ count * chroma_size s f
