-- Where frame i of a ring lies, and what converting it leaves. Statements only.
use Rattle.std.specs.Prelude.{ℕ, ◌+◌, ◌*◌, ◌≤◌, ◌<◌, ◌≡◌, List}
use Rattle.rules.specs.declared.Settings.{Settings}
use Rattle.rules.specs.declared.Frame.{Frame}
use Rattle.rules.specs.Refusals.{line_of, Verdict}
use Rattle.rules.specs.Frames.{source_size, luma_size, chroma_size}
use Rattle.rules.specs.Convert.{verdict, luma_after, chroma_after}
use Rattle.plane_laws.specs.Parts.{part, put_part}
use Rattle.frames.specs.Tests.{Sized, Windowed, Strided}

-- one of the first 64 frames, which ends within buffers of these lengths
pub record Lies (s : Settings) (f : Frame) (i sources lumas chromas : ℕ) : Type 0 where
  pub sized : Sized f
  pub windowed : Windowed f
  pub strided : Strided s f
  pub few : i < 64
  pub source : i * source_size f + source_size f ≤ sources
  pub luma : i * luma_size f + luma_size f ≤ lumas
  pub chroma : i * chroma_size s f + chroma_size s f ≤ chromas

-- convert's verdict on frame i, and the planes with what convert leaves in its parts
pub record Turns (s : Settings) (f : Frame) (i : ℕ) (source luma chroma : List ℕ) (r : Verdict) (l c : List ℕ) : Type 0 where
  pub verdict_is : line_of r ≡ verdict s f (part (source_size f) i source) (part (luma_size f) i luma) (part (chroma_size s f) i chroma)
  pub luma_is : l ≡ put_part (luma_size f) i luma (luma_after s f (part (source_size f) i source) (part (luma_size f) i luma) (part (chroma_size s f) i chroma))
  pub chroma_is : c ≡ put_part (chroma_size s f) i chroma (chroma_after s f (part (source_size f) i source) (part (luma_size f) i luma) (part (chroma_size s f) i chroma))
