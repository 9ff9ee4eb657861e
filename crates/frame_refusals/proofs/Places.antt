-- A colour sample that is too large is found within its frame. Assumes nothing.
use Rattle.std.proofs.Common.{None, Some}
use Prim.Native.Nat.{ℕ, ◌*◌}
use mathlib.Core.Path.{◌≡◌, refl}
use native.Mathlib.Omega.{arith}
use Rattle.rules.specs.declared.Frame.{Frame}
use Rattle.rules.specs.Channels.{Picture}
use Rattle.rules.specs.Search.{first_failing, Search}
use Rattle.rules.specs.Frames.{low_test, too_large}
use Rattle.plane_laws.proofs.Searches.{found_wrong}
use Rattle.frames.specs.Tests.{Sized}
use Rattle.frame_refusals.specs.Places.{WithinFrame}

pub found_within : (m : ℕ) (f : Frame) (px : Picture) → Sized f → WithinFrame (too_large m f px)
unfolding too_large
found_within m f px z = by (first_failing (low_test m px) (3 * f.width) f.height) refl
  where
    by : (s : Search) → first_failing (low_test m px) (3 * f.width) f.height ≡ s → WithinFrame s
    by None e = tt
    by (Some p) e =
        let w = found_wrong (low_test m px) (3 * f.width) f.height p.row p.element e in
        (omega (arith, w.below, z.flat), omega (arith, w.inside, z.narrow))
