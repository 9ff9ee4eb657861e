-- What convert leaves of a frame's planes: as many elements, and the same ones where it refuses. Assumes nothing.
use mathlib.Core.Path.{◌≡◌, refl, ap}
use mathlib.Core.List.{List}
use Prim.Native.Nat.{ℕ}
use lib.IntN.{ℤ}
use lib.ListN.{length}
use Rattle.rules.specs.declared.Settings.{Settings}
use Rattle.rules.specs.declared.Frame.{Frame}
use Rattle.rules.specs.Weights.{weights_of}
use Rattle.rules.specs.Refusals.{Line, passes, refuses}
use Rattle.rules.specs.Convert.{kept, verdict, luma_left, chroma_left, luma_after, chroma_after}
use Rattle.plane_laws.proofs.Planes.{length_plane}

length_kept : (l : Line) (new old : List ℕ) → length new ≡ length old → length (kept l new old) ≡ length old
length_kept passes new old h = h
length_kept (refuses n v) new old h = refl

module _ (s : Settings) (f : Frame) (source luma chroma : List ℕ) where
  pub luma_long : length (luma_after s f source luma chroma) ≡ length luma
  unfolding luma_after
  luma_long = length_kept (verdict s f source luma chroma) _ luma (length_plane _ _ _ _ _)

  pub chroma_long : length (chroma_after s f source luma chroma) ≡ length chroma
  unfolding chroma_after
  chroma_long = length_kept (verdict s f source luma chroma) _ chroma (length_plane _ _ _ _ _)

  module _ {n : ℕ} {v : List ℤ} (h : verdict s f source luma chroma ≡ refuses n v) where
    pub luma_kept : luma_after s f source luma chroma ≡ luma
    unfolding luma_after
    luma_kept = ap (λ (l : Line). luma_left l s (weights_of s) f source luma) h

    pub chroma_kept : chroma_after s f source luma chroma ≡ chroma
    unfolding chroma_after
    chroma_kept = ap (λ (l : Line). chroma_left l s (weights_of s) f source chroma) h
