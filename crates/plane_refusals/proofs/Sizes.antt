-- The rows of a plane, and what is found in them, by other names for their number and their width. Assumes nothing.
use Rattle.std.proofs.Common.{Ok, Err}
use Rattle.rules.specs.Refusals.{Verdict}
use mathlib.Core.Path.{◌≡◌, subst⁻¹}
use Prim.Native.Nat.{ℕ}
use Rattle.rules.specs.declared.Settings.{Settings}
use Rattle.rules.specs.declared.Frame.{Frame}
use Rattle.rules.specs.Search.{Test, first_failing}
use Rattle.frames.specs.Rows.{Rows}
use Rattle.frames.specs.Tests.{Sized, Laid, LaidOut}

module _ {w wide h rows : ℕ} (ew : w ≡ wide) (eh : h ≡ rows) where
  pub rows_by : {long stride : ℕ} → Rows long stride wide rows → Rows long stride w h
  rows_by {long} {stride} r = subst⁻¹ (λ (n : ℕ). Rows long stride n h) ew (subst⁻¹ (λ (n : ℕ). Rows long stride wide n) eh r)

  pub search_by : (t : Test) → first_failing t w h ≡ first_failing t wide rows
  search_by t = λ i. first_failing t (ew i) (eh i)

-- a frame that is laid out stays so, whatever the verdict
pub laid_anyway : (s : Settings) (f : Frame) (source luma chroma : ℕ) (v : Verdict) → (Sized f) × (Laid s f source luma chroma) → LaidOut s f source luma chroma v
laid_anyway s f source luma chroma (Ok u) l = l
laid_anyway s f source luma chroma (Err r) l = tt
