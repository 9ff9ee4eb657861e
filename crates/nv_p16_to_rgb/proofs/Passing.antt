-- Planes and a buffer that no refusal meets can be turned back. Assumes nothing.
use Rattle.std.proofs.Common.{None, Some}
use mathlib.Core.Path.{◌≡◌, refl}
use mathlib.Core.List.{List, [], ◌∷◌}
use Prim.Native.Nat.{ℕ}
use native.Mathlib.Omega.{arith}
use lib.IntN.{ℤ}
use lib.ListN.{length}
use Rattle.rules.specs.declared.Settings.{Settings}
use Rattle.rules.specs.declared.Frame.{Frame}
use Rattle.rules.specs.Refusals.{passes, first}
use Rattle.rules.specs.Search.{first_values, Search}
use Rattle.rules.specs.ToRgb.{malformed_line, plane_lines}
use Rattle.rule_laws.proofs.Refusals.{passed, passed_by}
use Rattle.plane_laws.proofs.Searches.{none_clean}
use Rattle.frames.specs.SourceRows.{WindowRows}
use Rattle.frames.specs.Tests.{Strided}
use Rattle.frames.proofs.Tests.{sized, windowed, strided, laid}
use Rattle.restored_frame.specs.Restorable.{Readable}

-- a line of 13 that passes has no place
unplaced : (v : List ℤ) → malformed_line v ≡ passes → v ≡ []
unplaced [] h = refl
unplaced (v ∷ vs) h = absurd (let z : ◌≡◌ {A = ℕ} 0 1 = cc in omega arith)

-- and no place means that neither search found one
neither_found : (y c : Search) → first_values y c ≡ [] → (y ≡ None) × (c ≡ None)
neither_found None None h = (refl, refl)
neither_found None (Some p) h = absurd (let z : ◌≡◌ {A = ℕ} 0 1 = cc in omega arith)
neither_found (Some p) c h = absurd (let z : ◌≡◌ {A = ℕ} 0 1 = cc in omega arith)

pub record Restorable (s : Settings) (f : Frame) (luma chroma : List ℕ) (rgb : ℕ) : Type 0 where
  pub readable : Readable s f luma chroma
  pub strides : Strided s f
  pub window : WindowRows s.channels f rgb

pub restorable : (s : Settings) (f : Frame) (luma chroma : List ℕ) (rgb : ℕ) → first (plane_lines s f luma chroma rgb) ≡ passes → Restorable s f luma chroma rgb
restorable s f luma chroma rgb h =
    let size = passed_by _ _ _ h in
    let corner = passed_by _ _ _ size.1 in
    let stride = passed_by _ _ _ corner.1 in
    let long = passed_by _ _ _ stride.1 in
    let z = sized f size.0 in
    let t = strided s f stride.0 in
    let l = laid s f rgb (length luma) (length chroma) z (windowed f corner.0) t long.0 in
    let none = neither_found _ _ (unplaced _ (passed _ _ long.1).0) in
    record {
      readable = record {
        narrow = z.narrow;
        high = z.high;
        luma_rows = l.luma;
        chroma_rows = l.chroma;
        luma_formed = none_clean _ _ _ none.0;
        chroma_formed = none_clean _ _ _ none.1;
      };
      strides = t;
      window = l.source;
    }
