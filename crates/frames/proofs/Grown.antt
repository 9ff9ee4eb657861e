-- A row that is put back into a plane makes it grow by that row. Assumes nothing.
use mathlib.Core.Path.{◌≡◌, ap, ◌∙◌}
use mathlib.Core.List.{List}
use Prim.Native.Nat.{ℕ, ◌+◌, ◌*◌, ◌<◌}
use native.Mathlib.Omega.{arith}
use lib.ListN.{length}
use Rattle.rules.specs.Planes.{tabulate}
use Rattle.plane_laws.specs.Parts.{put}
use Rattle.plane_laws.proofs.Planes.{length_plane, plane_row}
use Rattle.frames.specs.Rows.{Rows, Grows}

pub row_put : (stride wide rows row k : ℕ) (f : ℕ → ℕ → ℕ) (now new : List ℕ) → Rows (length now) stride wide rows → row < rows → k ≡ wide → new ≡ tabulate wide (f row)
    → Grows stride wide row (row + 1) f now (put now (row * stride) new k)
row_put stride wide rows row k f now new r h q e =
    record {
      grows = λ old p.
          let long : length now ≡ length old = ap length p ∙ length_plane stride wide f old row in
          (λ i. put (p i) (row * stride) (e i) (q i)) ∙ plane_row stride wide f old row r.some r.covers (omega (arith, r.fits row h));
    }
