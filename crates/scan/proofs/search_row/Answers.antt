-- `scan::search_row` meets its contract.
use mathlib.Core.Path.{ap, ◌∙◌}
use Prim.Native.Nat.{◌*◌, ◌/◌, ◌%◌}
use native.Mathlib.Omega.{arith}
use lib.Dec.{leb}
use Rattle.rules.specs.declared.Pixel.{Pixel}
use Rattle.rules.specs.Search.{failing}
use Rattle.rules.specs.Frames.{channel_of}
use Rattle.plane_laws.proofs.Searches.{first_ext}
use Rattle.scan.proofs.search_row.Goals as goal

-- what was found in the row part, said of the source
pub returns : goal.returns
returns c =
    let v = c.args in
    c.first_high.ensures
    ∙ first_ext (3 * v.f.width) _ _ (λ i h. ap (λ (p : Pixel). failing (leb (channel_of (i % 3) p) v.m) v.row i) (c.source_row-part.ensures.shows.same (i / 3) (omega (arith, h))))
