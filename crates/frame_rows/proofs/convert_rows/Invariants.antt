use mathlib.Core.Path.{◌≡◌}
use Rattle.rules.specs.Frames.{shown}
use Rattle.rules.specs.Blocks.{chroma_width}
use Rattle.rules.specs.Planes.{written}
use Rattle.rules.specs.Convert.{luma_word, chroma_word}
use Rattle.lent_rows.specs.Turns.{rows_over}
use Rattle.frame_rows.proofs.convert_rows.Given as goal

abbrev pub invariant-loop-row : goal.invariant-loop-row
invariant-loop-row l = let px = shown l.s l.f l.source in
    (l.luma ≡ written l.f.luma_stride l.f.width (rows_over l.s.subsampling l.f.height l.row) (luma_word l.s l.w px) l.initial.luma)
    × (l.chroma ≡ written l.f.chroma_stride (chroma_width l.s.subsampling l.f.width) l.row (chroma_word l.s l.w l.f.width l.f.height px) l.initial.chroma)
