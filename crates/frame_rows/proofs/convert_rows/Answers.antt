-- `frame_rows::convert_rows` meets its contract: the chroma rows passed, and the luma rows over them, are written.
use mathlib.Core.Path.{ap, ◌∙◌}
use Prim.Native.Nat.{ℕ}
use Rattle.rules.specs.Frames.{shown}
use Rattle.rules.specs.Planes.{written}
use Rattle.rules.specs.Convert.{luma_word}
use Rattle.plane_laws.proofs.Planes.{plane_none}
use Rattle.lent_rows.proofs.Over.{over_none}
use Rattle.frame_rows.proofs.convert_rows.Goals as goal

pub loop-row-init : goal.loop-row-init
loop-row-init c =
    let v = c.args in
    let px = shown v.s v.f v.source.now in (
      plane_none v.f.luma_stride v.f.width (luma_word v.s v.w px) v.luma.now
          ∙ ap (λ (n : ℕ). written v.f.luma_stride v.f.width n (luma_word v.s v.w px) v.luma.now) (over_none v.f.height 0 v.s.subsampling),
      plane_none _ _ _ _,
    )
