-- `ring_parts::convert_part` meets its contract.
use Rattle.ring_parts.proofs.Lent.{turned}
use Rattle.ring_parts.proofs.convert_part.Goals as goal

pub returns : goal.returns
returns c =
    let v = c.args in
    let e = c.convert_settled.ensures in
    turned v.i v.s v.f v.source.now v.luma.now v.chroma.now
    c.source_size-source_size.ensures.value c.luma_size-luma_size.ensures.value c.chroma_size-chroma_size.ensures.value
    c.convert_settled.result e.verdict e.luma e.chroma
