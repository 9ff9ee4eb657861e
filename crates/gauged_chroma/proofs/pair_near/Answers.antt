-- `gauged_chroma::pair_near` meets its contract.
use Rattle.std.proofs.Common.{sym, ◌∙◌}
use Rattle.gauged_chroma.proofs.Pairs.{u_fails, v_decides, u_read, v_read}
use Rattle.gauged_chroma.proofs.pair_near.Goals as goal

pub returns-then-chroma_near : goal.returns-then-chroma_near
returns-then-chroma_near c =
    let a = c.args in
    let u = u_read a.ruler a.z a.chroma.now a.pair c.chroma_near.ensures c.exchanged.ensures c.get_u_position.ensures in
    v_decides a.ruler a.z a.chroma.now a.pair (sym u ∙ c.if-chroma_near.true)
    (v_read a.ruler a.z a.chroma.now a.pair c.chroma_near-then-chroma_near.ensures c.exchanged-then-chroma_near.ensures c.get_v_position.ensures)

pub returns-else-chroma_near : goal.returns-else-chroma_near
returns-else-chroma_near c =
    let a = c.args in
    let u = u_read a.ruler a.z a.chroma.now a.pair c.chroma_near.ensures c.exchanged.ensures c.get_u_position.ensures in
    c.if-chroma_near.false ∙ u_fails a.ruler a.z a.chroma.now a.pair (sym u ∙ c.if-chroma_near.false)
