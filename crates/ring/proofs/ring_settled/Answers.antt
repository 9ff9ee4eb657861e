-- `ring::ring_settled` meets its contract.
use Rattle.std.proofs.Common.{Ok, Err}
use mathlib.Core.Path.{refl, sym}
use Rattle.rules.specs.Refusals.{Verdict}
use Rattle.ring_refusals.proofs.EndToEnd.{end_to_end}
use Rattle.ring.proofs.Turns.{named}
use Rattle.ring.proofs.Verdicts.{refused_ring, begun}
use Rattle.ring.proofs.ring_settled.Goals as goal

pub returns-in-Err : goal.returns-in-Err
returns-in-Err c =
    let v = c.args in
    let r : Verdict = Err c.in-Err.refusal in
    named c.ringed.ensures (refused_ring v.s v.f v.count v.source.now v.luma.now v.chroma.now v.w c.requires.by_settle r c.in-Err.ensures refl)

pub convert_each-requires-clause-end_to_end : goal.convert_each-requires-clause-end_to_end
convert_each-requires-clause-end_to_end c = end_to_end _ _ _ _ _ _ (sym c.in-Ok.ensures)

pub returns-in-Ok : goal.returns-in-Ok
returns-in-Ok c =
    let v = c.args in
    let r : Verdict = Ok tt in
    begun v.s v.f v.count v.source.now v.luma.now v.chroma.now v.w c.requires.by_settle r c.in-Ok.ensures refl c.convert_each.ensures
