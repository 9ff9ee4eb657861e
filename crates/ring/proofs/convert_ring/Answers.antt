-- `ring::convert_ring` meets its contract, for every input.
use Rattle.ring.proofs.Turns.{named}
use Rattle.ring.proofs.Verdicts.{refused_settings}
use Rattle.ring.proofs.convert_ring.Goals as goal

pub returns-in-Err-clause-answer : goal.returns-in-Err-clause-answer
returns-in-Err-clause-answer c =
    let v = c.args in
    let e = named c.ringed.ensures (refused_settings v.s v.f v.count v.source.now v.luma.now v.chroma.now c.in-Err.refusal c.in-Err.ensures.exact) in
    e.answer_is

pub returns-in-Err-clause-luma : goal.returns-in-Err-clause-luma
returns-in-Err-clause-luma c =
    let v = c.args in
    let e = named c.ringed.ensures (refused_settings v.s v.f v.count v.source.now v.luma.now v.chroma.now c.in-Err.refusal c.in-Err.ensures.exact) in
    e.luma_is

pub returns-in-Err-clause-chroma : goal.returns-in-Err-clause-chroma
returns-in-Err-clause-chroma c =
    let v = c.args in
    let e = named c.ringed.ensures (refused_settings v.s v.f v.count v.source.now v.luma.now v.chroma.now c.in-Err.refusal c.in-Err.ensures.exact) in
    e.chroma_is
