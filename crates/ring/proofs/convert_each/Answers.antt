-- `ring::convert_each` meets its contract.
use Rattle.std.proofs.Common.{Ok, Err}
use mathlib.Core.Path.{◌≡◌, refl, sym, ap, ◌∙◌}
use Prim.Native.Nat.{ℕ}
use native.Mathlib.Omega.{arith}
use lib.ListN.{length}
use Rattle.rules.specs.Refusals.{Verdict}
use Rattle.rules.specs.Frames.{source_size, luma_size, chroma_size}
use Rattle.ring_parts.specs.Parts.{Lies}
use Rattle.ring_parts.proofs.Parts.{inside}
use Rattle.ring.specs.RingAnswers.{ringed}
use Rattle.ring.proofs.Turns.{passing, named, all_written, refused_here, one_more}
use Rattle.ring.proofs.convert_each.Goals as goal
use Rattle.ring.proofs.convert_each.Goals.{In-loop-written}

-- the frame of this turn lies in the three buffers
lies : (c : In-loop-written) → let v = c.args in Lies v.s v.f c.loop-written.written (length v.source.now) (length c.loop-written.luma) (length c.loop-written.chroma)
lies c =
    let v = c.args in
    let l = c.requires.end_to_end in
    let i = c.loop-written.written in
    let b = c.loop-written-test.true in
    record {
      sized = l.sized;
      windowed = l.windowed;
      strided = l.strided;
      few = omega (arith, b, l.few);
      source = inside (source_size v.f) i v.count _ b l.source;
      luma = inside (luma_size v.f) i v.count _ b (c.loop-written.invariant.luma_same ∙ l.luma);
      chroma = inside (chroma_size v.s v.f) i v.count _ b (c.loop-written.invariant.chroma_same ∙ l.chroma);
    }

pub convert_part-requires-clause-lies : goal.convert_part-requires-clause-lies
convert_part-requires-clause-lies c =
    lies (goal.at.convert_part-requires-clause-lies c).In-loop-written

pub returns-in-Err : goal.returns-in-Err
returns-in-Err c =
    let v = c.args in
    let r : Verdict = Err c.in-Err.refusal in
    named c.ringed.ensures
    (refused_here v.s v.f v.count v.source.now v.luma.now v.chroma.now c.loop-written.written c.loop-written.luma c.loop-written.chroma c.loop-written.invariant
    c.loop-written-test.true r _ _ c.in-Err.ensures refl)

pub loop-written-preserved : goal.loop-written-preserved
loop-written-preserved c =
    let v = c.args in
    let l = lies (goal.at.loop-written-preserved c).In-loop-written in
    one_more v.s v.f v.count v.source.now v.luma.now v.chroma.now c.loop-written.written c.loop-written.luma c.loop-written.chroma c.loop-written.invariant
    c.loop-written-test.true c.convert_part.result _ _ c.convert_part.ensures l.luma l.chroma (passing c.convert_part.result c.in_default.not-Err)

pub returns : goal.returns
returns c =
    let v = c.args in
    let e : c.loop-written.written ≡ v.count = omega (arith, c.loop-written.invariant.within, c.loop-written-test.false) in
    let o = all_written v.s v.f v.count v.source.now v.luma.now v.chroma.now c.loop-written.written c.loop-written.luma c.loop-written.chroma c.loop-written.invariant e in
    named (c.ringed-2.ensures ∙ ap (λ (n : ℕ). ringed n (Ok tt)) (sym e)) o
