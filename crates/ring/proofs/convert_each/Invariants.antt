use Rattle.ring.proofs.Turns.{Turned}
use Rattle.ring.proofs.convert_each.Given as goal

abbrev pub invariant-loop-written : goal.invariant-loop-written
invariant-loop-written l = Turned l.s l.f l.count l.source l.initial.luma l.initial.chroma l.written l.luma l.chroma
