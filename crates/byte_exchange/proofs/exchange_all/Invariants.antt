use Rattle.rules.specs.declared.YuvEndianness.TheVariants.{BigEndian}
use Rattle.byte_exchange.specs.Exchanged.{Exchanged}
use Rattle.byte_exchange.proofs.exchange_all.Given as goal

abbrev pub invariant-loop-word : goal.invariant-loop-word
invariant-loop-word l = Exchanged BigEndian l.word-index l.initial.word-items l.word-items
