use Rattle.rules.specs.Blocks.{chroma_width}
use Rattle.rules.specs.Search.{Clean}
use Rattle.rules.specs.Frames.{shown}
use Rattle.rules.specs.Check.{chroma_test}
use Rattle.walks.proofs.Walked.{CleanRow}
use Rattle.chroma_walk.proofs.walk_chroma.Given as goal

abbrev pub invariant-loop-row : goal.invariant-loop-row
invariant-loop-row l = Clean (chroma_test l.judge.settings l.judge.named l.f (shown l.judge.settings l.f l.source) l.chroma) (chroma_width l.judge.settings.subsampling l.f.width) l.row

abbrev pub invariant-loop-element : goal.invariant-loop-element
invariant-loop-element l = CleanRow (chroma_test l.judge.settings l.judge.named l.f (shown l.judge.settings l.f l.source) l.chroma) l.row l.element
