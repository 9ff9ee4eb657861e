use Rattle.rules.specs.Search.{Clean}
use Rattle.rules.specs.Frames.{shown}
use Rattle.rules.specs.Check.{luma_test}
use Rattle.walks.proofs.Walked.{CleanRow}
use Rattle.luma_walk.proofs.walk_luma.Given as goal

abbrev pub invariant-loop-row : goal.invariant-loop-row
invariant-loop-row l = Clean (luma_test l.judge.settings l.judge.named l.f (shown l.judge.settings l.f l.source) l.luma) l.f.width l.row

abbrev pub invariant-loop-element : goal.invariant-loop-element
invariant-loop-element l = CleanRow (luma_test l.judge.settings l.judge.named l.f (shown l.judge.settings l.f l.source) l.luma) l.row l.element
