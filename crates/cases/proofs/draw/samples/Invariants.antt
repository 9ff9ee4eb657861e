use Rattle.std.proofs.Common.{◌≤◌, ◌<◌}
use Rattle.cases.proofs.draw.samples.Given as goal

abbrev pub invariant-loop-sample : goal.invariant-loop-sample
invariant-loop-sample l = (l.x < 65537) × (l.m ≤ 65535)
