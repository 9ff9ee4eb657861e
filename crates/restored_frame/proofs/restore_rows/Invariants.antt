use mathlib.Core.Path.{◌≡◌}
use Prim.Native.Nat.{◌*◌}
use Rattle.rules.specs.Channels.{count}
use Rattle.rules.specs.Planes.{written}
use Rattle.restored_frame.specs.Restorable.{restored_row}
use Rattle.restored_frame.proofs.restore_rows.Given as goal

abbrev pub invariant-loop-row : goal.invariant-loop-row
invariant-loop-row l = l.rest ≡ written l.f.source_stride (l.f.width * count l.s.channels) l.row (restored_row l.s l.w l.f l.luma l.chroma) l.initial.rest
