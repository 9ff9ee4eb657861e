use Prim.Native.Nat.{◌*◌}
use Rattle.rules.specs.Channels.{count}
use Rattle.plane_laws.specs.Rows.{Begun}
use Rattle.restored_rows.specs.Columns.{row_by}
use Rattle.restored_rows.proofs.Restorer.put_columns.Given as goal

abbrev pub invariant-loop-i : goal.invariant-loop-i
invariant-loop-i l = Begun ((2 * l.i) * count l.self.settings.channels) (row_by l.self.settings l.self.weights l.luma l.chroma) l.initial.rgb l.rgb
