-- `restored_frame::restore_frame` meets its contract.
use mathlib.Core.Path.{◌≡◌, ap, ◌∙◌}
use Prim.Native.Nat.{ℕ, ◌+◌, ◌-◌, ◌*◌, ◌≤◌}
use native.Mathlib.Omega.{arith}
use lib.ListN.{length}
use Rattle.rules.specs.Channels.{count}
use Rattle.rules.specs.ToRgb.{corner}
use Rattle.restored_frame.proofs.Windows.{corner_in, rest_rows, length_rest}
use Rattle.restored_frame.proofs.restore_frame.Goals as goal
use Rattle.restored_frame.proofs.restore_frame.Goals.{After-get_channels_count, After-slice_known-1}

-- the corner lies in the buffer, whose bytes are counted by a usize
record Spot (c : After-slice_known-1) : Type 0 where
  inside : let v = c.args in corner v.s.channels v.f + v.f.width * count v.s.channels ≤ length v.rgb.now
  bytes : let v = c.args in (corner v.s.channels v.f + v.f.width * count v.s.channels) * 2 ≤ 18446744073709551615

spot : (c : After-slice_known-1) → Spot c
spot c =
    let l = corner_in c.args.s c.args.f (length c.args.rgb.now) c.requires.readable.0.high c.requires.readable.1 c.requires.readable.2 in
    record { inside = l; bytes = omega arith }

-- the corner, by the count of channels that was worked out
corner_is : (c : After-get_channels_count) → let v = c.args in
    v.f.first_row * v.f.source_stride + v.f.first_column * c.get_channels_count.result ≡ corner v.s.channels v.f
corner_is c = let v = c.args in ap (λ (n : ℕ). v.f.first_row * v.f.source_stride + v.f.first_column * n) c.get_channels_count.ensures

pub overflow_mul-corner : goal.overflow_mul-corner
overflow_mul-corner c = record { fits = omega (arith, (spot (goal.at.overflow_mul-corner c).After-slice_known-1).bytes) }

pub overflow_add-corner : goal.overflow_add-corner
overflow_add-corner c = record { fits = omega (arith, corner_is (goal.at.overflow_add-corner c).After-get_channels_count, (spot (goal.at.overflow_add-corner c).After-slice_known-1).bytes) }

pub offset_bounds-rgb-corner : goal.offset_bounds-rgb-corner
offset_bounds-rgb-corner c = record { fits = omega (arith, corner_is (goal.at.offset_bounds-rgb-corner c).After-get_channels_count, (spot (goal.at.offset_bounds-rgb-corner c).After-slice_known-1).bytes) }

pub slice_bounds-restore_rows-count : goal.slice_bounds-restore_rows-count
slice_bounds-restore_rows-count c = omega (arith, corner_is (goal.at.slice_bounds-restore_rows-count c).After-get_channels_count, (spot (goal.at.slice_bounds-restore_rows-count c).After-slice_known-1).inside)

pub restore_rows-requires-clause-readable : goal.restore_rows-requires-clause-readable
restore_rows-requires-clause-readable c =
    let v = c.args in
    let w = c.restoring_weights-r.ensures in
    let e = corner_is (goal.at.restore_rows-requires-clause-readable c).After-get_channels_count in
    (c.requires.readable.0, rest_rows v.s v.f (length v.rgb.now) c.requires.readable.0.high c.requires.readable.1 c.requires.readable.2 (length_rest _ v.rgb.now ∙ ap (λ (n : ℕ). length v.rgb.now - n) e))

pub slice_bounds-restore_rows-start : goal.slice_bounds-restore_rows-start
slice_bounds-restore_rows-start c = omega (arith, corner_is (goal.at.slice_bounds-restore_rows-start c).After-get_channels_count, (spot (goal.at.slice_bounds-restore_rows-start c).After-slice_known-1).inside)
