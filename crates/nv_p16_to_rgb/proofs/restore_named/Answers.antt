-- `nv_p16_to_rgb::restore_named` meets its contract.
use Rattle.std.proofs.lemmas.Result.{err_from_is_err_and}
use mathlib.Core.Path.{sym, subst⁻¹}
use Prim.Native.Nat.{◌*◌, ◌^◌}
use lib.ListN.{length}
use Rattle.inverse_bounds.specs.Bounds.{InverseWithin}
use Rattle.inverse_bounds.proofs.Bounded.{inverse_within}
use Rattle.nv_p16_to_rgb.proofs.Passing.{restorable}
use Rattle.nv_p16_to_rgb.proofs.restore_named.Goals as goal

pub returns-in_err-planes_verdict-clause-verdict : goal.returns-in_err-planes_verdict-clause-verdict
returns-in_err-planes_verdict-clause-verdict c =
    let p = err_from_is_err_and c.from_residual.result c.from_residual.ensures.1 in
    rw (p.1, p.2) c.in_err-planes_verdict.ensures.exact

pub restore_frame-requires-clause-reach : goal.restore_frame-requires-clause-reach
restore_frame-requires-clause-reach c =
    let v = c.args in
    (c.requires.0, subst⁻¹ (InverseWithin (4 * 2 ^ v.s.precision)) c.inverse_weights_of.ensures (inverse_within v.s c.requires.0 v.k c.requires.1))

pub restore_frame-requires-clause-readable : goal.restore_frame-requires-clause-readable
restore_frame-requires-clause-readable c =
    let v = c.args in
    let h = restorable v.s v.f v.luma.now v.chroma.now (length v.rgb.now) (sym c.in_ok-planes_verdict.ensures.exact) in
    (h.readable, h.strides, h.window)
