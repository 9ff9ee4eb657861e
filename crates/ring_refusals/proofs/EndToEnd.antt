-- A ring that no line refuses lies end to end in its buffers. Assumes nothing.
use mathlib.Core.Path.{◌≡◌}
use mathlib.Core.Bool.{false, not, ◌||◌}
use Prim.Native.Nat.{ℕ, ◌*◌}
use lib.Dec.{eqb}
use borrow.Author.Tests.{eqb-true, not-false}
use Rattle.rules.specs.declared.Settings.{Settings}
use Rattle.rules.specs.declared.Frame.{Frame}
use Rattle.rules.specs.Refusals.{passes, first}
use Rattle.rules.specs.Frames.{source_size, luma_size, chroma_size}
use Rattle.rules.specs.Ring.{ring_lines}
use Rattle.rule_laws.proofs.Refusals.{bounds, passed_by}
use Rattle.plane_laws.proofs.Tests.{neither}
use Rattle.frames.proofs.Tests.{sized, windowed, strided}
use Rattle.ring_refusals.specs.EndToEnd.{EndToEnd}

exact : {long n : ℕ} → not (eqb long n) ≡ false → long ≡ n
exact {long} {n} h = eqb-true long n (not-false (eqb long n) h)

pub end_to_end : (s : Settings) (f : Frame) (count source luma chroma : ℕ) → first (ring_lines s f count source luma chroma) ≡ passes → EndToEnd s f count source luma chroma
end_to_end s f count source luma chroma h =
    let size = passed_by _ _ _ h in
    let corner = passed_by _ _ _ size.1 in
    let stride = passed_by _ _ _ corner.1 in
    let many = passed_by _ _ _ stride.1 in
    let long = passed_by _ _ _ many.1 in
    let a = not (eqb source (count * source_size f)) in
    let b = not (eqb luma (count * luma_size f)) in
    let c = not (eqb chroma (count * chroma_size s f)) in
    let k = neither a (b || c) long.0 in
    let l = neither b c k.1 in
    record {
      sized = sized f size.0;
      windowed = windowed f corner.0;
      strided = strided s f stride.0;
      few = (bounds 1 64 count many.0).1;
      source = exact k.0;
      luma = exact l.0;
      chroma = exact l.1;
    }
