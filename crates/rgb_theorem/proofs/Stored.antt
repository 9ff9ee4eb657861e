-- THE THEOREM: chroma order, packing and byte order do not change the picture. The same codes stored another way give the same RGB buffer.
-- Assumes nothing.
use mathlib.Core.Path.{◌≡◌, refl, sym, ap, ◌∙◌}
use mathlib.Core.List.{List, ◌++◌}
use Prim.Native.Nat.{ℕ, ◌*◌, ◌/◌, ◌%◌}
use lib.ListN.{take, drop}
use Rattle.rules.specs.declared.Settings.{Settings}
use Rattle.rules.specs.declared.Frame.{Frame}
use Rattle.rules.specs.declared.Codes.{Codes}
use Rattle.rules.specs.declared.InverseWeights.{InverseWeights}
use Rattle.rules.specs.declared.YuvNVOrder.{YuvNVOrder}
use Rattle.rules.specs.declared.YuvBytesPacking.{YuvBytesPacking}
use Rattle.rules.specs.declared.YuvEndianness.{YuvEndianness}
use Rattle.rules.specs.Ranges.{most}
use Rattle.rules.specs.Channels.{count}
use Rattle.rules.specs.Inverse.{inverse_weights_of}
use Rattle.rules.specs.Refusals.{Line, passes}
use Rattle.rules.specs.ToRgb.{restored, pixel_element, restored_picture, row_element, corner, rgb_written, rgb_left, to_rgb_line, rgb_after}
use Rattle.plane_laws.proofs.Planes.{written_ext}
use Rattle.frames.proofs.Places.{column_below}
use Rattle.rgb_theorem.specs.Stored.{stored_as, SameCodes}

module _ (s : Settings) (o : YuvNVOrder) (k : YuvBytesPacking) (e : YuvEndianness) (f : Frame) (luma chroma luma' chroma' rgb : List ℕ) where
  abbrev s' : Settings
  s' = stored_as o k e s

  -- the pixel rule and its weights know nothing of how codes are stored
  same_pixel : (w : InverseWeights) (c : Codes) → restored s w c ≡ restored s' w c
  unfolding restored
  same_pixel w c = refl

  same_weights : inverse_weights_of s ≡ inverse_weights_of s'
  unfolding inverse_weights_of
  same_weights = refl

  module _ (codes : SameCodes s s' f f luma chroma luma' chroma') where
    pub same_written : (w : InverseWeights) → rgb_written s.channels (most s.depth) f (restored_picture s w f luma chroma) rgb ≡ rgb_written s.channels (most s.depth) f (restored_picture s' w f luma' chroma') rgb
    same_written w =
        let n = count s.channels in
        let m = most s.depth in
        ap (λ (zs : List ℕ). take (corner s.channels f) rgb ++ zs)
        (written_ext f.source_stride (f.width * n) f.height (λ (row : ℕ). row_element s.channels m (restored_picture s w f luma chroma row)) (λ (row : ℕ). row_element s.channels m (restored_picture s' w f luma' chroma' row)) (drop (corner s.channels f) rgb)
        (λ row i h l.
        let same = ap (restored s w) (codes.same row (i / n) h (column_below s.channels f.width i l)) ∙ same_pixel w _ in
        λ j. pixel_element s.channels m (same j) (i % n)))

    -- where no refusal applies to either
    pub same_after : to_rgb_line s f luma chroma rgb ≡ passes → to_rgb_line s' f luma' chroma' rgb ≡ passes → rgb_after s f luma chroma rgb ≡ rgb_after s' f luma' chroma' rgb
    unfolding rgb_after
    same_after p q =
        ap (λ (l : Line). rgb_left l s (inverse_weights_of s) f luma chroma rgb) p
        ∙ same_written (inverse_weights_of s)
        ∙ ap (λ (w : InverseWeights). rgb_written s.channels (most s.depth) f (restored_picture s' w f luma' chroma') rgb) same_weights
        ∙ sym (ap (λ (l : Line). rgb_left l s' (inverse_weights_of s') f luma' chroma' rgb) q)
