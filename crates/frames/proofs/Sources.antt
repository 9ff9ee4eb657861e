-- Sources that agree at every visible colour sample show one picture: the same refusals of a frame, and the same pixels of a block. Assumes nothing.
use mathlib.Core.Path.{◌≡◌, sym, ap, ◌∙◌}
use mathlib.Core.List.{List, [], ◌∷◌}
use Prim.Native.Nat.{ℕ, ◌+◌, ◌*◌, ◌/◌, ◌%◌, ◌<◌}
use native.Mathlib.Omega.{arith}
use lib.Dec.{leb}
use Rattle.rules.specs.declared.Settings.{Settings}
use Rattle.rules.specs.declared.Frame.{Frame}
use Rattle.rules.specs.declared.Pixel.{Pixel}
use Rattle.rules.specs.declared.YuvSourceChannels.{YuvSourceChannels}
use Rattle.rules.specs.declared.YuvChromaSubsampling.{YuvChromaSubsampling}
use Rattle.rules.specs.Ranges.{most}
use Rattle.rules.specs.Channels.{Picture}
use Rattle.rules.specs.Blocks.{block, chroma_width, chroma_height}
use Rattle.rules.specs.Frames.{channel_of, low_test, too_large, window, place_line, size_line, window_line, stride_line, length_line, frame_lines}
use Rattle.plane_laws.proofs.Searches.{same_search}
use Rattle.blocks.specs.Tiles.{left_of, wide_at, top_of, two_at}
use Rattle.blocks.proofs.Tiles.{block_tiles, left_below, wide_below, top_below, two_below, tiles_same}
use Rattle.frames.specs.Sources.{SameColours, SamePicture}

pub pictures : (c : YuvSourceChannels) (f : Frame) (a b : List ℕ) → SameColours c f a b → SamePicture f.width f.height (window c f a) (window c f b)
pictures c f a b h =
    record { same = λ row x p q. λ i. record { red = h.red row x p q i; green = h.green row x p q i; blue = h.blue row x p q i } }

module _ (f : Frame) (px px' : Picture) (h : SamePicture f.width f.height px px') where
  pub same_scan : (m : ℕ) → too_large m f px ≡ too_large m f px'
  unfolding too_large
  same_scan m =
      same_search (low_test m px) (low_test m px') (3 * f.width) f.height
      (λ row i b l. ap (λ (p : Pixel). leb (channel_of (i % 3) p) m) (h.same row (i / 3) b (omega arith)))

  pub same_block : (sub : YuvChromaSubsampling) (row e : ℕ) → row < chroma_height sub f.height → e < chroma_width sub f.width
      → block sub f.width f.height px row (e / 2) ≡ block sub f.width f.height px' row (e / 2)
  same_block sub row e b l =
      let t = top_of sub row in
      let x = left_of sub (e / 2) in
      let upper = h.same t in
      let lower = h.same (t + 1) in
      let inside = left_below sub f.width e l in
      let beside = wide_below sub f.width x in
      let above = top_below sub f.height row b in
      let below = two_below sub f.height t in
      block_tiles sub f.width f.height px row (e / 2)
      ∙ tiles_same (wide_at sub f.width x) (two_at sub f.height t) (px t) (px' t) (px (t + 1)) (px' (t + 1)) x
      (upper x above inside) (λ w. upper (x + 1) above (beside w)) (λ two. lower x (below two) inside) (λ two w. lower (x + 1) (below two) (beside w))
      ∙ sym (block_tiles sub f.width f.height px' row (e / 2))

-- the table's lines for a frame
pub same_lines : (s : Settings) (f : Frame) (a b : List ℕ) (luma chroma : ℕ) → SameColours s.channels f a b → frame_lines s f a luma chroma ≡ frame_lines s f b luma chroma
same_lines s f a b luma chroma h =
    λ i. size_line f ∷
    window_line f ∷
    stride_line s f ∷
    length_line s f 1 (h.long i) luma chroma ∷
    place_line (same_scan f _ _ (pictures s.channels f a b h) (most s.depth) i) ∷
    []
