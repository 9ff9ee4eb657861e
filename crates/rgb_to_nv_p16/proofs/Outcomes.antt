-- THE THEOREMS of convert: one outcome for each input, and of the source the colour samples of the window alone have a say. Assumes nothing.
use mathlib.Core.Path.{◌≡◌, sym, ap, ◌∙◌}
use mathlib.Core.Bool.{cond}
use mathlib.Core.List.{List, [], ◌∷◌, ◌++◌}
use Prim.Native.Nat.{ℕ}
use lib.ListN.{length}
use Rattle.rules.specs.declared.Settings.{Settings}
use Rattle.rules.specs.declared.Weights.{Weights}
use Rattle.rules.specs.declared.Frame.{Frame}
use Rattle.rules.specs.declared.Pixel.{Pixel}
use Rattle.rules.specs.declared.Component.TheVariants.{Y, Cb, Cr}
use Rattle.rules.specs.Weights.{weights_of}
use Rattle.rules.specs.Channels.{Picture, is_u}
use Rattle.rules.specs.Blocks.{chroma_width, chroma_height}
use Rattle.rules.specs.Refusals.{Line, first, Verdict}
use Rattle.rules.specs.Answers.{given, answer}
use Rattle.rules.specs.Settle.{settle_lines}
use Rattle.rules.specs.Convert.{sample_word, luma_word, chroma_word, kept, verdict, luma_written, chroma_written, convert, luma_after, chroma_after}
use Rattle.rule_laws.proofs.Answers.{one_converted}
use Rattle.plane_laws.proofs.Planes.{written_ext}
use Rattle.frames.specs.Sources.{SameColours, SamePicture}
use Rattle.frames.proofs.Sources.{pictures, same_block, same_lines}
use Rattle.rgb_to_nv_p16.specs.Outcomes.{Admitted}

-- any two outcomes that convert's contract admits for one input are equal
pub one_outcome : (s : Settings) (f : Frame) (source luma chroma : List ℕ) (a a' : Verdict) (l l' c c' : List ℕ)
    → Admitted s f source luma chroma a l c → Admitted s f source luma chroma a' l' c' → (a ≡ a') × (l ≡ l') × (c ≡ c')
one_outcome s f source luma chroma a a' l l' c c' p q =
    (one_converted a a' (p.answer_is ∙ sym q.answer_is), p.luma_is ∙ sym q.luma_is, p.chroma_is ∙ sym q.chroma_is)

-- ---- pictures that agree on the visible pixels
module _ (f : Frame) (px px' : Picture) (h : SamePicture f.width f.height px px') where
  pub same_luma : (s : Settings) (w : Weights) (luma : List ℕ) → luma_written s w f px luma ≡ luma_written s w f px' luma
  same_luma s w luma =
      written_ext f.luma_stride f.width f.height (luma_word s w px) (luma_word s w px') luma
      (λ row x b l. ap (λ (p : Pixel). sample_word s w (record { component = Y; pixels = p ∷ [] })) (h.same row x b l))

  pub same_chroma : (s : Settings) (w : Weights) (chroma : List ℕ) → chroma_written s w f px chroma ≡ chroma_written s w f px' chroma
  same_chroma s w chroma =
      written_ext f.chroma_stride (chroma_width s.subsampling f.width) (chroma_height s.subsampling f.height) (chroma_word s w f.width f.height px) (chroma_word s w f.width f.height px') chroma
      (λ row e b l. ap (λ (p : List Pixel). sample_word s w (record { component = cond (is_u s.order e) Cb Cr; pixels = p })) (same_block f px px' h s.subsampling row e b l))

-- ---- two sources of one length that agree at every visible colour sample give the same answer and the same planes
module _ (s : Settings) (f : Frame) (a b luma chroma : List ℕ) (h : SameColours s.channels f a b) where
  pub same_verdict : verdict s f a luma chroma ≡ verdict s f b luma chroma
  same_verdict = ap (λ (ls : List Line). first (settle_lines s ++ ls)) (same_lines s f a b (length luma) (length chroma) h)

  pub visible_colours_alone : (convert s f a luma chroma ≡ convert s f b luma chroma) × (luma_after s f a luma chroma ≡ luma_after s f b luma chroma) × (chroma_after s f a luma chroma ≡ chroma_after s f b luma chroma)
  unfolding convert luma_after chroma_after
  visible_colours_alone =
      let p = pictures s.channels f a b h in (
        ap (λ (l : Line). answer l (given [])) same_verdict,
        λ i. kept (same_verdict i) (same_luma f _ _ p s (weights_of s) luma i) luma,
        λ i. kept (same_verdict i) (same_chroma f _ _ p s (weights_of s) chroma i) chroma,
      )
