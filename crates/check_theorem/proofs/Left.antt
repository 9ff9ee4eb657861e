-- What a conversion that is done leaves in the planes, and that check accepts it. Assumes nothing.
use mathlib.Core.Path.{◌≡◌, sym, ap, ◌∙◌, subst}
use mathlib.Core.List.{List, [], ◌∷◌}
use Prim.Native.Nat.{ℕ, ◌<◌}
use lib.ListN.{length}
use Rattle.rules.specs.declared.Settings.{Settings}
use Rattle.rules.specs.declared.Frame.{Frame}
use Rattle.rules.specs.declared.Named.{Named}
use Rattle.rules.specs.declared.Matrix.TheVariants.{Tabled}
use Rattle.rules.specs.declared.Weights.{Weights}
use Rattle.rules.specs.Ranges.{most}
use Rattle.rules.specs.Channels.{Picture, is_u}
use Rattle.rules.specs.Matrices.{matrix_of}
use Rattle.rules.specs.Weights.{weights_of}
use Rattle.rules.specs.Blocks.{chroma_width, chroma_height}
use Rattle.rules.specs.PlaneSamples.{luma_sample, chroma_sample}
use Rattle.rules.specs.Refusals.{Line, passes, first}
use Rattle.rules.specs.Search.{Clean}
use Rattle.rules.specs.Answers.{given, weight_values}
use Rattle.rules.specs.Settle.{settle_lines, settle}
use Rattle.rules.specs.Frames.{shown, frame_lines}
use Rattle.rules.specs.Convert.{kept, verdict, luma_word, chroma_word, luma_written, chroma_written, convert, luma_after, chroma_after}
use Rattle.rules.specs.Check.{right, luma_test, chroma_test, is_custom, custom_line, check_lines, check}
use Rattle.rule_laws.specs.Codes.{Low}
use Rattle.rule_laws.proofs.Refusals.{skipped, parted, passed_on}
use Rattle.rule_laws.proofs.Answers.{gave}
use Rattle.plane_laws.proofs.Planes.{length_plane, written_at}
use Rattle.tolerance_laws.proofs.Blocks.{block_at}
use Rattle.settle.proofs.Verdicts.{weighed}
use Rattle.frames.specs.Rows.{Rows}
use Rattle.frames.proofs.Tests.{ready}
use Rattle.check_laws.proofs.Unique.{accepted_iff}
use Rattle.check_theorem.proofs.Words.{luma_right, chroma_right}

-- ---- planes that a low picture was written into are clean
module _ (s : Settings) (k : Named) (w : Weights) (named : matrix_of s.matrix ≡ Tabled k) (accepted : given (weight_values w) ≡ settle s)
    (f : Frame) (px : Picture) (low : (row column : ℕ) → row < f.height → column < f.width → Low (most s.depth) (px row column)) where
  luma_clean : (luma : List ℕ) → Rows (length luma) f.luma_stride f.width f.height →
      Clean (luma_test s k f px (luma_written s w f px luma)) f.width f.height
  luma_clean luma l =
      record {
        clean = λ row e h b.
            ap (right s k (luma_sample px row e)) (written_at f.luma_stride f.width (luma_word s w px) luma f.height row e h b l.covers (l.fits row h))
            ∙ luma_right s k w named accepted (low row e h b);
      }

  chroma_clean : (chroma : List ℕ) → Rows (length chroma) f.chroma_stride (chroma_width s.subsampling f.width) (chroma_height s.subsampling f.height) →
      Clean (chroma_test s k f px (chroma_written s w f px chroma)) (chroma_width s.subsampling f.width) (chroma_height s.subsampling f.height)
  chroma_clean chroma l =
      record {
        clean = λ row e h b.
            ap (right s k (chroma_sample s f.width f.height px row e))
            (written_at f.chroma_stride (chroma_width s.subsampling f.width) (chroma_word s w f.width f.height px) chroma (chroma_height s.subsampling f.height) row e h b l.covers (l.fits row h))
            ∙ chroma_right s k w named accepted (is_u s.order e) (block_at (most s.depth) f.width f.height px low s.subsampling row e h b);
      }

module _ (s : Settings) (k : Named) (named : matrix_of s.matrix ≡ Tabled k) (f : Frame) (source luma chroma : List ℕ) (done : convert s f source luma chroma ≡ given []) where
  px : Picture
  px = shown s f source

  passed : verdict s f source luma chroma ≡ passes
  unfolding convert
  passed = (gave (verdict s f source luma chroma) (given []) [] (sym done)).0

  -- what convert left in the planes
  luma_is : luma_after s f source luma chroma ≡ luma_written s (weights_of s) f px luma
  unfolding luma_after px
  luma_is = ap (λ (l : Line). kept l (luma_written s (weights_of s) f px luma) luma) passed

  chroma_is : chroma_after s f source luma chroma ≡ chroma_written s (weights_of s) f px chroma
  unfolding chroma_after px
  chroma_is = ap (λ (l : Line). kept l (chroma_written s (weights_of s) f px chroma) chroma) passed

  tables : (first (settle_lines s) ≡ passes) × (first (frame_lines s f source (length luma) (length chroma)) ≡ passes)
  tables = parted (settle_lines s) (frame_lines s f source (length luma) (length chroma)) passed

  -- check's lines are convert's with refusal 6 in between, and a plane keeps its length
  unrefused : first (check_lines s f source (luma_after s f source luma chroma) (chroma_after s f source luma chroma)) ≡ passes
  unrefused =
      let y : length (luma_after s f source luma chroma) ≡ length luma = ap length luma_is ∙ length_plane _ _ _ luma _ in
      let c : length (chroma_after s f source luma chroma) ≡ length chroma = ap length chroma_is ∙ length_plane _ _ _ chroma _ in
      passed_on (settle_lines s) (custom_line s ∷ frame_lines s f source (length (luma_after s f source luma chroma)) (length (chroma_after s f source luma chroma)))
      tables.0
      ∙ (skipped _ _ _ (ap is_custom named) ∙ (λ i. first (frame_lines s f source (y i) (c i))) ∙ tables.1)

  -- what check says of what was left
  pub accepted : check s f source (luma_after s f source luma chroma) (chroma_after s f source luma chroma) ≡ given []
  unfolding px
  accepted =
      let g = ready s f source (length luma) (length chroma) tables.1 in
      let w = weighed s tables.0 in
      let low : (row column : ℕ) → row < f.height → column < f.width → Low (most s.depth) (px row column) = λ row column h l. (g.low.low row h).low column l in
      (accepted_iff s f source (luma_after s f source luma chroma) (chroma_after s f source luma chroma) k unrefused named).1 (
        subst (λ (y : List ℕ). Clean (luma_test s k f px y) f.width f.height) (sym luma_is)
            (luma_clean s k (weights_of s) named w f px low luma g.laid.luma),
        subst (λ (c : List ℕ). Clean (chroma_test s k f px c) (chroma_width s.subsampling f.width) (chroma_height s.subsampling f.height)) (sym chroma_is)
            (chroma_clean s k (weights_of s) named w f px low chroma g.laid.chroma),
      )
