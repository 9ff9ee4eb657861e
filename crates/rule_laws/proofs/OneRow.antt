-- Bt470_6 and Bt601 have one row of the table of matrices, so every service gives equal answers for them and writes equal planes. Assumes nothing.
use Prim.Native.Nat.{ℕ, zero, suc}
use mathlib.Core.Path.{◌≡◌, refl}
use mathlib.Core.List.{List, ◌++◌}
use lib.ListN.{length, take, drop}
use Rattle.rules.specs.declared.Settings.{Settings}
use Rattle.rules.specs.declared.Frame.{Frame}
use Rattle.rules.specs.declared.Weights.{Weights}
use Rattle.rules.specs.declared.Named.{Named}
use Rattle.rules.specs.declared.Pixel.{Pixel}
use Rattle.rules.specs.declared.Component.{Component}
use Rattle.rules.specs.declared.Component.TheVariants.{Y, Cb, Cr}
use Rattle.rules.specs.declared.YuvStandardMatrix.{YuvStandardMatrix}
use Rattle.rules.specs.declared.YuvStandardMatrix.TheVariants.{Bt601, Bt470_6}
use Rattle.rules.specs.declared.Matrix.{Matrix}
use Rattle.rules.specs.declared.Matrix.TheVariants.{Tabled, Own}
use Rattle.rules.specs.Matrices.{matrix_of}
use Rattle.rules.specs.Weights.{weights_of}
use Rattle.rules.specs.Blocks.{chroma_width, chroma_height}
use Rattle.rules.specs.PlaneSamples.{chroma_sample}
use Rattle.rules.specs.Planes.{element_at, written}
use Rattle.rules.specs.Refusals.{first}
use Rattle.rules.specs.Answers.{answer}
use Rattle.rules.specs.Search.{first_failing}
use Rattle.rules.specs.Settle.{settle, settle_lines, some_code_off}
use Rattle.rules.specs.Frames.{source_size, luma_size, chroma_size, shown}
use Rattle.rules.specs.Convert.{convert, verdict, kept, word_of, sample_word, luma_after, chroma_after}
use Rattle.rules.specs.Ring.{ring_lines, unless, one_then, in_turn, convert_ring}
use Rattle.rules.specs.Check.{right, luma_test, first_place, check_lines, judged_by, check}
use Rattle.rules.specs.Inverse.{inverse_weights_of}
use Rattle.rules.specs.ToRgb.{restored, to_rgb, rgb_after}

-- settings with another matrix
abbrev pub by : YuvStandardMatrix → Settings → Settings
by m s = record {
  depth = s.depth;
  precision = s.precision;
  matrix = m;
  range = s.range;
  subsampling = s.subsampling;
  order = s.order;
  packing = s.packing;
  endianness = s.endianness;
  channels = s.channels;
}

module _ (s : Settings) where
  pub settles : settle (by Bt470_6 s) ≡ settle (by Bt601 s)
  unfolding settle weights_of some_code_off
  settles = refl

  same_word : (w : Weights) (c : Component) (ps : List Pixel) →
      sample_word (by Bt470_6 s) w (record { component = c; pixels = ps }) ≡ sample_word (by Bt601 s) w (record { component = c; pixels = ps })
  unfolding sample_word word_of
  same_word w Y ps = refl
  same_word w Cb ps = refl
  same_word w Cr ps = refl

  same_test : (k : Named) (c : Component) (ps : List Pixel) (v : ℕ) →
      right (by Bt470_6 s) k (record { component = c; pixels = ps }) v ≡ right (by Bt601 s) k (record { component = c; pixels = ps }) v
  same_test k Y ps v = refl
  same_test k Cb ps v = refl
  same_test k Cr ps v = refl

  module _ (f : Frame) where
    module _ (source luma chroma : List ℕ) where
      pub converts : convert (by Bt470_6 s) f source luma chroma ≡ convert (by Bt601 s) f source luma chroma
      unfolding convert weights_of some_code_off
      converts = refl

      pub writes_luma : luma_after (by Bt470_6 s) f source luma chroma ≡ luma_after (by Bt601 s) f source luma chroma
      unfolding luma_after weights_of some_code_off sample_word word_of
      writes_luma = refl

      pub writes_chroma : chroma_after (by Bt470_6 s) f source luma chroma ≡ chroma_after (by Bt601 s) f source luma chroma
      unfolding chroma_after weights_of some_code_off
      writes_chroma = λ i.
          kept (verdict (by Bt601 s) f source luma chroma)
          (written f.chroma_stride (chroma_width s.subsampling f.width) (chroma_height s.subsampling f.height)
          (λ (row element : ℕ). let x = chroma_sample s f.width f.height (shown s f source) row element in same_word (weights_of (by Bt601 s)) x.component x.pixels i)
          chroma)
          chroma

      same_judgement : (m : Matrix) → judged_by m (by Bt470_6 s) f (shown s f source) luma chroma ≡ judged_by m (by Bt601 s) f (shown s f source) luma chroma
      same_judgement (Own p) = refl
      same_judgement (Tabled k) = λ i.
          first_place
          (first_failing (luma_test (by Bt601 s) k f (shown s f source) luma) f.width f.height)
          (first_failing
          (λ (row element : ℕ). let x = chroma_sample s f.width f.height (shown s f source) row element in same_test k x.component x.pixels (element_at f.chroma_stride chroma row element) i)
          (chroma_width s.subsampling f.width)
          (chroma_height s.subsampling f.height))

      pub checks : check (by Bt470_6 s) f source luma chroma ≡ check (by Bt601 s) f source luma chroma
      unfolding check weights_of some_code_off
      checks = λ i. answer (first (check_lines (by Bt601 s) f source luma chroma)) (same_judgement (matrix_of Bt601) i)

    in_turn_lem : (n : ℕ) (source luma chroma : List ℕ) → in_turn n (by Bt470_6 s) f source luma chroma ≡ in_turn n (by Bt601 s) f source luma chroma
    unfolding in_turn weights_of some_code_off
    in_turn_lem zero source luma chroma = refl
    in_turn_lem (suc n) source luma chroma =
        let x = take (source_size f) source in
        let y = take (luma_size f) luma in
        let z = take (chroma_size s f) chroma in
        λ i.
        unless (verdict (by Bt601 s) f x y z) luma chroma
        (one_then (writes_luma x y z i) (writes_chroma x y z i) (in_turn_lem n (drop (source_size f) source) (drop (luma_size f) luma) (drop (chroma_size s f) chroma) i))

    pub converts_ring : (count : ℕ) (source luma chroma : List ℕ) → convert_ring (by Bt470_6 s) f count source luma chroma ≡ convert_ring (by Bt601 s) f count source luma chroma
    unfolding convert_ring weights_of some_code_off
    converts_ring count source luma chroma = λ i.
        unless (first (settle_lines (by Bt601 s) ++ ring_lines s f count (length source) (length luma) (length chroma))) luma chroma (in_turn_lem count source luma chroma i)

    module _ (luma chroma rgb : List ℕ) where
      pub restores : to_rgb (by Bt470_6 s) f luma chroma rgb ≡ to_rgb (by Bt601 s) f luma chroma rgb
      unfolding to_rgb weights_of some_code_off
      restores = refl

      pub writes_rgb : rgb_after (by Bt470_6 s) f luma chroma rgb ≡ rgb_after (by Bt601 s) f luma chroma rgb
      unfolding rgb_after weights_of some_code_off inverse_weights_of restored
      writes_rgb = refl
