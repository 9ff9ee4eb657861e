-- What convert is to answer and to leave in the planes, by settle's answer and the frame's lines. Assumes nothing.
use mathlib.Core.Path.{◌≡◌, sym, ap, ◌∙◌}
use mathlib.Core.List.{List, []}
use Prim.Native.Nat.{ℕ}
use lib.IntN.{ℤ}
use lib.ListN.{length}
use Rattle.rules.specs.declared.Settings.{Settings}
use Rattle.rules.specs.declared.Weights.{Weights}
use Rattle.rules.specs.declared.Frame.{Frame}
use Rattle.rules.specs.declared.Refusal.{Refusal}
use Rattle.rules.specs.Weights.{weights_of}
use Rattle.rules.specs.Refusals.{number_of, values_of, Line, passes, refuses}
use Rattle.rules.specs.Answers.{Answer, given, refused, answer, weight_values}
use Rattle.rules.specs.Settle.{settle_lines, settle}
use Rattle.rules.specs.Frames.{shown, frame_lines, frame_line}
use Rattle.rules.specs.Convert.{kept, verdict, luma_written, chroma_written, convert, luma_after, chroma_after}
use Rattle.rule_laws.proofs.Refusals.{passed_on, refused_before}
use Rattle.rule_laws.proofs.Settling.{weighed_passes, refused_refuses}

-- ---- the whole outcome

module _ (s : Settings) (f : Frame) (source luma chroma : List ℕ) where
  abbrev luma_by : Weights → List ℕ
  luma_by w = luma_written s w f (shown s f source) luma

  abbrev chroma_by : Weights → List ℕ
  chroma_by w = chroma_written s w f (shown s f source) chroma

  abbrev framed : Line
  framed = frame_line s f source luma chroma

  -- by what its table comes to, whatever the settings
  by_line : (l : Line) → verdict s f source luma chroma ≡ l
      → (answer l (given []) ≡ convert s f source luma chroma) × ((kept l (luma_by (weights_of s)) luma ≡ luma_after s f source luma chroma) × (kept l (chroma_by (weights_of s)) chroma ≡ chroma_after s f source luma chroma))
  unfolding convert luma_after chroma_after
  by_line l e = (sym (ap (λ (k : Line). answer k (given [])) e), (sym (ap (λ (k : Line). kept k (luma_by (weights_of s)) luma) e), sym (ap (λ (k : Line). kept k (chroma_by (weights_of s)) chroma) e)))

  -- settle refuses
  pub refused_settings : (n : ℕ) (v : List ℤ) → refused n v ≡ settle s
      → (refused n v ≡ convert s f source luma chroma) × ((luma ≡ luma_after s f source luma chroma) × (chroma ≡ chroma_after s f source luma chroma))
  refused_settings n v e = by_line (refuses n v) (refused_before (settle_lines s) (frame_lines s f source (length luma) (length chroma)) (refused_refuses s n v e))

  -- settle hands out weights: the frame's lines decide
  pub weighed : (w : Weights) → given (weight_values w) ≡ settle s → {x : Line} {l c : List ℕ} → x ≡ framed → l ≡ kept framed (luma_by w) luma → c ≡ kept framed (chroma_by w) chroma
      → (x ≡ verdict s f source luma chroma) × ((l ≡ luma_after s f source luma chroma) × (c ≡ chroma_after s f source luma chroma))
  weighed w e p q r =
      let o = weighed_passes s w e in
      let h = passed_on (settle_lines s) (frame_lines s f source (length luma) (length chroma)) o.0 in
      let g = by_line framed h in
      (p ∙ sym h, (q ∙ ap (λ (x : Weights). kept framed (luma_by x) luma) (sym o.1) ∙ g.1.0, r ∙ ap (λ (x : Weights). kept framed (chroma_by x) chroma) (sym o.1) ∙ g.1.1))

  -- they refuse: both planes are as they were
  pub refused_frame : (w : Weights) → given (weight_values w) ≡ settle s → (r : Refusal) → refuses (number_of r) (values_of r) ≡ framed
      → (refuses (number_of r) (values_of r) ≡ verdict s f source luma chroma) × ((luma ≡ luma_after s f source luma chroma) × (chroma ≡ chroma_after s f source luma chroma))
  refused_frame w e r h = weighed w e h (ap (λ (k : Line). kept k (luma_by w) luma) h) (ap (λ (k : Line). kept k (chroma_by w) chroma) h)

  -- they pass: both planes are written
  pub passed_frame : (w : Weights) → given (weight_values w) ≡ settle s → passes ≡ framed → {l c : List ℕ} → l ≡ luma_by w → c ≡ chroma_by w
      → (passes ≡ verdict s f source luma chroma) × ((l ≡ luma_after s f source luma chroma) × (c ≡ chroma_after s f source luma chroma))
  passed_frame w e h q r = weighed w e h (q ∙ ap (λ (k : Line). kept k (luma_by w) luma) h) (r ∙ ap (λ (k : Line). kept k (chroma_by w) chroma) h)

  -- the answer that a verdict stands for
  pub answered : {a : Answer} {l : Line} → a ≡ answer l (given []) → l ≡ verdict s f source luma chroma → a ≡ convert s f source luma chroma
  unfolding convert
  answered p e = p ∙ ap (λ (k : Line). answer k (given [])) e
