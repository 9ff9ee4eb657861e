-- The frames of a ring in turn: what a turn adds, and where the turns end. Assumes nothing.
use Rattle.std.proofs.Common.{Ok, Err}
use mathlib.Core.Path.{◌≡◌, refl, sym, ap, ◌∙◌, subst⁻¹}
use mathlib.Core.Bool.{true, false, true≢false}
use mathlib.Core.List.{List, [], ◌++◌, append_assoc}
use Prim.Native.Nat.{ℕ, suc, ◌+◌, ◌-◌, ◌*◌, ◌≤◌, ◌<◌}
use native.Mathlib.Nat.{zero-mul}
use native.Mathlib.Omega.{arith}
use lib.ListN.{length, take, drop, take-append-drop}
use Rattle.rules.specs.declared.Settings.{Settings}
use Rattle.rules.specs.declared.Frame.{Frame}
use Rattle.rules.specs.declared.Ringed.{Ringed}
use Rattle.rules.specs.declared.Refusal.{Refusal}
use Rattle.rules.specs.Refusals.{Line, passes, refuses, line_of, Verdict}
use Rattle.rules.specs.Frames.{source_size, luma_size, chroma_size}
use Rattle.rules.specs.Convert.{verdict, luma_after, chroma_after}
use Rattle.rules.specs.Ring.{Outcome, untouched, one_then, unless, in_turn}
use Rattle.plane_laws.specs.Parts.{part, put_part}
use Rattle.plane_laws.proofs.Planes.{length_put}
use Rattle.ring_parts.specs.Parts.{Turns}
use Rattle.ring_parts.proofs.Frames.{luma_long, chroma_long, luma_kept, chroma_kept}
use Rattle.ring_parts.proofs.Parts.{drop_next, put_same, length_part, take_put, drop_put}
use Rattle.ring.specs.RingAnswers.{refusing, ringed}
use Rattle.ring.specs.Outcomes.{ComesTo}

-- ---- frames that were written before an outcome

abbrev pub resumed : ℕ → List ℕ → List ℕ → Outcome → Outcome
resumed i luma chroma o = record {
  answer = record { written = i + o.answer.written; ended = o.answer.ended };
  luma = luma ++ o.luma;
  chroma = chroma ++ o.chroma;
}

outcome : {w w' : ℕ} {e e' : Line} {l l' c c' : List ℕ} → w ≡ w' → e ≡ e' → l ≡ l' → c ≡ c'
    → ◌≡◌ {A = Outcome} (record { answer = record { written = w; ended = e }; luma = l; chroma = c }) (record { answer = record { written = w'; ended = e' }; luma = l'; chroma = c' })
outcome w e l c = λ i. record { answer = record { written = w i; ended = e i }; luma = l i; chroma = c i }

resumed_one : (i : ℕ) (l c y z : List ℕ) (o : Outcome) → resumed i l c (one_then y z o) ≡ resumed (i + 1) (l ++ y) (c ++ z) o
resumed_one i l c y z o = outcome (omega arith) refl (sym (append_assoc l y o.luma)) (sym (append_assoc c z o.chroma))

-- ---- what ends it, by the line of a verdict

pub goes_on : (l : Line) → refusing l ≡ false → l ≡ passes
goes_on passes h = refl
goes_on (refuses n v) h = absurd (true≢false h)

module _ (l : Line) (h : refusing l ≡ true) where
  pub ends_here : (luma chroma : List ℕ) (on : Outcome) → unless l luma chroma on ≡ untouched l luma chroma
  ends_here luma chroma on = by l h
    where
      by : (k : Line) → refusing k ≡ true → unless k luma chroma on ≡ untouched k luma chroma
      by passes e = absurd (true≢false (sym e))
      by (refuses n v) e = refl

  kept_as : (s : Settings) (f : Frame) (x y z : List ℕ) → verdict s f x y z ≡ l → (luma_after s f x y z ≡ y) × (chroma_after s f x y z ≡ z)
  kept_as s f x y z e = by l e h
    where
      by : (k : Line) → verdict s f x y z ≡ k → refusing k ≡ true → (luma_after s f x y z ≡ y) × (chroma_after s f x y z ≡ z)
      by passes d q = absurd (true≢false (sym q))
      by (refuses n v) d q = (luma_kept s f x y z d, chroma_kept s f x y z d)

-- a verdict that is no refusal passes
pub passing : (r : Verdict) → ((q : Refusal) → r ≡ Err q → ⊥) → refusing (line_of r) ≡ false
passing (Ok u) h = refl
passing (Err q) h = absurd (h q refl)

-- an answer by another name
pub named : {o : Outcome} {r q : Ringed} {l c : List ℕ} → r ≡ q → ComesTo o q l c → ComesTo o r l c
named {o} {r} {q} {l} {c} e h = subst⁻¹ (λ (x : Ringed). ComesTo o x l c) e h

-- ---- the turns: the first i frames are written, and what comes of the ring is what comes of the others, after them
pub record Turned (s : Settings) (f : Frame) (count : ℕ) (source luma₀ chroma₀ : List ℕ) (i : ℕ) (luma chroma : List ℕ) : Type 0 where
  pub within : i ≤ count
  pub luma_same : length luma ≡ length luma₀
  pub chroma_same : length chroma ≡ length chroma₀
  pub rest : in_turn count s f source luma₀ chroma₀ ≡ resumed i (take (i * luma_size f) luma) (take (i * chroma_size s f) chroma) (in_turn (count - i) s f (drop (i * source_size f) source) (drop (i * luma_size f) luma) (drop (i * chroma_size s f) chroma))

module _ (s : Settings) (f : Frame) (count : ℕ) (source luma₀ chroma₀ : List ℕ) where
  abbrev From : ℕ → ℕ → ℕ → ℕ → List ℕ → List ℕ → Outcome
  From n a b c luma chroma = in_turn n s f (drop a source) (drop b luma) (drop c chroma)

  pub none_yet : Turned s f count source luma₀ chroma₀ 0 luma₀ chroma₀
  none_yet = record {
    within = omega arith;
    luma_same = refl;
    chroma_same = refl;
    rest = first ∙ sym (λ i. resumed 0 (take (zero-mul (luma_size f) i) luma₀) (take (zero-mul (chroma_size s f) i) chroma₀) (From (count - 0) (zero-mul (source_size f) i) (zero-mul (luma_size f) i) (zero-mul (chroma_size s f) i) luma₀ chroma₀));
  }
    where
      first : in_turn count s f source luma₀ chroma₀ ≡ resumed 0 [] [] (in_turn (count - 0) s f source luma₀ chroma₀)
      first = let e : count ≡ count - 0 = omega arith in let o = in_turn (count - 0) s f source luma₀ chroma₀ in
          ap (λ (n : ℕ). in_turn n s f source luma₀ chroma₀) e ∙ outcome {w = o.answer.written} (omega arith) refl refl refl

  module _ (i : ℕ) (luma chroma : List ℕ) (t : Turned s f count source luma₀ chroma₀ i luma chroma) where
    abbrev x : List ℕ
    x = part (source_size f) i source

    abbrev y : List ℕ
    y = part (luma_size f) i luma

    abbrev z : List ℕ
    z = part (chroma_size s f) i chroma

    -- where frame i is written
    abbrev written_on : Outcome
    written_on =
        one_then (luma_after s f x y z) (chroma_after s f x y z)
        (in_turn (count - (i + 1)) s f (drop (source_size f) (drop (i * source_size f) source)) (drop (luma_size f) (drop (i * luma_size f) luma)) (drop (chroma_size s f) (drop (i * chroma_size s f) chroma)))

    -- what comes of frame i and those after it, by convert's verdict on frame i
    turn : i < count → (l : Line) → verdict s f x y z ≡ l
        → From (count - i) (i * source_size f) (i * luma_size f) (i * chroma_size s f) luma chroma
        ≡ unless l (drop (i * luma_size f) luma) (drop (i * chroma_size s f) chroma) written_on
    unfolding in_turn
    turn b l e =
        let k : count - i ≡ suc (count - (i + 1)) = omega arith in
        ap (λ (n : ℕ). From n (i * source_size f) (i * luma_size f) (i * chroma_size s f) luma chroma) k
        ∙ ap (λ (m : Line). unless m (drop (i * luma_size f) luma) (drop (i * chroma_size s f) chroma) written_on) e

    -- nothing more is written: the planes are what they are now
    ends : (l : Line) → From (count - i) (i * source_size f) (i * luma_size f) (i * chroma_size s f) luma chroma ≡ untouched l (drop (i * luma_size f) luma) (drop (i * chroma_size s f) chroma)
        → in_turn count s f source luma₀ chroma₀ ≡ record { answer = record { written = i; ended = l }; luma = luma; chroma = chroma }
    ends l e =
        t.rest
        ∙ ap (resumed i (take (i * luma_size f) luma) (take (i * chroma_size s f) chroma)) e
        ∙ outcome (omega arith) refl (take-append-drop (i * luma_size f) luma) (take-append-drop (i * chroma_size s f) chroma)

    -- every frame is written
    pub all_written : i ≡ count → ComesTo (in_turn count s f source luma₀ chroma₀) (ringed i (Ok tt)) luma chroma
    unfolding in_turn
    all_written h =
        let k : count - i ≡ 0 = omega arith in
        let e = ends passes (ap (λ (n : ℕ). From n (i * source_size f) (i * luma_size f) (i * chroma_size s f) luma chroma) k) in
        record { answer_is = sym (ap (λ (o : Outcome). o.answer) e); luma_is = sym (ap (λ (o : Outcome). o.luma) e); chroma_is = sym (ap (λ (o : Outcome). o.chroma) e) }

    module _ (b : i < count) (r : Verdict) (luma' chroma' : List ℕ) (h : Turns s f i source luma chroma r luma' chroma') where
      -- frame i is refused: it and all after it are as they were
      pub refused_here : refusing (line_of r) ≡ true → ComesTo (in_turn count s f source luma₀ chroma₀) (ringed i r) luma' chroma'
      refused_here e =
          let k = kept_as (line_of r) e s f x y z (sym h.verdict_is) in
          let o = ends (line_of r) (turn b (line_of r) (sym h.verdict_is) ∙ ends_here (line_of r) e _ _ written_on) in
          record {
            answer_is = sym (ap (λ (o : Outcome). o.answer) o);
            luma_is = h.luma_is ∙ ap (put_part (luma_size f) i luma) k.0 ∙ put_same (luma_size f) i luma ∙ sym (ap (λ (o : Outcome). o.luma) o);
            chroma_is = h.chroma_is ∙ ap (put_part (chroma_size s f) i chroma) k.1 ∙ put_same (chroma_size s f) i chroma ∙ sym (ap (λ (o : Outcome). o.chroma) o);
          }

      -- frame i is written
      pub one_more : (l : i * luma_size f + luma_size f ≤ length luma) → (c : i * chroma_size s f + chroma_size s f ≤ length chroma) → refusing (line_of r) ≡ false → Turned s f count source luma₀ chroma₀ (i + 1) luma' chroma'
      one_more l c e =
          let v = sym h.verdict_is ∙ goes_on (line_of r) e in
          let m = luma_long s f x y z ∙ length_part (luma_size f) i luma l in
          let n = chroma_long s f x y z ∙ length_part (chroma_size s f) i chroma c in
          record {
            within = omega arith;
            luma_same = ap length h.luma_is ∙ length_put luma (i * luma_size f) (luma_after s f x y z) (luma_size f) m l ∙ t.luma_same;
            chroma_same = ap length h.chroma_is ∙ length_put chroma (i * chroma_size s f) (chroma_after s f x y z) (chroma_size s f) n c ∙ t.chroma_same;
            rest = t.rest
                ∙ ap (resumed i (take (i * luma_size f) luma) (take (i * chroma_size s f) chroma)) (turn b passes v)
                ∙ resumed_one i (take (i * luma_size f) luma) (take (i * chroma_size s f) chroma) (luma_after s f x y z) (chroma_after s f x y z) _
                ∙ sym (λ j. resumed (i + 1)
                ((ap (take ((i + 1) * luma_size f)) h.luma_is ∙ take_put (luma_size f) i luma l (luma_after s f x y z) m) j)
                ((ap (take ((i + 1) * chroma_size s f)) h.chroma_is ∙ take_put (chroma_size s f) i chroma c (chroma_after s f x y z) n) j)
                (in_turn (count - (i + 1)) s f
                (drop_next (source_size f) i source j)
                ((ap (drop ((i + 1) * luma_size f)) h.luma_is ∙ drop_put (luma_size f) i luma l (luma_after s f x y z) m) j)
                ((ap (drop ((i + 1) * chroma_size s f)) h.chroma_is ∙ drop_put (chroma_size s f) i chroma c (chroma_after s f x y z) n) j)));
          }
