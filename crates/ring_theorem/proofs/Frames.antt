-- Frames converted one after the other: each that is written, and all that are not. Assumes nothing.
use mathlib.Core.Path.{◌≡◌, refl, sym, ap, ◌∙◌}
use mathlib.Core.List.{List, [], ◌++◌}
use Prim.Native.Nat.{ℕ, zero, suc, ◌*◌, ◌<◌}
use native.Mathlib.Nat.{add_comm, zero-mul, suc-mul, not-suc-le-zero, le_of_suc-le-suc}
use native.Mathlib.Omega.{arith}
use lib.IntN.{ℤ}
use lib.ListN.{length, take, drop, length-drop}
use lib.Seq.{length-take-le, take_at, drop_at, drop-drop}
use Rattle.rules.specs.declared.Settings.{Settings}
use Rattle.rules.specs.declared.Frame.{Frame}
use Rattle.rules.specs.Refusals.{Line, passes, refuses}
use Rattle.rules.specs.Answers.{given, answer}
use Rattle.rules.specs.Frames.{source_size, luma_size, chroma_size}
use Rattle.rules.specs.Convert.{verdict, convert, luma_after, chroma_after}
use Rattle.rules.specs.Ring.{Outcome, untouched, one_then, unless, in_turn}
use Rattle.plane_laws.specs.Parts.{part}
use Rattle.ring_parts.proofs.Frames.{luma_long, chroma_long}
use Rattle.ring_theorem.specs.Rings.{ConvertedTo, Written, Accounted, StoppedBy}

-- ---- parts of a buffer, counted from the next one on
module _ (size : ℕ) where
  pub part_first : (xs : List ℕ) → part size 0 xs ≡ take size xs
  part_first xs = ap (λ (n : ℕ). take size (drop n xs)) (zero-mul size)

  drop_first : (xs : List ℕ) → drop (0 * size) xs ≡ xs
  drop_first xs = ap (λ (n : ℕ). drop n xs) (zero-mul size)

  drop_later : (i : ℕ) (xs : List ℕ) → drop (suc i * size) xs ≡ drop (i * size) (drop size xs)
  drop_later i xs = ap (λ (n : ℕ). drop n xs) (suc-mul i size ∙ add_comm (i * size) size) ∙ sym (drop-drop (i * size) size xs)

  pub part_later : (i : ℕ) (xs : List ℕ) → part size (suc i) xs ≡ part size i (drop size xs)
  part_later i xs = ap (take size) (drop_later i xs)

  -- after a part as long as the others
  module _ (ys rest : List ℕ) (h : length ys ≡ size) where
    part_here : part size 0 (ys ++ rest) ≡ ys
    part_here = part_first (ys ++ rest) ∙ take_at ys rest size h

    part_on : (i : ℕ) → part size (suc i) (ys ++ rest) ≡ part size i rest
    part_on i = part_later i (ys ++ rest) ∙ ap (part size i) (drop_at ys rest size h)

    drop_on : (i : ℕ) → drop (suc i * size) (ys ++ rest) ≡ drop (i * size) rest
    drop_on i = drop_later i (ys ++ rest) ∙ ap (drop (i * size)) (drop_at ys rest size h)

  -- a buffer of n + 1 parts has a first one, and n after it
  module _ (n : ℕ) (xs : List ℕ) (h : length xs ≡ suc n * size) where
    long_first : length (take size xs) ≡ size
    long_first = length-take-le size xs (omega (arith, h, suc-mul n size))

    long_rest : length (drop size xs) ≡ n * size
    long_rest = length-drop size xs ∙ omega (arith, h, suc-mul n size)

-- ---- the turns
module _ (s : Settings) (f : Frame) where
  -- the same parts by other names
  alike : {x x' y y' z z' l l' c c' : List ℕ} → x' ≡ x → y' ≡ y → z' ≡ z → l' ≡ l → c' ≡ c → ConvertedTo s f x y z l c → ConvertedTo s f x' y' z' l' c'
  alike p q r u v d = record {
    done = (λ j. convert s f (p j) (q j) (r j)) ∙ d.done;
    luma_is = u ∙ d.luma_is ∙ sym (λ j. luma_after s f (p j) (q j) (r j));
    chroma_is = v ∙ d.chroma_is ∙ sym (λ j. chroma_after s f (p j) (q j) (r j));
  }

  taken : (x y z : List ℕ) → verdict s f x y z ≡ passes → ConvertedTo s f x y z (luma_after s f x y z) (chroma_after s f x y z)
  unfolding convert
  taken x y z e = record { done = ap (λ (l : Line). answer l (given [])) e; luma_is = refl; chroma_is = refl }

  abbrev Both : ℕ → List ℕ → List ℕ → List ℕ → Outcome → Type 0
  Both n source luma chroma o = Accounted s f n source luma chroma o × StoppedBy s f n source luma chroma o.answer

  -- the first of n + 1 frames
  module _ (n : ℕ) (source luma chroma : List ℕ) where
    abbrev x : List ℕ
    x = take (source_size f) source

    abbrev y : List ℕ
    y = take (luma_size f) luma

    abbrev z : List ℕ
    z = take (chroma_size s f) chroma

    -- it is refused
    stops : (k : ℕ) (v : List ℤ) → verdict s f x y z ≡ refuses k v → Both (suc n) source luma chroma (untouched (refuses k v) luma chroma)
    stops k v e = (
      record {
        frames = λ i h. absurd (not-suc-le-zero h);
        luma_kept = refl;
        chroma_kept = refl;
        finished = λ h. absurd (let q : ◌≡◌ {A = ℕ} 0 1 = cc in omega arith);
      },
      λ h. sym e ∙ sym (λ j. verdict s f (part_first (source_size f) source j) (part_first (luma_size f) luma j) (part_first (chroma_size s f) chroma j)),
    )

    -- it is written, and so comes what comes of the others
    goes_on : length luma ≡ suc n * luma_size f → length chroma ≡ suc n * chroma_size s f → verdict s f x y z ≡ passes
        → (o : Outcome) → Both n (drop (source_size f) source) (drop (luma_size f) luma) (drop (chroma_size s f) chroma) o
        → Both (suc n) source luma chroma (one_then (luma_after s f x y z) (chroma_after s f x y z) o)
    goes_on hl hc e o (t, u) = (
      record {
        frames = frame;
        luma_kept = drop_on (luma_size f) (luma_after s f x y z) o.luma ly o.answer.written ∙ t.luma_kept ∙ sym (drop_later (luma_size f) o.answer.written luma);
        chroma_kept = drop_on (chroma_size s f) (chroma_after s f x y z) o.chroma lz o.answer.written ∙ t.chroma_kept ∙ sym (drop_later (chroma_size s f) o.answer.written chroma);
        finished = λ h. ap suc (t.finished h);
      },
      λ h. u (le_of_suc-le-suc h) ∙ sym (λ j. verdict s f (part_later (source_size f) o.answer.written source j) (part_later (luma_size f) o.answer.written luma j) (part_later (chroma_size s f) o.answer.written chroma j)),
    )
      where
        ly : length (luma_after s f x y z) ≡ luma_size f
        ly = luma_long s f x y z ∙ long_first (luma_size f) n luma hl

        lz : length (chroma_after s f x y z) ≡ chroma_size s f
        lz = chroma_long s f x y z ∙ long_first (chroma_size s f) n chroma hc

        frame : (i : ℕ) → i < suc o.answer.written → Written s f source luma chroma i (luma_after s f x y z ++ o.luma) (chroma_after s f x y z ++ o.chroma)
        frame zero h =
            alike (part_first (source_size f) source) (part_first (luma_size f) luma) (part_first (chroma_size s f) chroma)
            (part_here (luma_size f) (luma_after s f x y z) o.luma ly) (part_here (chroma_size s f) (chroma_after s f x y z) o.chroma lz) (taken x y z e)
        frame (suc i) h =
            alike (part_later (source_size f) i source) (part_later (luma_size f) i luma) (part_later (chroma_size s f) i chroma)
            (part_on (luma_size f) (luma_after s f x y z) o.luma ly i) (part_on (chroma_size s f) (chroma_after s f x y z) o.chroma lz i) (t.frames i (le_of_suc-le-suc h))

    first_then : length luma ≡ suc n * luma_size f → length chroma ≡ suc n * chroma_size s f
        → (o : Outcome) → Both n (drop (source_size f) source) (drop (luma_size f) luma) (drop (chroma_size s f) chroma) o
        → (l : Line) → verdict s f x y z ≡ l → Both (suc n) source luma chroma (unless l luma chroma (one_then (luma_after s f x y z) (chroma_after s f x y z) o))
    first_then hl hc o t passes e = goes_on hl hc e o t
    first_then hl hc o t (refuses k v) e = stops k v e

  pub in_turn_lem : (n : ℕ) (source luma chroma : List ℕ) → length luma ≡ n * luma_size f → length chroma ≡ n * chroma_size s f → Both n source luma chroma (in_turn n s f source luma chroma)
  unfolding in_turn
  in_turn_lem zero source luma chroma hl hc = (
    record { frames = λ i h. absurd (not-suc-le-zero h); luma_kept = refl; chroma_kept = refl; finished = λ e. refl },
    λ h. absurd (not-suc-le-zero h),
  )
  in_turn_lem (suc n) source luma chroma hl hc =
      first_then n source luma chroma hl hc _
      (in_turn_lem n (drop (source_size f) source) (drop (luma_size f) luma) (drop (chroma_size s f) chroma) (long_rest (luma_size f) n luma hl) (long_rest (chroma_size s f) n chroma hc))
      (verdict s f (take (source_size f) source) (take (luma_size f) luma) (take (chroma_size s f) chroma)) refl
