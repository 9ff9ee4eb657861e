-- The parts of a frame as they are lent, from a start to an end, are its parts by number. Assumes nothing.
use mathlib.Core.Path.{◌≡◌, ap, ◌∙◌}
use mathlib.Core.List.{List}
use Prim.Native.Nat.{ℕ, ◌+◌, ◌-◌, ◌*◌}
use native.Mathlib.Nat.{add-sub_cancel_left}
use lib.ListN.{take, drop}
use Rattle.rules.specs.declared.Settings.{Settings}
use Rattle.rules.specs.declared.Frame.{Frame}
use Rattle.rules.specs.Refusals.{line_of, Verdict}
use Rattle.rules.specs.Frames.{source_size, luma_size, chroma_size}
use Rattle.rules.specs.Convert.{verdict, luma_after, chroma_after}
use Rattle.plane_laws.specs.Parts.{put, part, put_part}
use Rattle.ring_parts.specs.Parts.{Turns}

module _ (i : ℕ) where
  -- the elements from i·r on, up to i·r + r
  abbrev lent : ℕ → List ℕ → List ℕ
  lent r xs = take (i * r + r - i * r) (drop (i * r) xs)

  abbrev back : ℕ → List ℕ → List ℕ → List ℕ
  back r xs ys = put xs (i * r) ys (i * r + r - i * r)

  module _ {r size : ℕ} (e : r ≡ size) (xs : List ℕ) where
    lent_is : lent r xs ≡ part size i xs
    lent_is = ap (λ (n : ℕ). take n (drop (i * r) xs)) (add-sub_cancel_left (i * r) r) ∙ ap (λ (n : ℕ). part n i xs) e

    back_is : {ys zs : List ℕ} → ys ≡ zs → back r xs ys ≡ put_part size i xs zs
    back_is {ys} h = ap (λ (n : ℕ). put xs (i * r) ys n) (add-sub_cancel_left (i * r) r) ∙ ap (λ (n : ℕ). put_part n i xs ys) e ∙ ap (put_part size i xs) h

  -- convert's outcome for the parts that were lent
  pub turned : (s : Settings) (f : Frame) (source luma chroma : List ℕ) {a b c : ℕ} → a ≡ source_size f → b ≡ luma_size f → c ≡ chroma_size s f → (r : Verdict) {l m : List ℕ}
      → line_of r ≡ verdict s f (lent a source) (lent b luma) (lent c chroma)
      → l ≡ luma_after s f (lent a source) (lent b luma) (lent c chroma)
      → m ≡ chroma_after s f (lent a source) (lent b luma) (lent c chroma)
      → Turns s f i source luma chroma r (back b luma l) (back c chroma m)
  turned s f source luma chroma ea eb ec r p q t =
      let x = lent_is ea source in
      let y = lent_is eb luma in
      let z = lent_is ec chroma in
      record {
        verdict_is = p ∙ (λ j. verdict s f (x j) (y j) (z j));
        luma_is = back_is eb luma (q ∙ (λ j. luma_after s f (x j) (y j) (z j)));
        chroma_is = back_is ec chroma (t ∙ (λ j. chroma_after s f (x j) (y j) (z j)));
      }
