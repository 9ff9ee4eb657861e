-- THE THEOREMS of check's promise: it admits one answer for any input; it accepts exactly when no visible sample is wrong, names a
-- sample exactly when it is the first wrong one, and refuses exactly when a line of its table does. Assumes nothing.
use Rattle.std.proofs.Common.{None, Some}
use mathlib.Core.Path.{◌≡◌, refl, sym, ap, ◌∙◌}
use mathlib.Core.Bool.{false, true≢false}
use mathlib.Core.List.{List, []}
use mathlib.Core.Logic.{◌↔◌}
use Prim.Native.Nat.{ℕ}
use native.Mathlib.Omega.{arith}
use lib.IntN.{ℤ, nat_abs, pos}
use lib.ListN.{length, get_or}
use Rattle.rules.specs.declared.Settings.{Settings}
use Rattle.rules.specs.declared.Frame.{Frame}
use Rattle.rules.specs.declared.Named.{Named}
use Rattle.rules.specs.declared.Matrix.{Matrix}
use Rattle.rules.specs.declared.Matrix.TheVariants.{Tabled, Own}
use Rattle.rules.specs.Matrices.{matrix_of}
use Rattle.rules.specs.Blocks.{chroma_width, chroma_height}
use Rattle.rules.specs.Refusals.{place_values, Line, passes, refuses, first}
use Rattle.rules.specs.Search.{Clean, FirstWrong, first_failing, Search, found_at}
use Rattle.rules.specs.Answers.{Answer, given, refused, answer, checked_answer, Checked}
use Rattle.rules.specs.Settle.{settle_lines}
use Rattle.rules.specs.Frames.{shown}
use Rattle.rules.specs.Check.{luma_test, chroma_test, is_custom, check_lines, first_place, judged, judged_by, judgement, check}
use Rattle.rule_laws.proofs.Refusals.{parted, passed_by}
use Rattle.rule_laws.proofs.Answers.{one_checked}
use Rattle.plane_laws.proofs.Searches.{clean_none, none_clean, first_found, found_wrong}
use Rattle.check_laws.proofs.Joined.{by_row, luma_wrong, chroma_wrong, both_right}

-- ---- the answers that two searches come to

-- a value of an answer
value_in : ℕ → Answer → ℕ
value_in n (given v) = nat_abs (get_or v n (pos 0))
value_in n (refused m v) = 0

how_many : Answer → ℕ
how_many (given v) = length v
how_many (refused n v) = 0

module _ (y c : Search) where
  nothing_named : first_place y c ≡ given [] → (y ≡ None) × (c ≡ None)
  unfolding how_many
  nothing_named e = go y c (ap how_many e)
    where
      go : (y c : Search) → how_many (first_place y c) ≡ 0 → (y ≡ None) × (c ≡ None)
      go None None e = (refl, refl)
      go None (Some p) e = absurd (omega arith)
      go (Some p) c e = absurd (omega arith)

  luma_named : (row element : ℕ) → first_place y c ≡ given (place_values 0 row element) → y ≡ found_at row element
  unfolding how_many value_in
  luma_named row element e = go y c (ap how_many e) (ap (value_in 0) e) (ap (value_in 1) e) (ap (value_in 2) e)
    where
      go : (y c : Search) → how_many (first_place y c) ≡ 3 → value_in 0 (first_place y c) ≡ 0 → value_in 1 (first_place y c) ≡ row → value_in 2 (first_place y c) ≡ element → y ≡ found_at row element
      go None None n p r x = absurd (omega arith)
      go None (Some q) n p r x = absurd (omega arith)
      go (Some q) c n p r x = λ i. found_at (r i) (x i)

  chroma_named : (row element : ℕ) → first_place y c ≡ given (place_values 1 row element) → (y ≡ None) × (c ≡ found_at row element)
  unfolding how_many value_in
  chroma_named row element e = go y c (ap how_many e) (ap (value_in 0) e) (ap (value_in 1) e) (ap (value_in 2) e)
    where
      go : (y c : Search) → how_many (first_place y c) ≡ 3 → value_in 0 (first_place y c) ≡ 1 → value_in 1 (first_place y c) ≡ row → value_in 2 (first_place y c) ≡ element → (y ≡ None) × (c ≡ found_at row element)
      go None None n p r x = absurd (omega arith)
      go None (Some q) n p r x = (refl, λ i. found_at (r i) (x i))
      go (Some q) c n p r x = absurd (omega arith)

-- ---- where no refusal applies

module _ (s : Settings) (f : Frame) (source luma chroma : List ℕ) where
  -- THE THEOREM: any two answers that check's promise admits are equal
  pub one_answer : (r q : Checked) → checked_answer r ≡ check s f source luma chroma → checked_answer q ≡ check s f source luma chroma → r ≡ q
  one_answer r q a b = one_checked r q (a ∙ sym b)

  module _ (k : Named) (e : first (check_lines s f source luma chroma) ≡ passes) (n : matrix_of s.matrix ≡ Tabled k) where
    -- the answer is what the planes are judged
    pub where_passed : check s f source luma chroma ≡ judged s k f (shown s f source) luma chroma
    unfolding check
    where_passed = ap (λ (l : Line). answer l (judgement s f source luma chroma)) e ∙ sym (by_row s f source luma chroma k n)

    abbrev CleanLuma : Type 0
    CleanLuma = Clean (luma_test s k f (shown s f source) luma) f.width f.height

    abbrev CleanChroma : Type 0
    CleanChroma = Clean (chroma_test s k f (shown s f source) chroma) (chroma_width s.subsampling f.width) (chroma_height s.subsampling f.height)

    abbrev in_luma : Search
    in_luma = first_failing (luma_test s k f (shown s f source) luma) f.width f.height

    abbrev in_chroma : Search
    in_chroma = first_failing (chroma_test s k f (shown s f source) chroma) (chroma_width s.subsampling f.width) (chroma_height s.subsampling f.height)

    -- THE THEOREM: accepting is the same as that no visible sample of either plane is wrong
    pub accepted_iff : (check s f source luma chroma ≡ given []) ↔ (CleanLuma × CleanChroma)
    accepted_iff = (
      λ a. let b = nothing_named in_luma in_chroma (sym where_passed ∙ a) in (none_clean _ _ _ b.0, none_clean _ _ _ b.1),
      λ b. where_passed ∙ sym (both_right (clean_none _ _ _ b.0) (clean_none _ _ _ b.1)),
    )

    -- a sample of luma is named exactly when it is the first wrong one
    pub luma_wrong_iff : (row element : ℕ) → (check s f source luma chroma ≡ given (place_values 0 row element))
        ↔ FirstWrong (luma_test s k f (shown s f source) luma) f.width f.height row element
    luma_wrong_iff row element = (
      λ a. found_wrong _ _ _ _ _ (luma_named in_luma in_chroma row element (sym where_passed ∙ a)),
      λ w. where_passed ∙ sym (luma_wrong in_chroma (first_found _ _ _ _ _ w)),
    )

    -- a sample of chroma is named exactly when luma is clean and it is chroma's first wrong one
    pub chroma_wrong_iff : (row element : ℕ) → (check s f source luma chroma ≡ given (place_values 1 row element))
        ↔ (CleanLuma × FirstWrong (chroma_test s k f (shown s f source) chroma) (chroma_width s.subsampling f.width) (chroma_height s.subsampling f.height) row element)
    chroma_wrong_iff row element = (
      λ a. let b = chroma_named in_luma in_chroma row element (sym where_passed ∙ a) in (none_clean _ _ _ b.0, found_wrong _ _ _ _ _ b.1),
      λ w. where_passed ∙ sym (chroma_wrong (clean_none _ _ _ w.0) (first_found _ _ _ _ _ w.1)),
    )

  -- ---- and a refusal is given exactly when it is the first that applies

  -- by a row of the table of matrices nothing is refused
  unrefused : (y c : Search) (n : ℕ) (v : List ℤ) → first_place y c ≡ refused n v → ⊥
  unrefused None None n v e = let z : ◌≡◌ {A = ℕ} 0 1 = cc in omega arith
  unrefused None (Some p) n v e = let z : ◌≡◌ {A = ℕ} 0 1 = cc in omega arith
  unrefused (Some p) c n v e = let z : ◌≡◌ {A = ℕ} 0 1 = cc in omega arith

  unrefusing : (n : ℕ) (v : List ℤ) (m : Matrix) → is_custom m ≡ false → judged_by m s f (shown s f source) luma chroma ≡ refused n v → ⊥
  unrefusing n v (Tabled k) c a =
      unrefused (first_failing (luma_test s k f (shown s f source) luma) f.width f.height)
      (first_failing (chroma_test s k f (shown s f source) chroma) (chroma_width s.subsampling f.width) (chroma_height s.subsampling f.height)) n v a
  unrefusing n v (Own p) c a = true≢false c

  due : (n : ℕ) (v : List ℤ) (l : Line) → first (check_lines s f source luma chroma) ≡ l → answer l (judgement s f source luma chroma) ≡ refused n v → l ≡ refuses n v
  due n v (refuses m u) h a = let p : m ≡ n = cc in let q : u ≡ v = cc in λ i. refuses (p i) (q i)
  due n v passes h a = absurd (unrefusing n v (matrix_of s.matrix) (passed_by _ _ _ (parted (settle_lines s) _ h).1).0 a)

  pub refused_iff : (n : ℕ) (v : List ℤ) → (check s f source luma chroma ≡ refused n v) ↔ (first (check_lines s f source luma chroma) ≡ refuses n v)
  unfolding check
  refused_iff n v = (λ a. due n v (first (check_lines s f source luma chroma)) refl a, λ e. ap (λ (l : Line). answer l (judgement s f source luma chroma)) e)
