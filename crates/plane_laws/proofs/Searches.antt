-- Laws of the search for the first sample that fails a test. Assumes nothing.
use Rattle.std.proofs.Common.{None, Some}
use mathlib.Core.Path.{◌≡◌, refl, sym, ap, ◌∙◌, subst, subst⁻¹}
use mathlib.Core.Logic.{⊎_elim}
use mathlib.Core.Bool.{Bool, true, false, true≢false}
use Prim.Native.Nat.{ℕ, zero, suc, ◌+◌, ◌<◌}
use native.Mathlib.Nat.{le_of_suc-le-suc, not-suc-le-zero, eq-or-lt_of_le}
use native.Mathlib.Numerals.{add-one}
use native.Mathlib.Omega.{arith}
use Rattle.rules.specs.Search.{Test, or_else, first_below, failing, first_failing, is_found, Clean, FirstWrong, Search, found_at}

pub not_found : (s : Search) → is_found s ≡ false → s ≡ None
not_found None h = refl
not_found (Some p) h = absurd (true≢false h)

keeps : (s t : Search) → is_found s ≡ true → or_else s t ≡ s
keeps None t h = absurd (true≢false (sym h))
keeps (Some p) t h = refl

both_nothing : (s t : Search) → or_else s t ≡ None → (s ≡ None) × (t ≡ None)
both_nothing None t h = (refl, h)
both_nothing (Some p) t h = absurd (true≢false (ap is_found h))

more : (i n : ℕ) → i < n → i < suc n
more i n h = omega arith

last : (n : ℕ) → n < suc n
last n = omega arith

module _ (f : ℕ → Search) where
  pub none_yet : first_below 0 f ≡ None
  unfolding first_below
  none_yet = refl

  next_none : (n : ℕ) → first_below n f ≡ None → f n ≡ None → first_below (suc n) f ≡ None
  unfolding first_below
  next_none n h e = λ i. or_else (h i) (e i)

  -- nothing below n, and nothing at n
  pub none_more : (n : ℕ) → first_below n f ≡ None → is_found (f n) ≡ false → first_below (n + 1) f ≡ None
  none_more n h e = ap (λ (k : ℕ). first_below k f) (add-one n) ∙ next_none n h (not_found (f n) e)

  -- nothing below i, and something at i
  pub found_first : (n i : ℕ) → i < n → first_below i f ≡ None → is_found (f i) ≡ true → first_below n f ≡ f i
  unfolding first_below
  found_first zero i l h e = absurd (not-suc-le-zero l)
  found_first (suc n) i l h e =
      ⊎_elim
      (λ (q : i ≡ n). subst⁻¹ (λ (k : ℕ). first_below (suc n) f ≡ f k) q (ap (λ (s : Search). or_else s (f n)) (ap (λ (k : ℕ). first_below k f) (sym q) ∙ h)))
      (λ (q : i < n). ap (λ (s : Search). or_else s (f n)) (found_first n i q h e) ∙ keeps (f i) (f n) e)
      (eq-or-lt_of_le (le_of_suc-le-suc l))

  -- nothing anywhere
  pub none_at : (n : ℕ) → first_below n f ≡ None → (i : ℕ) → i < n → f i ≡ None
  unfolding first_below
  none_at zero h i l = absurd (not-suc-le-zero l)
  none_at (suc n) h i l =
      let b = both_nothing (first_below n f) (f n) h in
      ⊎_elim (λ (q : i ≡ n). ap f q ∙ b.1) (λ (q : i < n). none_at n b.0 i q) (eq-or-lt_of_le (le_of_suc-le-suc l))

-- nothing at any place
pub none_all : (n : ℕ) (f : ℕ → Search) → ((i : ℕ) → i < n → f i ≡ None) → first_below n f ≡ None
none_all zero f h = none_yet f
none_all (suc n) f h = next_none f n (none_all n f (λ i l. h i (more i n l))) (h n (last n))

-- functions that agree find the same
pub first_ext : (n : ℕ) (f g : ℕ → Search) → ((i : ℕ) → i < n → f i ≡ g i) → first_below n f ≡ first_below n g
unfolding first_below
first_ext zero f g h = refl
first_ext (suc n) f g h = λ j. or_else (first_ext n f g (λ i l. h i (more i n l)) j) (h n (last n) j)

-- where something was found: nothing before it
record Where (n : ℕ) (f : ℕ → Search) (r e : ℕ) : Type 0 where
  i : ℕ
  inside : i < n
  none : first_below i f ≡ None
  here : f i ≡ found_at r e

found_where : (n : ℕ) (f : ℕ → Search) (r e : ℕ) → first_below n f ≡ found_at r e → Where n f r e
unfolding first_below
found_where zero f r e h = absurd (true≢false (sym (ap is_found h)))
found_where (suc n) f r e h = go (first_below n f) refl h (λ q. found_where n f r e q)
  where
    go : (s : Search) → first_below n f ≡ s → or_else s (f n) ≡ found_at r e → (first_below n f ≡ found_at r e → Where n f r e) → Where (suc n) f r e
    go None q k below = record { i = n; inside = last n; none = q; here = k }
    go (Some p) q k below = let w = below (q ∙ k) in record { i = w.i; inside = more w.i n w.inside; none = w.none; here = w.here }

-- ---- the first sample that fails

fails_not : (b : Bool) (row e : ℕ) → b ≡ true → failing b row e ≡ None
fails_not b row e h = ap (λ (t : Bool). failing t row e) h

passes_if : (b : Bool) (row e : ℕ) → failing b row e ≡ None → b ≡ true
passes_if true row e h = refl
passes_if false row e h = absurd (true≢false (ap is_found h))

record Failed (b : Bool) (row e r x : ℕ) : Type 0 where
  failed : b ≡ false
  row_is : row ≡ r
  element_is : e ≡ x

fails_at : (b : Bool) (row e r x : ℕ) → failing b row e ≡ found_at r x → Failed b row e r x
fails_at true row e r x h = absurd (true≢false (sym (ap is_found h)))
fails_at false row e r x h = record { failed = refl; row_is = ap row_in h; element_is = ap element_in h }
  where
    row_in : Search → ℕ
    row_in None = 0
    row_in (Some p) = p.row

    element_in : Search → ℕ
    element_in None = 0
    element_in (Some p) = p.element

module _ (t : Test) (wide : ℕ) where
  abbrev in_row : ℕ → Search
  in_row row = first_below wide (λ e. failing (t row e) row e)

  row_clean : (row : ℕ) → ((e : ℕ) → e < wide → t row e ≡ true) → in_row row ≡ None
  row_clean row h = none_all wide (λ e. failing (t row e) row e) (λ e l. fails_not (t row e) row e (h e l))

  -- all pass: nothing is found
  pub clean_none : (h : ℕ) → Clean t wide h → first_failing t wide h ≡ None
  unfolding first_failing
  clean_none h c = none_all h in_row (λ row l. row_clean row (λ e k. c.clean row e l k))

  -- nothing is found: all pass
  pub none_clean : (h : ℕ) → first_failing t wide h ≡ None → Clean t wide h
  unfolding first_failing
  none_clean h n =
      record { clean = λ row e l k. passes_if (t row e) row e (none_at (λ x. failing (t row x) row x) wide (none_at in_row h n row l) e k) }

  -- THE LAW: the first wrong sample is the one that is found
  pub first_found : (h row e : ℕ) → FirstWrong t wide h row e → first_failing t wide h ≡ found_at row e
  unfolding first_failing
  first_found h row e w =
      let here : failing (t row e) row e ≡ found_at row e = ap (λ (b : Bool). failing b row e) w.wrong in
      let left : first_below e (λ x. failing (t row x) row x) ≡ None = none_all e (λ x. failing (t row x) row x) (λ x l. fails_not (t row x) row x (w.before x l)) in
      let along : in_row row ≡ found_at row e = found_first (λ x. failing (t row x) row x) wide e w.inside left (ap is_found here) ∙ here in
      let over : first_below row in_row ≡ None = none_all row in_row (λ r l. row_clean r (λ x k. w.above.clean r x l k)) in
      found_first in_row h row w.below over (ap is_found along) ∙ along

  -- and what is found is the first wrong sample
  pub found_wrong : (h row e : ℕ) → first_failing t wide h ≡ found_at row e → FirstWrong t wide h row e
  unfolding first_failing
  found_wrong h row e n =
      let r = found_where h in_row row e n in
      let c = found_where wide (λ x. failing (t r.i x) r.i x) row e r.here in
      let w = fails_at (t r.i c.i) r.i c.i row e c.here in
      subst (λ (y : ℕ). FirstWrong t wide h y e) w.row_is
      (subst (λ (x : ℕ). FirstWrong t wide h r.i x) w.element_is
      (record {
        below = r.inside;
        inside = c.inside;
        wrong = w.failed;
        above = record { clean = λ y x l k. passes_if (t y x) y x (none_at (λ z. failing (t y z) y z) wide (none_at in_row r.i r.none y l) x k) };
        before = λ x l. passes_if (t r.i x) r.i x (none_at (λ z. failing (t r.i z) r.i z) c.i c.none x l);
      }))

-- tests that agree find the same
pub same_search : (t u : Test) (wide h : ℕ) → ((row e : ℕ) → row < h → e < wide → t row e ≡ u row e) → first_failing t wide h ≡ first_failing u wide h
unfolding first_failing
same_search t u wide h q = first_ext h _ _ (λ row b. first_ext wide _ _ (λ e l. ap (λ (x : Bool). failing x row e) (q row e b l)))
