-- The first line of a table that applies, read line by line; and the test of two bounds. Assumes nothing.
use mathlib.Core.Path.{◌≡◌, refl, sym, ap, ◌∙◌}
use mathlib.Core.Bool.{Bool, true, false, not, ◌&&◌, true≢false}
use mathlib.Core.List.{List, [], ◌∷◌, ◌++◌}
use Prim.Native.Nat.{ℕ, ◌≤◌, ◌<◌}
use native.Mathlib.Omega.{arith}
use lib.Dec.{leb, ltb, eqb}
use lib.IntN.{ℤ}
use borrow.Author.Tests.{le-leb, lt-leb, le-ltb, lt-ltb, leb-true, leb-false, eq-eqb}
use Rattle.rules.specs.Refusals.{Line, passes, refuses, line, earlier, first, outside}

-- ---- a table's lines
pub end : first [] ≡ passes
unfolding first
end = refl

pub alone : (l : Line) → first (l ∷ []) ≡ l
unfolding first
alone passes = refl
alone (refuses n v) = refl

module _ (l : Line) (ls : List Line) where
  pub stop : {n : ℕ} {v : List ℤ} → l ≡ refuses n v → first (l ∷ ls) ≡ refuses n v
  unfolding first
  stop h = ap (λ (k : Line). earlier k (first ls)) h

  pub skip : l ≡ passes → first (l ∷ ls) ≡ first ls
  unfolding first
  skip h = ap (λ (k : Line). earlier k (first ls)) h

  pub passed : first (l ∷ ls) ≡ passes → (l ≡ passes) × (first ls ≡ passes)
  unfolding first
  passed h = go l h
    where
      go : (k : Line) → earlier k (first ls) ≡ passes → (k ≡ passes) × (first ls ≡ passes)
      go passes e = (refl, e)
      go (refuses n v) e = absurd (let z : ◌≡◌ {A = ℕ} 0 1 = cc in omega arith)

-- ---- the line of a test that refuses by its number alone

pub applies : (n : ℕ) {b : Bool} → b ≡ true → line n b ≡ refuses n []
applies n h = ap (line n) h

pub unapplied : (n : ℕ) {b : Bool} → b ≡ false → line n b ≡ passes
unapplied n h = ap (line n) h

pub not_applied : (n : ℕ) (b : Bool) → line n b ≡ passes → b ≡ false
not_applied n true h = absurd (let z : ◌≡◌ {A = ℕ} 0 1 = cc in omega arith)
not_applied n false h = refl

module _ (k : ℕ) (b : Bool) (ls : List Line) where
  pub stopped : b ≡ true → first (line k b ∷ ls) ≡ refuses k []
  stopped h = stop (line k b) ls (applies k h)

  pub skipped : b ≡ false → first (line k b ∷ ls) ≡ first ls
  skipped h = skip (line k b) ls (unapplied k h)

  pub passed_by : first (line k b ∷ ls) ≡ passes → (b ≡ false) × (first ls ≡ passes)
  passed_by h = let p = passed (line k b) ls h in (not_applied k b p.0, p.1)

  -- a refusal of another number comes from the lines after this one
  pub reached : (n : ℕ) (v : List ℤ) → eqb k n ≡ false → first (line k b ∷ ls) ≡ refuses n v → (b ≡ false) × (first ls ≡ refuses n v)
  unfolding first
  reached n v other h = go b h
    where
      go : (t : Bool) → earlier (line k t) (first ls) ≡ refuses n v → (t ≡ false) × (first ls ≡ refuses n v)
      go true e = let q : k ≡ n = cc in absurd (true≢false (sym (eq-eqb k n q) ∙ other))
      go false e = (refl, e)

-- nothing comes from no lines
pub ended : (n : ℕ) (v : List ℤ) → first [] ≡ refuses n v → ⊥
ended n v e = let h : passes ≡ refuses n v = sym end ∙ e in let z : ◌≡◌ {A = ℕ} 0 1 = cc in omega arith

-- ---- one table after another

pub earlier_assoc : (k l m : Line) → earlier k (earlier l m) ≡ earlier (earlier k l) m
earlier_assoc passes l m = refl
earlier_assoc (refuses n v) l m = refl

first_append : (ls ms : List Line) → first (ls ++ ms) ≡ earlier (first ls) (first ms)
unfolding first
first_append [] ms = refl
first_append (l ∷ ls) ms = ap (earlier l) (first_append ls ms) ∙ earlier_assoc l (first ls) (first ms)

module _ (ls ms : List Line) where
  pub passed_on : first ls ≡ passes → first (ls ++ ms) ≡ first ms
  passed_on h = first_append ls ms ∙ ap (λ (l : Line). earlier l (first ms)) h

  pub refused_before : {n : ℕ} {v : List ℤ} → first ls ≡ refuses n v → first (ls ++ ms) ≡ refuses n v
  refused_before h = first_append ls ms ∙ ap (λ (l : Line). earlier l (first ms)) h

-- two tables that come to the same come to the same after others
pub after_same : (ls ms ns : List Line) → first ms ≡ first ns → first (ls ++ ms) ≡ first (ls ++ ns)
after_same ls ms ns h = first_append ls ms ∙ ap (earlier (first ls)) h ∙ sym (first_append ls ns)

-- two tables pass only where each does
pub parted : (ls ms : List Line) → first (ls ++ ms) ≡ passes → (first ls ≡ passes) × (first ms ≡ passes)
parted [] ms h = (end, h)
parted (l ∷ ls) ms h =
    let p = passed l (ls ++ ms) h in
    let q = parted ls ms p.1 in
    (skip l ls p.0 ∙ q.0, q.1)

-- ---- a number below a lower bound, from it on, and within two bounds
module _ (low high n : ℕ) where
  pub below : n < low → outside low high n ≡ true
  below h = λ i. not (lt-leb low n h i && leb n high)

  pub from : low ≤ n → ltb high n ≡ outside low high n
  from h = over ∙ sym (λ i. not (le-leb low n h i && leb n high))
    where
      over : ltb high n ≡ not (leb n high)
      over = go (leb n high) (leb-true n high) (leb-false n high)
        where
          go : (b : Bool) → (b ≡ true → n ≤ high) → (b ≡ false → high < n) → ltb high n ≡ not b
          go true f g = le-ltb high n (f refl)
          go false f g = lt-ltb high n (g refl)

  pub inside : low ≤ n → n ≤ high → outside low high n ≡ false
  inside h k = λ i. not (le-leb low n h i && le-leb n high k i)

  pub bounds : outside low high n ≡ false → (low ≤ n) × (n ≤ high)
  bounds h = go (leb low n) (leb n high) (leb-true low n) (leb-true n high) h
    where
      go : (a b : Bool) → (a ≡ true → low ≤ n) → (b ≡ true → n ≤ high) → not (a && b) ≡ false → (low ≤ n) × (n ≤ high)
      go true true f g h = (f refl, g refl)
      go true false f g h = absurd (true≢false h)
      go false b f g h = absurd (true≢false h)
