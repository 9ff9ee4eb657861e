-- The search of a row of a plane, and of the part of the plane's words that holds the row. Assumes nothing.
use mathlib.Core.Path.{◌≡◌, sym, ap, ◌∙◌}
use mathlib.Core.Bool.{Bool}
use mathlib.Core.List.{List}
use Prim.Native.Nat.{ℕ, ◌+◌, ◌-◌, ◌*◌, ◌≤◌}
use native.Mathlib.Omega.{arith}
use lib.ListN.{length, get_or, take, drop, length-take, length-drop}
use lib.Seq.{get_or-take, get_or-drop}
use Rattle.rules.specs.declared.Settings.{Settings}
use Rattle.rules.specs.Search.{first_below, failing, Search}
use Rattle.rules.specs.ToRgb.{formed_test}
use Rattle.plane_laws.proofs.Searches.{first_ext}
use Rattle.formed_rows.specs.Formed.{is_formed}

-- what is found at a word, by what its test says
pub by_test : (s : Settings) (v row e : ℕ) {r t : Bool} → r ≡ is_formed s v → r ≡ t → failing (is_formed s v) row e ≡ failing t row e
by_test s v row e q h = ap (λ (b : Bool). failing b row e) (sym q ∙ h)

-- what is found in a row of the plane
abbrev pub in_row : Settings → ℕ → ℕ → List ℕ → ℕ → Search
in_row s stride wide words row = first_below wide (λ e. failing (formed_test s stride words row e) row e)

-- and in a row by itself
abbrev pub in_part : Settings → ℕ → List ℕ → Search
in_part s row part = first_below (length part) (λ e. failing (is_formed s (get_or part e 0)) row e)

-- the part that is lent, as the borrow checker has it, holds the row
pub part_is_row : (s : Settings) (stride wide : ℕ) (words : List ℕ) (row : ℕ) → row * stride + wide ≤ length words →
    in_part s row (take (row * stride + wide - row * stride) (drop (row * stride) words)) ≡ in_row s stride wide words row
part_is_row s stride wide words row h =
    let a = row * stride in
    let part = take (a + wide - a) (drop a words) in
    let long : length part ≡ wide = simp (length-take, length-drop) (omega arith) in
    ap (λ (n : ℕ). first_below n (λ e. failing (is_formed s (get_or part e 0)) row e)) long
    ∙ first_ext wide _ _ (λ e b. ap (λ (v : ℕ). failing (is_formed s v) row e) (get_or-take (a + wide - a) (drop a words) e 0 (omega arith) ∙ get_or-drop a words e 0))
