-- A search through rows of samples, row by row and in a row element by element, for the first that fails a test. Definitions only.
use Rattle.std.specs.Prelude.{ℕ, zero, suc, ◌<◌, ◌≡◌, Bool, true, false, List, [], ℤ, Option, None, Some}
use Rattle.rules.specs.declared.Found.{Found}
use Rattle.rules.specs.Refusals.{place_values}

-- a test says of each row and element whether its sample passes
abbrev pub Test : Type 0
Test = ℕ → ℕ → Bool

-- ---- what the search finds: nothing, or the row and the element of the first sample that fails

abbrev pub Search : Type 0
Search = Option Found

abbrev pub found_at : ℕ → ℕ → Search
found_at row element = Some (record { row = row; element = element })

abbrev pub or_else : Search → Search → Search
or_else None s = s
or_else (Some p) s = Some p

-- what f finds first, at 0, 1, .., n − 1
unfoldable pub first_below : ℕ → (ℕ → Search) → Search
first_below zero f = None
first_below (suc n) f = or_else (first_below n f) (f n)

-- a sample that passes is not found
abbrev pub failing : Bool → ℕ → ℕ → Search
failing true row element = None
failing false row element = found_at row element

-- the first sample that fails, in so many rows of so many elements
unfoldable pub first_failing : Test → ℕ → ℕ → Search
first_failing t wide rows = first_below rows (λ row. first_below wide (λ element. failing (t row element) row element))

abbrev pub is_found : Search → Bool
is_found None = false
is_found (Some p) = true

-- the values of the place that a search through luma and one through chroma come to, or none: luma is plane 0 and comes first, chroma is plane 1
abbrev pub first_values : Search → Search → List ℤ
first_values (Some p) c = place_values 0 p.row p.element
first_values None (Some p) = place_values 1 p.row p.element
first_values None None = []

-- ---- what that means

-- all samples of the rows below h pass
pub record Clean (t : Test) (wide h : ℕ) : Type 0 where
  pub clean : (row element : ℕ) → row < h → element < wide → t row element ≡ true

-- the first that fails: inside, failing, and all before it pass
pub record FirstWrong (t : Test) (wide h row element : ℕ) : Type 0 where
  pub below : row < h
  pub inside : element < wide
  pub wrong : t row element ≡ false
  pub above : Clean t wide row
  pub before : (e : ℕ) → e < element → t row e ≡ true
