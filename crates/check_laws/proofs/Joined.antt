-- What check is to answer, by what its lines come to. Assumes nothing.
use Rattle.std.proofs.Common.{None}
use mathlib.Core.Path.{◌≡◌, sym, ap, ◌∙◌}
use mathlib.Core.List.{List, []}
use Prim.Native.Nat.{ℕ}
use lib.IntN.{ℤ}
use Rattle.rules.specs.declared.Settings.{Settings}
use Rattle.rules.specs.declared.Frame.{Frame}
use Rattle.rules.specs.declared.Named.{Named}
use Rattle.rules.specs.declared.Matrix.{Matrix}
use Rattle.rules.specs.declared.Matrix.TheVariants.{Tabled}
use Rattle.rules.specs.declared.Place.{Place}
use Rattle.rules.specs.Matrices.{matrix_of}
use Rattle.rules.specs.Refusals.{place_values, Line}
use Rattle.rules.specs.Search.{first_values, Search, found_at}
use Rattle.rules.specs.Answers.{Answer, given, answer}
use Rattle.rules.specs.Frames.{shown}
use Rattle.rules.specs.Check.{first_place, judged, judged_by, judgement}

-- one line for another
pub carried : {a : Answer} {k l : Line} (after : Answer) → k ≡ l → a ≡ answer k after → a ≡ answer l after
carried after e h = h ∙ ap (λ (x : Line). answer x after) e

-- a named matrix judges by its row
pub by_row : (s : Settings) (f : Frame) (source luma chroma : List ℕ) (k : Named) → matrix_of s.matrix ≡ Tabled k →
    judged s k f (shown s f source) luma chroma ≡ judgement s f source luma chroma
by_row s f source luma chroma k e = sym (ap (λ (m : Matrix). judged_by m s f (shown s f source) luma chroma) e)

-- ---- what the two walks come to

-- a place with these numbers has these values
pub placed_values : {p : Place} {plane row element : ℕ} → (p.plane ≡ plane) × (p.row ≡ row) × (p.element ≡ element) → place_values p.plane p.row p.element ≡ place_values plane row element
placed_values e = λ i. place_values (e.0 i) (e.1 i) (e.2 i)

pub placed : {p : Place} {plane row element : ℕ} → (p.plane ≡ plane) × (p.row ≡ row) × (p.element ≡ element) → given (place_values p.plane p.row p.element) ≡ given (place_values plane row element)
placed e = λ i. given (placed_values e i)

pub luma_wrong : (c : Search) {y : Search} {row element : ℕ} → y ≡ found_at row element → given (place_values 0 row element) ≡ first_place y c
luma_wrong c e = sym (ap (λ (x : Search). first_place x c) e)

module _ {y c : Search} where
  pub chroma_wrong : {row element : ℕ} → y ≡ None → c ≡ found_at row element → given (place_values 1 row element) ≡ first_place y c
  chroma_wrong e f = sym (λ i. first_place (e i) (f i))

  pub both_right : y ≡ None → c ≡ None → given [] ≡ first_place y c
  both_right e f = sym (λ i. first_place (e i) (f i))

-- ---- the same of values alone, as a line of the table carries them

pub luma_found : (c : Search) {y : Search} {row element : ℕ} → y ≡ found_at row element → place_values 0 row element ≡ first_values y c
luma_found c e = sym (ap (λ (x : Search). first_values x c) e)

module _ {y c : Search} where
  pub chroma_found : {row element : ℕ} → y ≡ None → c ≡ found_at row element → place_values 1 row element ≡ first_values y c
  chroma_found e f = sym (λ i. first_values (e i) (f i))

  pub none_found : y ≡ None → c ≡ None → ◌≡◌ {A = List ℤ} [] (first_values y c)
  none_found e f = sym (λ i. first_values (e i) (f i))
