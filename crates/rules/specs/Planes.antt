-- Document 01, "Rows and lengths": where the elements of a plane lie, and a plane after its visible ones were written. Definitions only.
use Rattle.std.specs.Prelude.{ℕ, zero, suc, ◌+◌, ◌*◌, ◌/◌, ◌%◌, Bool, ◌&&◌, cond, List, [], ◌∷◌, ltb, length, get_or}

-- the element of a row that starts at row × stride
abbrev pub element_at : ℕ → List ℕ → ℕ → ℕ → ℕ
element_at stride words row i = get_or words (row * stride + i) 0

-- f 0, f 1, .., f (n − 1)
unfoldable pub tabulate : ℕ → (ℕ → ℕ) → List ℕ
tabulate zero f = []
tabulate (suc n) f = f zero ∷ tabulate n (λ i. f (suc i))

-- index k lies in the first `wide` elements of one of the first `rows` rows
abbrev pub visible : ℕ → ℕ → ℕ → ℕ → Bool
visible stride wide rows k = ltb (k % stride) wide && ltb (k / stride) rows

-- element k is f row column where it is visible: "Elements past the visible ones in a row keep their old value"
unfoldable pub element : ℕ → ℕ → ℕ → (ℕ → ℕ → ℕ) → List ℕ → ℕ → ℕ
element stride wide rows f old k = cond (visible stride wide rows k) (f (k / stride) (k % stride)) (get_or old k 0)

unfoldable pub written : ℕ → ℕ → ℕ → (ℕ → ℕ → ℕ) → List ℕ → List ℕ
written stride wide rows f old = tabulate (length old) (element stride wide rows f old)
