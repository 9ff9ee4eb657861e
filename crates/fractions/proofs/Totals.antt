-- The totals of rules, as sums. Assumes nothing.
use Rattle.std.proofs.Common.{◌≡◌, ℕ, ◌+◌, List, [], ◌∷◌, map, refl, ap, ◌∙◌}
use Rattle.std.specs.List.{sum_by}
use Rattle.std.proofs.lemmas.List.Sums.{sum_by-cons}
use Rattle.rules.specs.Blocks.{total}

-- the sum of what f gives for each
pub total_is : {X : Type 0} (f : X → ℕ) (xs : List X) → sum_by f xs ≡ total (map f xs)
unfolding total
total_is f [] = refl
total_is f (x ∷ xs) = sum_by-cons f x xs ∙ ap (λ n. f x + n) (total_is f xs)

-- the sum over a part that is the whole
pub total_of : {X : Type 0} (f : X → ℕ) {n : ℕ} {part xs : List X} → n ≡ sum_by f part → part ≡ xs → n ≡ total (map f xs)
total_of f {xs = xs} e w = e ∙ ap (sum_by f) w ∙ total_is f xs
