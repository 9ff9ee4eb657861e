-- Laws of the test of a row's words: it passes exactly when each word is well formed, and may be made word by word. Assumes nothing.
use mathlib.Core.Path.{◌≡◌, refl, sym, ap, ◌∙◌}
use mathlib.Core.Bool.{Bool, true, ◌&&◌}
use mathlib.Core.Logic.{◌↔◌}
use mathlib.Core.List.{List, [], ◌∷◌}
use Prim.Native.Nat.{ℕ, zero, suc, ◌+◌, ◌<◌}
use native.Mathlib.Omega.{arith}
use Rattle.std.proofs.Math.Bool.{and_assoc, and-true}
use lib.ListN.{length, get_or, drop}
use lib.Seq.{drop-cons, drop-length}
use Rattle.rules.specs.declared.Settings.{Settings}
use Rattle.integer_laws.proofs.Tests.{both}
use Rattle.formed_rows.specs.Formed.{is_formed, all_formed, AllFormed}

-- ---- word by word: what was found so far, and what is left
module _ (s : Settings) (part : List ℕ) where
  pub one_more : (so_far : Bool) (i : ℕ) → i < length part →
      ((so_far && is_formed s (get_or part i 0)) && all_formed s (drop (i + 1) part)) ≡ (so_far && all_formed s (drop i part))
  unfolding all_formed
  one_more so_far i h =
      let next : i + 1 ≡ suc i = omega arith in
      and_assoc so_far (is_formed s (get_or part i 0)) (all_formed s (drop (i + 1) part))
      ∙ ap (λ (n : ℕ). so_far && (is_formed s (get_or part i 0) && all_formed s (drop n part))) next
      ∙ sym (ap (λ (vs : List ℕ). so_far && all_formed s vs) (drop-cons part i 0 h))

  pub none_left : (so_far : Bool) → (so_far && all_formed s (drop (length part) part)) ≡ so_far
  unfolding all_formed
  none_left so_far = ap (λ (vs : List ℕ). so_far && all_formed s vs) (drop-length part) ∙ and-true so_far

-- ---- the test and the statement
each_formed : (s : Settings) (part : List ℕ) → all_formed s part ≡ true → (e : ℕ) → e < length part → is_formed s (get_or part e 0) ≡ true
unfolding all_formed
each_formed s [] h e b = absurd (omega arith)
each_formed s (v ∷ vs) h zero b = (both (is_formed s v) (all_formed s vs) h).0
each_formed s (v ∷ vs) h (suc e) b = each_formed s vs (both (is_formed s v) (all_formed s vs) h).1 e (omega arith)

all_of_each : (s : Settings) (part : List ℕ) → ((e : ℕ) → e < length part → is_formed s (get_or part e 0) ≡ true) → all_formed s part ≡ true
unfolding all_formed
all_of_each s [] h = refl
all_of_each s (v ∷ vs) h = ap (λ (b : Bool). b && all_formed s vs) (h 0 (omega arith)) ∙ all_of_each s vs (λ e b. h (suc e) (omega arith))

pub all_formed_iff : (s : Settings) (part : List ℕ) → (all_formed s part ≡ true) ↔ AllFormed s part
all_formed_iff s part = (λ h. record { each = each_formed s part h }, λ a. all_of_each s part a.each)
