-- An answer in the paper's terms stands for one case of its enumeration. Assumes nothing.
use Rattle.std.proofs.Common.{Ok, Err, None, Some}
use mathlib.Core.Path.{◌≡◌, refl, sym, ap, ◌∙◌}
use mathlib.Core.List.{List, [], ◌∷◌}
use Prim.Native.Nat.{ℕ, ◌-◌}
use native.Mathlib.Omega.{arith}
use lib.IntN.{ℤ, pos, nat_abs}
use lib.ListN.{get_or}
use Rattle.rules.specs.declared.Refusal.{Refusal}
use Rattle.rules.specs.declared.Refusal.TheVariants.{Depth, Precision, CustomPair, WeightOff, CodeOutside, CustomUnchecked, Size, Stride, Length, TooLarge, Count, Window, Malformed}
use Rattle.rules.specs.declared.SourcePlace.{SourcePlace}
use Rattle.rules.specs.declared.Weights.{Weights}
use Rattle.rules.specs.declared.Place.{Place}
use Rattle.rules.specs.declared.Ringed.{Ringed}
use Rattle.rules.specs.Refusals.{number_of, place_values, values_of, Line, passes, refuses, line_of, Verdict}
use Rattle.rules.specs.Answers.{Answer, given, refused, answer, refusal, weight_values, settled_answer, converted_answer, RingAnswer, ringed_answer, checked_answer, Settled, Checked}

-- ---- a refusal by its number and values

source_place_in : List ℤ → SourcePlace
source_place_in v = record { row = nat_abs (get_or v 0 (pos 0)); pixel = nat_abs (get_or v 1 (pos 0)); channel = nat_abs (get_or v 2 (pos 0)) }

place_in : List ℤ → Place
place_in v = record { plane = nat_abs (get_or v 0 (pos 0)); row = nat_abs (get_or v 1 (pos 0)); element = nat_abs (get_or v 2 (pos 0)) }

-- in the order of their numbers, from 1 on
refusals : List ℤ → List Refusal
refusals v = Depth ∷ Precision ∷ CustomPair ∷ WeightOff ∷ CodeOutside ∷ CustomUnchecked ∷ Size ∷ Stride ∷ Length ∷ TooLarge (source_place_in v) ∷ Count ∷ Window ∷ Malformed (place_in v) ∷ []

numbered : ℕ → List ℤ → Refusal
numbered n v = get_or (refusals v) (n - 1) Depth

numbered_back : (r : Refusal) → numbered (number_of r) (values_of r) ≡ r
unfolding numbered refusals source_place_in place_in
numbered_back Depth = refl
numbered_back Precision = refl
numbered_back CustomPair = refl
numbered_back WeightOff = refl
numbered_back CodeOutside = refl
numbered_back CustomUnchecked = refl
numbered_back Size = refl
numbered_back Stride = refl
numbered_back Length = refl
numbered_back (TooLarge p) = refl
numbered_back Count = refl
numbered_back Window = refl
numbered_back (Malformed p) = refl

abbrev number_in : Answer → ℕ
number_in (given v) = 0
number_in (refused n v) = n

abbrev values_in : Answer → List ℤ
values_in (given v) = v
values_in (refused n v) = v

pub same_refusal : (a b : Refusal) → refusal a ≡ refusal b → a ≡ b
same_refusal a b e = sym (numbered_back a) ∙ ap (λ (x : Answer). numbered (number_in x) (values_in x)) e ∙ numbered_back b

-- ---- the nine weights, and a place, by their values

weights_in : List ℤ → Weights
weights_in v = record {
  yr = get_or v 0 (pos 0);
  yg = get_or v 1 (pos 0);
  yb = get_or v 2 (pos 0);
  cb_r = get_or v 3 (pos 0);
  cb_g = get_or v 4 (pos 0);
  cb_b = get_or v 5 (pos 0);
  cr_r = get_or v 6 (pos 0);
  cr_g = get_or v 7 (pos 0);
  cr_b = get_or v 8 (pos 0);
}

weights_back : (w : Weights) → weights_in (weight_values w) ≡ w
unfolding weights_in
weights_back w = refl

pub same_weights : (a b : Weights) → given (weight_values a) ≡ given (weight_values b) → a ≡ b
same_weights a b e = sym (weights_back a) ∙ ap (λ (x : Answer). weights_in (values_in x)) e ∙ weights_back b

place_back : (p : Place) → place_in (place_values p.plane p.row p.element) ≡ p
unfolding place_in
place_back p = refl

-- ---- THE THEOREMS: two cases that stand for one answer are one

pub one_settled : (a b : Settled) → settled_answer a ≡ settled_answer b → a ≡ b
one_settled (Ok v) (Ok w) e = ap Ok (same_weights v w e)
one_settled (Err q) (Err r) e = ap Err (same_refusal q r e)
one_settled (Ok v) (Err r) e = absurd (let z : ◌≡◌ {A = ℕ} 0 1 = cc in omega arith)
one_settled (Err q) (Ok w) e = absurd (let z : ◌≡◌ {A = ℕ} 0 1 = cc in omega arith)

pub one_converted : (a b : Verdict) → converted_answer a ≡ converted_answer b → a ≡ b
one_converted (Ok u) (Ok v) e = refl
one_converted (Err q) (Err r) e = ap Err (same_refusal q r e)
one_converted (Ok u) (Err r) e = absurd (let z : ◌≡◌ {A = ℕ} 0 1 = cc in omega arith)
one_converted (Err q) (Ok u) e = absurd (let z : ◌≡◌ {A = ℕ} 0 1 = cc in omega arith)

one_verdict : (a b : Verdict) → line_of a ≡ line_of b → a ≡ b
one_verdict (Ok u) (Ok v) e = refl
one_verdict (Err q) (Err r) e = ap Err (same_refusal q r (ap (λ (l : Line). answer l (given [])) e))
one_verdict (Ok u) (Err r) e = absurd (let z : ◌≡◌ {A = ℕ} 0 1 = cc in omega arith)
one_verdict (Err q) (Ok u) e = absurd (let z : ◌≡◌ {A = ℕ} 0 1 = cc in omega arith)

pub one_ringed : (a b : Ringed) → ringed_answer a ≡ ringed_answer b → a ≡ b
one_ringed a b e =
    let w : a.written ≡ b.written = ap (λ (r : RingAnswer). r.written) e in
    let v = one_verdict a.ended b.ended (ap (λ (r : RingAnswer). r.ended) e) in
    λ i. record { written = w i; ended = v i }

pub one_checked : (a b : Checked) → checked_answer a ≡ checked_answer b → a ≡ b
one_checked (Ok None) (Ok None) e = refl
one_checked (Ok (Some p)) (Ok (Some q)) e = ap (λ (x : Place). Ok (Some x)) (sym (place_back p) ∙ ap (λ (x : Answer). place_in (values_in x)) e ∙ place_back q)
one_checked (Err q) (Err r) e = ap Err (same_refusal q r e)
one_checked (Ok None) (Ok (Some q)) e = absurd (let z : ◌≡◌ {A = ℕ} 0 1 = cc in omega arith)
one_checked (Ok (Some p)) (Ok None) e = absurd (let z : ◌≡◌ {A = ℕ} 0 1 = cc in omega arith)
one_checked (Ok None) (Err r) e = absurd (let z : ◌≡◌ {A = ℕ} 0 1 = cc in omega arith)
one_checked (Err q) (Ok None) e = absurd (let z : ◌≡◌ {A = ℕ} 0 1 = cc in omega arith)
one_checked (Ok (Some p)) (Err r) e = absurd (let z : ◌≡◌ {A = ℕ} 0 1 = cc in omega arith)
one_checked (Err q) (Ok (Some p)) e = absurd (let z : ◌≡◌ {A = ℕ} 0 1 = cc in omega arith)

-- ---- what a service answers by its table

-- a service that says done and nothing more answers by the line that its tests come to
pub converted_by_line : (v : Verdict) → converted_answer v ≡ answer (line_of v) (given [])
converted_by_line (Ok u) = refl
converted_by_line (Err r) = refl

pub by_passing : {l : Line} (a : Answer) → l ≡ passes → a ≡ answer l a
by_passing a h = sym (ap (λ (k : Line). answer k a) h)

pub by_refusing : {l : Line} (a : Answer) {n : ℕ} {v : List ℤ} → l ≡ refuses n v → refused n v ≡ answer l a
by_refusing a h = sym (ap (λ (k : Line). answer k a) h)

-- what was given was given by a table that passes, and what was refused by one that refuses
pub gave : (l : Line) (a : Answer) (v : List ℤ) → given v ≡ answer l a → (l ≡ passes) × (given v ≡ a)
gave passes a v e = (refl, e)
gave (refuses n u) a v e = absurd (let z : ◌≡◌ {A = ℕ} 0 1 = cc in omega arith)

-- a refusal comes from the table where what the service gives is not one
pub declined : (l : Line) (w : List ℤ) (n : ℕ) (v : List ℤ) → refused n v ≡ answer l (given w) → l ≡ refuses n v
declined passes w n v e = absurd (let z : ◌≡◌ {A = ℕ} 0 1 = cc in omega arith)
declined (refuses m u) w n v e = let p : m ≡ n = cc in let q : u ≡ v = cc in λ i. refuses (p i) (q i)
