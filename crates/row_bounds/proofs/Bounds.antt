-- Bounds of four rows, as a loop through them widens them. Assumes nothing.
use Rattle.std.proofs.Common.{◌≡◌, ℕ, ◌+◌, ◌*◌, ◌%◌, ◌≤◌, List, get_or, bit_or, subst, arith, below_none, below_more}
use Rattle.std.proofs.Math.Nat.{le_trans}
use Rattle.std.proofs.lemmas.Nat.{le_or_l, le_or_r}
use Rattle.row_bounds.specs.Bounds.{BoundsThree, BoundsAt, BoundsBelow}

pub none : {m count : ℕ} {a b c e : List ℕ} → BoundsBelow m count a b c e 0
none = record { each = below_none _ }

-- a greater bound
pub greater : {m n count i : ℕ} {a b c e : List ℕ} → m ≤ n → BoundsBelow m count a b c e i → BoundsBelow n count a b c e i
greater l h =
    record {
      each = λ k b p.
          let g = h.each k b p in
          record { first = le_trans g.first l; second = le_trans g.second l; third = le_trans g.third l; fourth = le_trans g.fourth l };
    }

pub three_greater : {m n at : ℕ} {part : List ℕ} → m ≤ n → BoundsThree m part at → BoundsThree n part at
three_greater l h = record { first = le_trans h.first l; second = le_trans h.second l; third = le_trans h.third l }

-- one element more
pub one_more : {m count i : ℕ} {a b c e : List ℕ} → BoundsBelow m count a b c e i → BoundsAt m a b c e i → BoundsBelow m count a b c e (i + 1)
one_more h l = record { each = below_more _ _ h.each (λ p. l) }

pub element_joined : (m count i : ℕ) (a b c e : List ℕ) → BoundsBelow m count a b c e i
    → BoundsBelow (bit_or m (bit_or (bit_or (bit_or (get_or a i 0) (get_or b i 0)) (get_or c i 0)) (get_or e i 0))) count a b c e (i + 1)
element_joined m count i a b c e h =
    one_more (greater (le_or_l m _) h)
    (record { first = grind (arith, le_or_l, le_or_r); second = grind (arith, le_or_l, le_or_r); third = grind (arith, le_or_l, le_or_r); fourth = grind (arith, le_or_l, le_or_r) })

-- one pixel with alpha more
module _ (m i : ℕ) (a b c e : List ℕ) (start : i % 4 ≡ 0) (p : BoundsThree m a i) (q : BoundsThree m b i) (r : BoundsThree m c i) (s : BoundsThree m e i) where
  first : BoundsAt m a b c e i
  first = record { first = p.first; second = q.first; third = r.first; fourth = s.first }

  second : BoundsAt m a b c e (i + 1)
  second = record { first = p.second; second = q.second; third = r.second; fourth = s.second }

  third : BoundsAt m a b c e (i + 1 + 1)
  third =
      subst (BoundsAt m a b c e) (omega arith) (record { first = p.third; second = q.third; third = r.third; fourth = s.third })

  pub pixel_more : BoundsBelow m 4 a b c e i → BoundsBelow m 4 a b c e (i + 4)
  pixel_more h =
      let all = (one_more (one_more (one_more h first) second) third).each in
      record { each = λ k l t. below_more _ (i + 1 + 1 + 1) all (λ alpha. absurd (omega (arith, alpha))) k (omega (arith, l)) t }

pub pixel_joined : (m pixel : ℕ) (a b c e : List ℕ) {w x y z : ℕ} → BoundsThree w a (4 * pixel) → BoundsThree x b (4 * pixel) → BoundsThree y c (4 * pixel) → BoundsThree z e (4 * pixel)
    → BoundsBelow m 4 a b c e (4 * pixel) → BoundsBelow (bit_or m (bit_or (bit_or (bit_or w x) y) z)) 4 a b c e (4 * (pixel + 1))
pixel_joined m pixel a b c e {w} {x} {y} {z} p q r s h =
    let n = bit_or m (bit_or (bit_or (bit_or w x) y) z) in
    let one : w ≤ n = grind (arith, le_or_l, le_or_r) in
    let two : x ≤ n = grind (arith, le_or_l, le_or_r) in
    let three : y ≤ n = grind (arith, le_or_l, le_or_r) in
    let four : z ≤ n = grind (arith, le_or_l, le_or_r) in
    subst (BoundsBelow n 4 a b c e) (omega arith)
    (pixel_more n (4 * pixel) a b c e (omega arith) (three_greater one p) (three_greater two q) (three_greater three r) (three_greater four s) (greater (le_or_l m _) h))
