-- The tolerance of one row of weights, near to a row of exact factors a / D. Assumes nothing.
use mathlib.Core.Path.{◌≡◌, ◌∙◌}
use mathlib.Core.Bool.{Bool, true}
use mathlib.Core.List.{List}
use Prim.Native.Nat.{ℕ, ◌+◌, ◌-◌, ◌*◌, ◌^◌, ◌≤◌}
use native.Mathlib.Nat.{le_refl, mul-one}
use native.Mathlib.Omega.{arith}
use lib.Dec.{T}
use lib.IntN.{ℤ, pos, nat_abs, ◌-ℤ◌, ◌*ℤ◌}
use lib.ListN.{length}
use lib.Pow.{pow_pos}
use lib.Signed.{le_z}
use borrow.Author.Tests.{leb-true}
use Rattle.rules.specs.declared.Pixel.{Pixel}
use Rattle.rules.specs.declared.Triple.{Triple}
use Rattle.rules.specs.Sample.{weighted, signed_code, code}
use Rattle.rules.specs.Blocks.{averaged}
use Rattle.rules.specs.Settle.{near, row_near}
use Rattle.rules.specs.Fractions.{Fraction, halves, within}
use Rattle.integer_laws.proofs.Differences.{pp, np, Is, is_self, is_pos, is_add, is_minus, is_times, le_abs, shr_is, abs_parts, sized}
use Rattle.rule_laws.specs.Codes.{Low}
use Rattle.tolerance_laws.specs.Block.{Block, one, two, four}
use Rattle.integer_laws.proofs.Shifts.{pow_half}
use Rattle.integer_laws.proofs.Tests.{both}
use Rattle.tolerance_laws.proofs.Sides.{dot, Close, AllClose, Half, pixel_side, Means, Slight, mean_side}
use Rattle.tolerance_laws.proofs.Within.{within_sides}
use Rattle.tolerance_laws.proofs.Means.{sums, sums_one, averaged_one, means_two, means_four, averaged_low}

-- the positive and the negative parts of three numbers
abbrev plus : Triple → Pixel
plus w = record { red = pp w.red; green = pp w.green; blue = pp w.blue }

abbrev minus : Triple → Pixel
minus w = record { red = np w.red; green = np w.green; blue = np w.blue }

weighted_is : (w : Triple) (p : Pixel) → Is (weighted w p) (dot (plus w) p) (dot (minus w) p)
unfolding weighted
weighted_is w p =
    is_add (is_add (is_times (is_self w.red) p.red) (is_times (is_self w.green) p.green)) (is_times (is_self w.blue) p.blue)

-- bias + a·s / under
abbrev pub valued : ℕ → Triple → ℕ → Pixel → Fraction
valued bias a under s = record { bias = bias; over = weighted a s; under = under }

-- refusal 4's test of a row
abbrev pub near_row : ℕ → ℕ → Triple → Triple → Bool
near_row P D w a = row_near P D w a.red a.green a.blue

-- the sizes of the factors sum to at most D
pub record SlightRow (D : ℕ) (a : Triple) : Type 0 where
  pub slight : nat_abs a.red + nat_abs a.green + nat_abs a.blue ≤ D

-- ---- what the test of refusal 4 and the division say, from both sides

near_close : (P D : ℕ) (w a : ℤ) → near P D w a ≡ true →
    Close (2 ^ P) D (pp w) (np w) (pp a) (np a) × Close (2 ^ P) D (np w) (pp w) (np a) (pp a)
unfolding near
near_close P D w a e =
    let b = le_abs (is_minus (is_times (is_self w) D) (is_times (is_self a) (2 ^ P))) (le_refl _) in
    let l : 100 * nat_abs (w *ℤ pos D -ℤ a *ℤ pos (2 ^ P)) ≤ 51 * D = leb-true _ _ e in
    (record { close = omega (arith, b.0, l) }, record { close = omega (arith, b.1, l) })

module _ (P D : ℕ) (w a : Triple) (e : near_row P D w a ≡ true) where
  row_close : AllClose (2 ^ P) D (plus w) (minus w) (plus a) (minus a) × AllClose (2 ^ P) D (minus w) (plus w) (minus a) (plus a)
  unfolding row_near
  row_close =
      let t = both _ _ e in
      let s = both _ _ t.1 in
      let r = near_close P D w.red a.red t.0 in
      let g = near_close P D w.green a.green s.0 in
      let b = near_close P D w.blue a.blue s.1 in
      (record { red = r.0; green = g.0; blue = b.0 }, record { red = r.1; green = g.1; blue = b.1 })

module _ (P : ℕ) (some : 1 ≤ P) (bias : ℕ) (w : Triple) (p : Pixel) (t : T (le_z (pos 0) (signed_code P bias w p))) where
  code-half :
      Half (2 ^ P) (code P bias w p) (dot (minus w) p) bias (dot (plus w) p) ×
      Half (2 ^ P) bias (dot (plus w) p) (code P bias w p) (dot (minus w) p)
  unfolding signed_code code
  code-half =
      let f = shr_is (2 ^ P) (code P bias w p) (pow_pos P) (is_add (weighted_is w p) (is_pos (bias * 2 ^ P + (2 ^ (P - 1) - 1)))) (sized _ t) in
      (record { half = omega (arith, f.0, pow_half P some, pow_pos (P - 1)) }, record { half = omega (arith, f.1, pow_half P some, pow_pos (P - 1)) })

-- ---- the tolerance of a row

module _ (P m D : ℕ) (w a : Triple) (some : 1 ≤ P) (e : near_row P D w a ≡ true) (bias : ℕ) where
  -- of one pixel
  pub pixel_within : (p : Pixel) → Low m p → T (le_z (pos 0) (signed_code P bias w p)) →
      within P m 1 (valued bias a D p) (code P bias w p) ≡ true
  pixel_within p l t =
      let k = row_close P D w a e in
      let h = code-half P some bias w p t in
      within_sides (valued bias a D p) (weighted_is a p) (code P bias w p) P m 1
      (pixel_side k.0 l (code P bias w p) bias h.0)
      (pixel_side k.1 l bias (code P bias w p) h.1)

  -- of the mean x of 2·g pixels with the sums s
  mean_within : (g : ℕ) (s x : Pixel) → SlightRow D a → Low m x → Means g s x → T (le_z (pos 0) (signed_code P bias w x)) →
      within P m 2 (valued bias a (D * (2 * g)) s) (code P bias w x) ≡ true
  mean_within g s x f l n t =
      let k = row_close P D w a e in
      let h = code-half P some bias w x t in
      let q : Slight D (plus a) (minus a) = record { slight = omega (arith, f.slight, abs_parts a.red, abs_parts a.green, abs_parts a.blue) } in
      let r : Slight D (minus a) (plus a) = record { slight = omega (arith, q.slight) } in
      within_sides (valued bias a (D * (2 * g)) s) (weighted_is a s) (code P bias w x) P m 2
      (mean_side k.0 q l n (code P bias w x) bias h.0)
      (mean_side k.1 r l n bias (code P bias w x) h.1)

  -- of a block
  pub block_within : {b : List Pixel} → SlightRow D a → Block m b → T (le_z (pos 0) (signed_code P bias w (averaged b))) →
      within P m (halves b) (valued bias a (D * length b) (sums b)) (code P bias w (averaged b)) ≡ true
  block_within f (one {p} l) t =
      (λ i. within P m 1 (valued bias a (mul-one D i) (sums_one p i)) (code P bias w (averaged_one p i)))
      ∙ pixel_within p l (rw averaged_one at t)
  block_within f (two {p} {q} l k) t = mean_within 1 _ _ f (averaged_low (two l k)) (means_two p q) t
  block_within f (four {p} {q} {r} {s} l k i j) t = mean_within 2 _ _ f (averaged_low (four l k i j)) (means_four p q r s) t
