-- How far a row is right, one step at a time. Assumes nothing.
use mathlib.Core.Path.{◌≡◌, subst⁻¹}
use mathlib.Core.Bool.{Bool, true}
use Prim.Native.Nat.{ℕ, zero, suc, ◌+◌, ◌*◌, ◌/◌, ◌%◌, ◌≤◌, ◌<◌}
use native.Mathlib.Omega.{arith}
use borrow.Author.Count.{below_more}
use Rattle.gauges.specs.Prefixes.{Passed}

module _ {t : ℕ → Bool} {wide : ℕ} where
  pub passed_none : Passed t wide 0
  passed_none = record { most = omega arith; right = λ e h. absurd (omega arith) }

  pub passed_more : {n : ℕ} → n < wide → Passed t wide n → t n ≡ true → Passed t wide (n + 1)
  passed_more {n} h p r = record { most = omega arith; right = below_more (λ (e : ℕ). t e ≡ true) n p.right r }

  -- two at a time
  pub passed_pairs : (n : ℕ) → 2 * n ≤ wide → ((pair : ℕ) → pair < n → (t (2 * pair) ≡ true) × (t (2 * pair + 1) ≡ true)) → Passed t wide (2 * n)
  passed_pairs n h p = record { most = h; right = λ e l. split e (e / 2) (e % 2) (omega arith) l (omega arith) }
    where
      split : (e pair odd : ℕ) → e ≡ 2 * pair + odd → e < 2 * n → odd < 2 → t e ≡ true
      split e pair zero q l b = subst⁻¹ (λ (x : ℕ). t x ≡ true) (omega (arith, q)) (p pair (omega (arith, q, l))).0
      split e pair (suc zero) q l b = subst⁻¹ (λ (x : ℕ). t x ≡ true) q (p pair (omega (arith, q, l))).1
      split e pair (suc (suc odd)) q l b = absurd (omega (arith, b))

-- one test for another
pub passed_as : {t u : ℕ → Bool} {wide n : ℕ} → ((e : ℕ) → e < n → t e ≡ true → u e ≡ true) → Passed t wide n → Passed u wide n
passed_as f p = record { most = p.most; right = λ e l. f e l (p.right e l) }
