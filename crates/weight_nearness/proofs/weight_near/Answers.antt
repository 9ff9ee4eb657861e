-- `weight_nearness::weight_near` meets its contract: no product wraps, and what exceeds a hundredth part exceeds it a hundred times.
use Rattle.std.proofs.Common.{rules, ◌≡◌, ℕ, ◌*◌, ◌/◌, ◌%◌, ◌^◌, ◌≤◌, ◌<◌, ◌∙◌, arith, unsigned_abs, w32, w64, ℤ, pos, ◌-ℤ◌, ◌*ℤ◌, FitsSigned, to_z, of_z}
use Rattle.std.proofs.lemmas.Int.{to_z-of_z, wrapping_mul_is, int_wrap_fits, fits_signed_mul, fits_signed_from_abs, ints}
use Rattle.std.proofs.Math.Dec.{leb}
use Rattle.std.proofs.Math.Pow.{pow_mono}
use Rattle.rules.specs.Settle.{near}
use Rattle.weight_nearness.proofs.weight_near.Goals as goal

-- a difference is at most a hundredth of t if a hundred of it are at most t
hundredths : (d t : ℕ) → leb d (t / 100) ≡ leb (100 * d) t
hundredths d t = grind arith

shifted : (a : ℤ) (p : ℕ) → p ≤ 13 → unsigned_abs a < 2 ^ 32 → to_z w64 (of_z w64 a * 2 ^ p % 18446744073709551616) ≡ a *ℤ pos (2 ^ p)
shifted a p k l =
    let most : 2 ^ p ≤ 8192 = pow_mono k in
    let f : FitsSigned w64 a = fits_signed_from_abs w64 a (omega arith) in
    let g : FitsSigned w64 (pos (2 ^ p)) = record { sfits = omega arith } in
    let h : FitsSigned w64 (a *ℤ pos (2 ^ p)) = fits_signed_mul w64 a (pos (2 ^ p)) 4294967295 8192 (omega arith) most (omega arith) in
    wrapping_mul_is w64 a (pos (2 ^ p)) f g ∙ int_wrap_fits w64 (a *ℤ pos (2 ^ p)) h

pub returns : goal.returns
unfolding near
returns c =
    let a = c.args in
    let f : FitsSigned w32 a.w = search rules in
    let f' : FitsSigned w64 a.w = record { sfits = omega (arith, f.sfits) } in
    let g : FitsSigned w64 (pos a.d) = record { sfits = omega arith } in
    let h : FitsSigned w64 (a.w *ℤ pos a.d) = fits_signed_mul w64 a.w (pos a.d) 2147483648 4294967295 (omega (arith, f.sfits, ints)) (omega arith) (omega arith) in
    let s = shifted a.a a.precision c.requires.precise c.requires.small in
    let e : c.abs_diff.result ≡ unsigned_abs (a.w *ℤ pos a.d -ℤ a.a *ℤ pos (2 ^ a.precision)) = simp (c.from.ensures, c.from-2.ensures, to_z-of_z, s) at c.abs_diff.ensures in
    (λ i. leb (e i) (51 * c.from-3.ensures i / 100)) ∙ hundredths (unsigned_abs (a.w *ℤ pos a.d -ℤ a.a *ℤ pos (2 ^ a.precision))) (51 * a.d)
