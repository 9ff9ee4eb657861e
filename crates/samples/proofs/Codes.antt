-- A code from 0 to m is its size, and is below 2^d. Assumes nothing.
use mathlib.Core.Path.{◌≡◌, subst⁻¹}
use mathlib.Core.Bool.{Bool, true, false}
use Prim.Native.Nat.{ℕ, ◌^◌, ◌≤◌, ◌<◌}
use native.Mathlib.Nat.{le_trans}
use native.Mathlib.Omega.{arith}
use lib.Dec.{T, leb→le, le→leb}
use lib.IntN.{ℤ, pos, negsuc, nat_abs}
use lib.Pow.{pow_mono, pow_pos}
use lib.Signed.{non_neg}
use Rattle.rules.specs.declared.Settings.{Settings}
use Rattle.rules.specs.declared.Weights.{Weights}
use Rattle.rules.specs.declared.Triple.{Triple}
use Rattle.rules.specs.declared.Pixel.{Pixel}
use Rattle.rules.specs.Ranges.{most, uv_bias}
use Rattle.rules.specs.Sample.{signed_code, code}
use Rattle.rule_laws.specs.Codes.{Between, Coded}
use Rattle.rule_laws.specs.Usable.{Usable}
use Rattle.tolerance_laws.specs.Chroma.{chroma_row}

pub most_small : (d : ℕ) → d ≤ 16 → most d ≤ 65535
most_small d h = omega (arith, pow_mono h)

-- its sign and its size
pub nonneg : (m : ℕ) (z : ℤ) → Between (pos 0) (pos m) z → T (non_neg z)
nonneg m (pos n) b = tt
nonneg m (negsuc n) b = b.low

pub size : (m : ℕ) (z : ℤ) → Between (pos 0) (pos m) z → nat_abs z ≤ m
size m (pos n) b = leb→le n m b.high
size m (negsuc n) b = absurd b.low

pub wider : {m n : ℕ} (z : ℤ) → m ≤ n → Between (pos 0) (pos m) z → Between (pos 0) (pos n) z
wider {m} {n} (pos k) h b = record { low = b.low; high = le→leb k n (le_trans (leb→le k m b.high) h) }
wider (negsuc k) h b = record { low = b.low; high = tt }

pub code_below : (d precision bias : ℕ) (w : Triple) (p : Pixel) → Between (pos 0) (pos (most d)) (signed_code precision bias w p) → code precision bias w p < 2 ^ d
unfolding code
code_below d precision bias w p h = omega (arith, size (most d) (signed_code precision bias w p) h, pow_pos d)

-- the same of a bias and weights that were worked out
pub between_same : (m precision : ℕ) {b b' : ℕ} {w w' : Triple} (p : Pixel) → b ≡ b' → w ≡ w' → Between (pos 0) (pos m) (signed_code precision b' w' p) → Between (pos 0) (pos m) (signed_code precision b w p)
between_same m precision {b} {b'} {w} {w'} p e f h =
    subst⁻¹ (λ (n : ℕ). Between (pos 0) (pos m) (signed_code precision n w p)) e (subst⁻¹ (λ (t : Triple). Between (pos 0) (pos m) (signed_code precision b' t p)) f h)

-- Cb and Cr as one
pub chroma_coded : (s : Settings) (w : Weights) (u : Bool) → Usable s w → Coded s.precision (most s.depth) (uv_bias s.depth) (chroma_row u w)
chroma_coded s w true h = h.cb_coded
chroma_coded s w false h = h.cr_coded
