-- Laws of the packing factor: a well-formed word is its code times it. Assumes nothing.
use mathlib.Core.Path.{◌≡◌, refl, sym, ap, ◌∙◌}
use mathlib.Core.Bool.{true}
use Prim.Native.Nat.{ℕ, ◌+◌, ◌-◌, ◌*◌, ◌/◌, ◌^◌, ◌≤◌}
use native.Mathlib.Nat.{mul-one}
use native.Mathlib.Omega.{arith}
use lib.Pow.{pow-add, pow_pos, pow_mono, shl-shr}
use Rattle.rules.specs.declared.YuvBytesPacking.{YuvBytesPacking}
use Rattle.rules.specs.declared.YuvBytesPacking.TheVariants.{MostSignificantBytes, LeastSignificantBytes}
use Rattle.rules.specs.Storage.{packed, unpacked, in_place}
use Rattle.storage.specs.PackingFactor.{packing_factor}
use Rattle.storage.proofs.Words.{packed_unpacked}

-- 2^16 over 2^d
pub factor_is : (d : ℕ) → d ≤ 16 → 65536 / 2 ^ d ≡ 2 ^ (16 - d)
factor_is d h =
    let e : (16 - d) + d ≡ 16 = omega arith in
    ap (λ (n : ℕ). n / 2 ^ d) (sym (ap (λ (n : ℕ). 2 ^ n) e) ∙ pow-add 2 (16 - d) d) ∙ shl-shr (2 ^ (16 - d)) d

pub factor_some : (k : YuvBytesPacking) (d : ℕ) → 1 ≤ packing_factor k d
factor_some MostSignificantBytes d = pow_pos (16 - d)
factor_some LeastSignificantBytes d = omega arith

pub factor_few : (k : YuvBytesPacking) (d : ℕ) → 10 ≤ d → packing_factor k d ≤ 64
factor_few MostSignificantBytes d h = pow_mono {i = 16 - d} {j = 6} (omega arith)
factor_few LeastSignificantBytes d h = omega arith

pub factor_room : (k : YuvBytesPacking) (d : ℕ) → d ≤ 16 → 2 ^ d * packing_factor k d ≤ 65536
factor_room MostSignificantBytes d h =
    let e : d + (16 - d) ≡ 16 = omega arith in
    let q : 2 ^ d * 2 ^ (16 - d) ≡ 65536 = sym (pow-add 2 d (16 - d)) ∙ ap (λ (n : ℕ). 2 ^ n) e in
    omega (arith, q)
factor_room LeastSignificantBytes d h = omega (arith, pow_mono {i = d} {j = 16} h)

pub packed_is : (k : YuvBytesPacking) (d c : ℕ) → c * packing_factor k d ≡ packed k d c
packed_is MostSignificantBytes d c = refl
packed_is LeastSignificantBytes d c = mul-one c

-- a word that is in place, by the code that it holds
pub unpacked_is : (k : YuvBytesPacking) (d v : ℕ) → in_place k d v ≡ true → v ≡ unpacked k d v * packing_factor k d
unpacked_is k d v h = sym (packed_is k d (unpacked k d v) ∙ packed_unpacked k d v h)
