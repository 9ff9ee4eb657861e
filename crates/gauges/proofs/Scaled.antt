-- A well-formed word is its code times the packing factor, and scaling by that factor keeps what lies within a bound. Assumes nothing.
use mathlib.Core.Path.{◌≡◌, sym, ◌∙◌}
use mathlib.Core.Bool.{true}
use Prim.Native.Nat.{ℕ, ◌+◌, ◌-◌, ◌*◌, ◌≤◌}
use native.Mathlib.Nat.{mul_comm, mul-sub, le_of_mul-le-mul_right}
use native.Mathlib.Omega.{arith}
use lib.Dec.{leb}
use borrow.Author.Tests.{leb-true, le-leb}
use Rattle.rules.specs.declared.Settings.{Settings}
use Rattle.rules.specs.Storage.{exchanged, stored}
use Rattle.tolerance_bounds.specs.Bound.{apart}
use Rattle.formed_rows.specs.Formed.{is_formed}
use Rattle.storage.proofs.PackingFactor.{factor_some, unpacked_is}
use Rattle.gauges.specs.Gauges.{factor_of}

pub word_scaled : (s : Settings) (v : ℕ) → is_formed s v ≡ true → exchanged s.endianness v ≡ stored s.packing s.endianness s.depth v * factor_of s
word_scaled s v h = unpacked_is s.packing s.depth (exchanged s.endianness v) h

-- ---- numbers that are all scaled by one factor
difference_scaled : (a b factor : ℕ) → a * factor - b * factor ≡ (a - b) * factor
difference_scaled a b factor = (λ i. mul_comm a factor i - mul_comm b factor i) ∙ sym (mul-sub factor a b) ∙ mul_comm factor (a - b)

apart_scaled : (a b factor : ℕ) → apart (a * factor) (b * factor) ≡ apart a b * factor
apart_scaled a b factor = (λ i. difference_scaled a b factor i + difference_scaled b a factor i) ∙ omega arith

pub near_scaled : (s : Settings) (a b bound : ℕ) → leb (apart (a * factor_of s) (b * factor_of s)) (bound * factor_of s) ≡ true → leb (apart a b) bound ≡ true
near_scaled s a b bound h =
    let factor = factor_of s in
    let far : apart a b * factor ≤ bound * factor = omega (arith, apart_scaled a b factor, leb-true (apart (a * factor) (b * factor)) (bound * factor) h) in
    le-leb (apart a b) bound (le_of_mul-le-mul_right far (factor_some s.packing s.depth))
