-- A stored code reads back as itself, and the well-formed words are those that a code is stored as. Assumes nothing.
use mathlib.Core.Path.{◌≡◌, refl, ap, ◌∙◌, subst}
use mathlib.Core.Bool.{true}
use mathlib.Core.Logic.{◌↔◌}
use Prim.Native.Nat.{ℕ, ◌-◌, ◌*◌, ◌%◌, ◌^◌, ◌≤◌, ◌<◌}
use native.Mathlib.Nat.{lt_of_lt_of_le, mul-mod_left}
use native.Mathlib.Omega.{arith}
use lib.Pow.{pow_mono, shl_lt, shr_lt, shl-shr, split, le_ones, lt_of_le_ones}
use borrow.Author.Tests.{eqb-true, leb-true, eq-eqb, le-leb}
use Rattle.rules.specs.declared.YuvBytesPacking.{YuvBytesPacking}
use Rattle.rules.specs.declared.YuvBytesPacking.TheVariants.{MostSignificantBytes, LeastSignificantBytes}
use Rattle.rules.specs.declared.YuvEndianness.{YuvEndianness}
use Rattle.rules.specs.declared.YuvEndianness.TheVariants.{BigEndian, LittleEndian}
use Rattle.rules.specs.Ranges.{most}
use Rattle.rules.specs.Storage.{packed, exchanged, word, unpacked, in_place, well_formed, stored}

-- ---- the byte exchange

-- two bytes stay two bytes
pub exchanged_fits : (e : YuvEndianness) {v : ℕ} → v < 65536 → exchanged e v < 65536
exchanged_fits BigEndian h = omega arith
exchanged_fits LittleEndian h = h

-- the exchange undoes itself
pub exchanged_twice : (e : YuvEndianness) {v : ℕ} → v < 65536 → exchanged e (exchanged e v) ≡ v
exchanged_twice BigEndian h = omega arith
exchanged_twice LittleEndian h = refl

-- ---- the place of a code

-- taken from its place, a code is itself
unpacked_packed : (k : YuvBytesPacking) (d c : ℕ) → unpacked k d (packed k d c) ≡ c
unpacked_packed MostSignificantBytes d c = shl-shr c (16 - d)
unpacked_packed LeastSignificantBytes d c = refl

-- put back in its place, a code is all that the word held
pub packed_unpacked : (k : YuvBytesPacking) (d v : ℕ) → in_place k d v ≡ true → packed k d (unpacked k d v) ≡ v
packed_unpacked MostSignificantBytes d v h = omega (arith, split v (16 - d), eqb-true (v % 2 ^ (16 - d)) 0 h)
packed_unpacked LeastSignificantBytes d v h = refl

packed_in_place : (k : YuvBytesPacking) (d : ℕ) {c : ℕ} → c ≤ most d → in_place k d (packed k d c) ≡ true
packed_in_place MostSignificantBytes d {c} h = eq-eqb (c * 2 ^ (16 - d) % 2 ^ (16 - d)) 0 (mul-mod_left c (2 ^ (16 - d)))
packed_in_place LeastSignificantBytes d {c} h = le-leb c (most d) h

pub packed_fits : (k : YuvBytesPacking) (d : ℕ) {c : ℕ} → d ≤ 16 → c ≤ most d → packed k d c < 65536
packed_fits MostSignificantBytes d deep h = lt_of_lt_of_le (shl_lt d (16 - d) (lt_of_le_ones d h)) (pow_mono {j = 16} (omega arith))
packed_fits LeastSignificantBytes d deep h = lt_of_lt_of_le (lt_of_le_ones d h) (pow_mono {j = 16} deep)

unpacked_small : (k : YuvBytesPacking) (d : ℕ) {v : ℕ} → d ≤ 16 → v < 65536 → in_place k d v ≡ true → unpacked k d v ≤ most d
unpacked_small MostSignificantBytes d deep h f = le_ones d (shr_lt d (16 - d) (lt_of_lt_of_le h (pow_mono {i = 16} (omega arith))))
unpacked_small LeastSignificantBytes d {v} deep h f = leb-true v (most d) f

-- ---- a code as a word, and back: for any packing, any byte order and any depth up to 16

module _ (k : YuvBytesPacking) (e : YuvEndianness) (d : ℕ) (deep : d ≤ 16) where
  -- with the bytes exchanged back, a word is the code in its place
  undone : {c : ℕ} → c ≤ most d → exchanged e (word k e d c) ≡ packed k d c
  unfolding word
  undone h = exchanged_twice e (packed_fits k d deep h)

  -- a stored code reads back as itself
  pub reads_back : {c : ℕ} → c ≤ most d → stored k e d (word k e d c) ≡ c
  reads_back {c} h = ap (unpacked k d) (undone h) ∙ unpacked_packed k d c

  -- and its word is well formed
  pub word_formed : {c : ℕ} → c ≤ most d → well_formed k e d (word k e d c) ≡ true
  word_formed h = ap (in_place k d) (undone h) ∙ packed_in_place k d h

  -- a well-formed word holds a code that is stored as it
  pub formed_word : {v : ℕ} → v < 65536 → well_formed k e d v ≡ true → (word k e d (stored k e d v) ≡ v) × (stored k e d v ≤ most d)
  unfolding word
  formed_word {v} h f =
      (ap (exchanged e) (packed_unpacked k d (exchanged e v) f) ∙ exchanged_twice e h, unpacked_small k d deep (exchanged_fits e h) f)

  -- a word is well formed exactly when some code is stored as it
  pub formed_iff : {v : ℕ} → v < 65536 → (well_formed k e d v ≡ true) ↔ ((c : ℕ) × (c ≤ most d) × (word k e d c ≡ v))
  formed_iff {v} h =
      (λ f. (stored k e d v, (formed_word h f).1, (formed_word h f).0), λ t. subst (λ (w : ℕ). well_formed k e d w ≡ true) t.2 (word_formed t.1))
