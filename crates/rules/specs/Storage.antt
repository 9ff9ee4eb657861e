-- Document 01, "Storage" and "well formed": a code as a stored word, and back. Definitions only.
use Rattle.std.specs.Prelude.{ℕ, ◌+◌, ◌-◌, ◌*◌, ◌/◌, ◌%◌, ◌^◌, Bool, eqb, leb}
use Rattle.rules.specs.declared.YuvBytesPacking.{YuvBytesPacking}
use Rattle.rules.specs.declared.YuvBytesPacking.TheVariants.{MostSignificantBytes, LeastSignificantBytes}
use Rattle.rules.specs.declared.YuvEndianness.{YuvEndianness}
use Rattle.rules.specs.declared.YuvEndianness.TheVariants.{BigEndian, LittleEndian}
use Rattle.rules.specs.Ranges.{most}

-- "most-significant packing multiplies the code by 2^(16−d), least-significant keeps it"
abbrev pub packed : YuvBytesPacking → ℕ → ℕ → ℕ
packed MostSignificantBytes d c = c * 2 ^ (16 - d)
packed LeastSignificantBytes d c = c

-- "big endian then exchanges the two bytes of the u16"; doing it again undoes it
abbrev pub exchanged : YuvEndianness → ℕ → ℕ
exchanged BigEndian v = v % 256 * 256 + v / 256
exchanged LittleEndian v = v

-- a code of d bits as a stored word
unfoldable pub word : YuvBytesPacking → YuvEndianness → ℕ → ℕ → ℕ
word k e d c = exchanged e (packed k d c)

-- the code that a word holds
abbrev pub unpacked : YuvBytesPacking → ℕ → ℕ → ℕ
unpacked MostSignificantBytes d v = v / 2 ^ (16 - d)
unpacked LeastSignificantBytes d v = v

-- "most-significant packing has its low 16−d bits zero, or least-significant packing is at most m"
abbrev pub in_place : YuvBytesPacking → ℕ → ℕ → Bool
in_place MostSignificantBytes d v = eqb (v % 2 ^ (16 - d)) 0
in_place LeastSignificantBytes d v = leb v (most d)

-- "A stored sample is well formed when, after undoing the byte exchange," it is
abbrev pub well_formed : YuvBytesPacking → YuvEndianness → ℕ → ℕ → Bool
well_formed k e d v = in_place k d (exchanged e v)

abbrev pub stored : YuvBytesPacking → YuvEndianness → ℕ → ℕ → ℕ
stored k e d v = unpacked k d (exchanged e v)
