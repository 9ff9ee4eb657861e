-- A pixel in two steps: what a chroma pair adds to the sums of all pixels over it, and what the pixel's own luma adds to that. Definitions and
-- statements only.
use Rattle.std.specs.Prelude.{ℕ, ◌≤◌, ◌≡◌, Bool, true, ℤ, pos, nat_abs, ◌+ℤ◌, ◌-ℤ◌, ◌*ℤ◌}
use Rattle.std.specs.Int.Signed.{shr_z}
use Rattle.rules.specs.declared.Pixel.{Pixel}
use Rattle.rules.specs.ToRgb.{held}
use Rattle.restoring_weights.specs.declared.RestoringWeights.{RestoringWeights}
use Rattle.restored_pixels.specs.declared.ChromaTerms.{ChromaTerms}

-- by the words that stand in the pair for the pixel's first element and for its third
abbrev pub chroma_terms : RestoringWeights → ℕ → ℕ → ChromaTerms
chroma_terms r a b = record {
  first = r.first.start +ℤ r.first.own *ℤ pos a;
  green = r.green_start -ℤ r.first.green *ℤ pos a -ℤ r.third.green *ℤ pos b;
  third = r.third.start +ℤ r.third.own *ℤ pos b;
}

abbrev pub channel_by : ℕ → ℤ → ℕ
channel_by m sum = held m (shr_z sum 524288)

-- the elements of a pixel as they stand in the buffer, as if that were Rgb
abbrev pub pixel_by : ℕ → RestoringWeights → ℕ → ChromaTerms → Pixel
pixel_by m r y c = record {
  red = channel_by m (r.luma *ℤ pos y +ℤ c.first);
  green = channel_by m (r.luma *ℤ pos y +ℤ c.green);
  blue = channel_by m (r.luma *ℤ pos y +ℤ c.third);
}

-- sums of these do not leave 64 bits
pub record SmallTerms (c : ChromaTerms) : Type 0 where
  pub first : nat_abs c.first ≤ 2199023255552
  pub green : nat_abs c.green ≤ 2199023255552
  pub third : nat_abs c.third ≤ 2199023255552

-- z is a natural number, and at most m
pub record UpTo (m : ℕ) (z : ℤ) : Type 0 where
  pub is : z ≡ pos (nat_abs z)
  pub small : nat_abs z ≤ m

-- a test that passes only where each of three numbers is 0 to m
pub record OnlyUpTo (m : ℕ) (a b c : ℤ) (t : Bool) : Type 0 where
  pub first : t ≡ true → UpTo m a
  pub second : t ≡ true → UpTo m b
  pub third : t ≡ true → UpTo m c
