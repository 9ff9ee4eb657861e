-- Bounds of four rows that are looked at side by side. Statements only.
use Rattle.std.specs.Prelude.{ℕ, ◌+◌, ◌%◌, ◌≤◌, ◌<◌, ◌≡◌, List, length, get_or}

-- four parts of whole pixels, each of `count` elements, and all of the first one's length
pub record Alike (count : ℕ) (a b c e : List ℕ) : Type 0 where
  pub whole : length a % count ≡ 0
  pub second : length b ≡ length a
  pub third : length c ≡ length a
  pub fourth : length e ≡ length a

-- m bounds the three elements of a part from `at` on
pub record BoundsThree (m : ℕ) (part : List ℕ) (at : ℕ) : Type 0 where
  pub first : get_or part at 0 ≤ m
  pub second : get_or part (at + 1) 0 ≤ m
  pub third : get_or part (at + 2) 0 ≤ m

-- m bounds element i of four parts
pub record BoundsAt (m : ℕ) (a b c e : List ℕ) (i : ℕ) : Type 0 where
  pub first : get_or a i 0 ≤ m
  pub second : get_or b i 0 ≤ m
  pub third : get_or c i 0 ≤ m
  pub fourth : get_or e i 0 ≤ m

-- m bounds the colour samples among their first n elements: the first three of each `count`
pub record BoundsBelow (m count : ℕ) (a b c e : List ℕ) (n : ℕ) : Type 0 where
  pub each : (i : ℕ) → i < n → i % count < 3 → BoundsAt m a b c e i

-- the same of all their elements
abbrev pub Bounds : ℕ → ℕ → List ℕ → List ℕ → List ℕ → List ℕ → Type 0
Bounds m count a b c e = BoundsBelow m count a b c e (length a)
