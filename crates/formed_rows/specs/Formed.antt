-- Which words, and which rows of words, are well formed. Definitions and statements only.
use Rattle.std.specs.Prelude.{ℕ, ◌<◌, ◌≡◌, Bool, true, ◌&&◌, List, [], ◌∷◌, length, get_or}
use Rattle.rules.specs.declared.Settings.{Settings}
use Rattle.rules.specs.Storage.{well_formed}

-- a word is well formed
abbrev pub is_formed : Settings → ℕ → Bool
is_formed s v = well_formed s.packing s.endianness s.depth v

-- all words of a row are: as a test
unfoldable pub all_formed : Settings → List ℕ → Bool
all_formed s [] = true
all_formed s (v ∷ vs) = is_formed s v && all_formed s vs

-- and as a statement of each word
pub record AllFormed (s : Settings) (part : List ℕ) : Type 0 where
  pub each : (e : ℕ) → e < length part → is_formed s (get_or part e 0) ≡ true
