-- What is said of check for two sources that differ only in alpha, in padding and outside the window. Statements only.
use Rattle.std.specs.Prelude.{ℕ, ◌≡◌, List}
use Rattle.rules.specs.declared.Settings.{Settings}
use Rattle.rules.specs.declared.Frame.{Frame}
use Rattle.rules.specs.Check.{check}
use Rattle.frames.specs.Sources.{SameColours}

-- where a and b agree at every visible colour sample, check's promise is the same for both
abbrev pub SameAnswer : Settings → Frame → List ℕ → List ℕ → List ℕ → List ℕ → Type 0
SameAnswer s f a b luma chroma =
    SameColours s.channels f a b → check s f a luma chroma ≡ check s f b luma chroma
