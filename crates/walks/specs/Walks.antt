-- What a walk through a plane yields: the first wrong sample, by the picture that the source shows. Definitions only.
use Rattle.std.specs.Prelude.{ℕ, List}
use Rattle.rules.specs.declared.Settings.{Settings}
use Rattle.rules.specs.declared.Named.{Named}
use Rattle.rules.specs.declared.Frame.{Frame}
use Rattle.rules.specs.Blocks.{chroma_width, chroma_height}
use Rattle.rules.specs.Search.{first_failing, Search}
use Rattle.rules.specs.Frames.{shown}
use Rattle.rules.specs.Check.{luma_test, chroma_test}

abbrev pub wrong_luma : Settings → Named → Frame → List ℕ → List ℕ → Search
wrong_luma s k f source luma = first_failing (luma_test s k f (shown s f source) luma) f.width f.height

abbrev pub wrong_chroma : Settings → Named → Frame → List ℕ → List ℕ → Search
wrong_chroma s k f source chroma =
    first_failing (chroma_test s k f (shown s f source) chroma) (chroma_width s.subsampling f.width) (chroma_height s.subsampling f.height)
