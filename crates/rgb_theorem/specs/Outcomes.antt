-- What the promise of turning a frame back admits, and which elements of the buffer lie in the window. Statements only.
use Rattle.rules.specs.Refusals.{Verdict}
use Rattle.std.specs.Prelude.{ℕ, ◌+◌, ◌*◌, ◌<◌, ◌≡◌, List}
use Rattle.rules.specs.declared.Settings.{Settings}
use Rattle.rules.specs.declared.Frame.{Frame}
use Rattle.rules.specs.declared.YuvSourceChannels.{YuvSourceChannels}
use Rattle.rules.specs.Channels.{count}
use Rattle.rules.specs.Answers.{converted_answer}
use Rattle.rules.specs.ToRgb.{to_rgb, rgb_after}

pub record Admitted (s : Settings) (f : Frame) (luma chroma rgb : List ℕ) (a : Verdict) (x : List ℕ) : Type 0 where
  pub answer_is : converted_answer a ≡ to_rgb s f luma chroma rgb
  pub rgb_is : x ≡ rgb_after s f luma chroma rgb

-- the index of an element of a window's row
abbrev pub index_of : YuvSourceChannels → Frame → ℕ → ℕ → ℕ
index_of c f row e = (f.first_row + row) * f.source_stride + f.first_column * count c + e

-- an index is that of no element of the window
abbrev pub Outside : YuvSourceChannels → Frame → ℕ → Type 0
Outside c f k = (row e : ℕ) → row < f.height → e < f.width * count c → k ≡ index_of c f row e → ⊥
