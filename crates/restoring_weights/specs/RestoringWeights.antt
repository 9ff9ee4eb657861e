-- The weights of the way back as rows use them: scaled so that a sum over stored words, divided by 2^19, is a channel. Definitions and
-- statements only.
use Rattle.std.specs.Prelude.{ℕ, ◌-◌, ◌*◌, ◌/◌, ◌^◌, ◌≤◌, ℤ, pos, nat_abs, ◌+ℤ◌, ◌-ℤ◌, ◌*ℤ◌}
use Rattle.rules.specs.declared.Settings.{Settings}
use Rattle.rules.specs.declared.InverseWeights.{InverseWeights}
use Rattle.rules.specs.declared.YuvNVOrder.{YuvNVOrder}
use Rattle.rules.specs.declared.YuvSourceChannels.{YuvSourceChannels}
use Rattle.rules.specs.declared.YuvSourceChannels.TheVariants.{Rgb, Rgba, Bgra, Bgr}
use Rattle.rules.specs.Ranges.{y_bias, uv_bias}
use Rattle.rules.specs.Channels.{u_at, v_at}
use Rattle.storage.specs.PackingFactor.{packing_factor}
use Rattle.restoring_weights.specs.declared.ChromaSide.{ChromaSide}
use Rattle.restoring_weights.specs.declared.OuterWeights.{OuterWeights}
use Rattle.restoring_weights.specs.declared.RestoringWeights.{RestoringWeights}

-- ---- the two sides of a chroma pair: red's and blue's

abbrev pub cr_side : YuvNVOrder → InverseWeights → ChromaSide
cr_side o w = record { at = v_at o; own = w.cr_coef; green = w.g_coeff_1 }

abbrev pub cb_side : YuvNVOrder → InverseWeights → ChromaSide
cb_side o w = record { at = u_at o; own = w.cb_coef; green = w.g_coeff_2 }

-- the side of a pixel's first element, which is red or blue, and that of its third
abbrev pub first_side : YuvSourceChannels → YuvNVOrder → InverseWeights → ChromaSide
first_side Rgb o w = cr_side o w
first_side Rgba o w = cr_side o w
first_side Bgra o w = cb_side o w
first_side Bgr o w = cb_side o w

abbrev pub third_side : YuvSourceChannels → YuvNVOrder → InverseWeights → ChromaSide
third_side Rgb o w = cb_side o w
third_side Rgba o w = cb_side o w
third_side Bgra o w = cr_side o w
third_side Bgr o w = cr_side o w

-- ---- scaled

-- a stored word is its code times the packing factor, which divides 64: weights times this scale, over words, sum up to 2^(19 − P) times the sum over codes
abbrev pub factor_of : Settings → ℕ
factor_of s = packing_factor s.packing s.depth

abbrev pub scale_of : Settings → ℕ
scale_of s = 2 ^ (13 - s.precision) * (64 / factor_of s)

-- 2^(P−1) − 1, times 2^(19 − P)
abbrev pub rounding : Settings → ℕ
rounding s = (2 ^ (s.precision - 1) - 1) * 2 ^ (19 - s.precision)

-- the biases as stored words
abbrev pub bias_word_y : Settings → ℕ
bias_word_y s = y_bias s.range s.depth * factor_of s

abbrev pub bias_word_uv : Settings → ℕ
bias_word_uv s = uv_bias s.depth * factor_of s

abbrev pub luma_weight : Settings → InverseWeights → ℤ
luma_weight s w = w.y_coef *ℤ pos (scale_of s)

-- what each sum starts from, before the chroma's biases
abbrev pub luma_start : Settings → InverseWeights → ℤ
luma_start s w = pos (rounding s) -ℤ luma_weight s w *ℤ pos (bias_word_y s)

abbrev pub outer_weights : ℕ → ℕ → ℤ → ChromaSide → OuterWeights
outer_weights scale bias start side =
    record { at = side.at; own = side.own *ℤ pos scale; green = side.green *ℤ pos scale; start = start -ℤ side.own *ℤ pos scale *ℤ pos bias }

abbrev pub outer_of : Settings → InverseWeights → ChromaSide → OuterWeights
outer_of s w side = outer_weights (scale_of s) (bias_word_uv s) (luma_start s w) side

abbrev pub start_of_green : Settings → InverseWeights → OuterWeights → OuterWeights → ℤ
start_of_green s w a b = luma_start s w +ℤ a.green *ℤ pos (bias_word_uv s) +ℤ b.green *ℤ pos (bias_word_uv s)

abbrev pub restoring_weights : Settings → InverseWeights → RestoringWeights
restoring_weights s w =
    let a = outer_of s w (first_side s.channels s.order w) in
    let b = outer_of s w (third_side s.channels s.order w) in
    record { luma = luma_weight s w; first = a; third = b; green_start = start_of_green s w a b }

-- ---- their sizes

pub record SmallOuter (o : OuterWeights) : Type 0 where
  pub at : o.at ≤ 1
  pub own : nat_abs o.own ≤ 2097152
  pub green : nat_abs o.green ≤ 2097152
  pub start : nat_abs o.start ≤ 1099511627776

pub record SmallWeights (r : RestoringWeights) : Type 0 where
  pub luma : nat_abs r.luma ≤ 2097152
  pub first : SmallOuter r.first
  pub third : SmallOuter r.third
  pub green : nat_abs r.green_start ≤ 1099511627776
