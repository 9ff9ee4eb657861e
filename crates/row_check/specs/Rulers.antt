-- What the pairs of a chroma row are compared by. Definitions only.
use Rattle.std.specs.Prelude.{Bool, true, false}
use Rattle.rules.specs.declared.Settings.{Settings}
use Rattle.rules.specs.declared.Named.{Named}
use Rattle.blocks.specs.Tiles.{paired}
use Rattle.check_limits.specs.declared.SettingsLimits.{SettingsLimits}
use Rattle.check_limits.specs.Limits.{own_limit}
use Rattle.gauges.specs.Gauges.{factor_of, shares_of, gauge_of}
use Rattle.gauged_chroma.specs.declared.Ruler.{Ruler}

-- by whether their blocks have two rows
abbrev pub ruler_of : Settings → Named → SettingsLimits → Bool → Ruler
ruler_of s k limits two = record {
  channels = s.channels;
  endianness = s.endianness;
  order = s.order;
  shares = shares_of k limits.ranges.range_uv (factor_of s);
  cb = gauge_of limits.ranges.bias_uv (own_limit limits true (paired s.subsampling) two) (factor_of s);
  cr = gauge_of limits.ranges.bias_uv (own_limit limits false (paired s.subsampling) two) (factor_of s);
}
