-- A row whose samples pass by their gauges is right. Assumes nothing.
use mathlib.Core.Path.{◌≡◌, subst}
use mathlib.Core.Bool.{Bool, true, false}
use mathlib.Core.List.{List}
use Prim.Native.Nat.{ℕ, ◌+◌, ◌*◌, ◌≤◌, ◌<◌}
use native.Mathlib.Omega.{arith}
use lib.ListN.{length, get_or}
use Rattle.rules.specs.declared.Settings.{Settings}
use Rattle.rules.specs.declared.Named.{Named}
use Rattle.rules.specs.Channels.{u_at, v_at}
use Rattle.rules.specs.Blocks.{chroma_width}
use Rattle.blocks.specs.Tiles.{paired, left_of, tiles}
use Rattle.fractions.specs.declared.Sums.{Sums}
use Rattle.fractions.specs.Sums.{sums_of}
use Rattle.formed_rows.specs.Formed.{AllFormed}
use Rattle.frames.specs.Rows.{row_pixel}
use Rattle.check_limits.specs.declared.SettingsLimits.{SettingsLimits}
use Rattle.check_limits.specs.Limits.{LimitsOf}
use Rattle.sample_check.specs.Samples.{block_right, chroma_element_right}
use Rattle.gauges.proofs.Gauged.{chroma_true}
use Rattle.gauges.specs.Prefixes.{Passed}
use Rattle.gauges.proofs.Prefixes.{passed_pairs}
use Rattle.gauged_chroma.specs.declared.Ruler.{Ruler}
use Rattle.gauged_chroma.specs.Pairing.{whole_pairs, pair_near}
use Rattle.gauged_chroma.proofs.Pairs.{u_low, v_low, whole_inside, whole_wide, both_near}
use Rattle.row_check.specs.Rulers.{ruler_of}
use Rattle.row_check.proofs.Elements.{WordRight, elements}

module _ (s : Settings) (k : Named) (limits : SettingsLimits) (h : LimitsOf s k limits) (width : ℕ) (two : Bool) (top low chroma : List ℕ) (formed : AllFormed s chroma) (room : chroma_width s.subsampling width ≤ length chroma) where
  -- the sums of a pair's block, by what it is compared by
  abbrev sums : Ruler → ℕ → Sums
  sums m pair = sums_of (tiles (paired s.subsampling) two (row_pixel m.channels top) (row_pixel m.channels low) (left_of s.subsampling pair))

  -- a word of a pair, as a word of its block
  as_block : (u : Bool) (pair n : ℕ) → pair < whole_pairs s.subsampling width →
      block_right s k u (tiles (paired s.subsampling) two (row_pixel s.channels top) (row_pixel s.channels low) (left_of s.subsampling pair)) (get_or chroma n 0) ≡ true →
      WordRight s k width two top low chroma pair u n
  as_block u pair n l e =
      subst (λ (w : Bool). block_right s k u (tiles w two (row_pixel s.channels top) (row_pixel s.channels low) (left_of s.subsampling pair)) (get_or chroma n 0) ≡ true) (whole_wide s.subsampling width pair l) e

  pair_right : (pair : ℕ) → pair < whole_pairs s.subsampling width → pair_near (ruler_of s k limits two) (sums (ruler_of s k limits two) pair) chroma pair ≡ true →
      (chroma_element_right s k width two top low chroma (2 * pair) ≡ true)
      × (chroma_element_right s k width two top low chroma (2 * pair + 1) ≡ true)
  pair_right pair l e =
      let sub = s.subsampling in
      let t = row_pixel s.channels top in
      let b = row_pixel s.channels low in
      let near = both_near (ruler_of s k limits two) (sums (ruler_of s k limits two) pair) chroma pair e in
      let u-in : 2 * pair + u_at s.order < length chroma = omega (arith, whole_inside sub width, room, l, u_low s.order) in
      let v-in : 2 * pair + v_at s.order < length chroma = omega (arith, whole_inside sub width, room, l, v_low s.order) in
      elements s k width two top low chroma pair
      (as_block true pair (2 * pair + u_at s.order) l (chroma_true s _ (formed.each _ u-in) k limits h true (paired sub) two t b (left_of sub pair) near.0))
      (as_block false pair (2 * pair + v_at s.order) l (chroma_true s _ (formed.each _ v-in) k limits h false (paired sub) two t b (left_of sub pair) near.1))

  pub row_right : (m : Ruler) (n : ℕ) → m ≡ ruler_of s k limits two → Passed (λ (pair : ℕ). pair_near m (sums m pair) chroma pair) (whole_pairs s.subsampling width) n →
      Passed (chroma_element_right s k width two top low chroma) (chroma_width s.subsampling width) (2 * n)
  row_right m n e p =
      passed_pairs n (omega (arith, p.most, whole_inside s.subsampling width))
      (λ pair l. pair_right pair (omega (arith, l, p.most)) (subst (λ (x : Ruler). pair_near x (sums x pair) chroma pair ≡ true) e (p.right pair l)))
