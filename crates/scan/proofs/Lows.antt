-- Pictures of which no sample exceeds m, and that nothing is found in them. Assumes nothing.
use Rattle.std.proofs.Common.{None}
use mathlib.Core.Path.{◌≡◌, sym, ap, ◌∙◌, subst}
use mathlib.Core.Bool.{true}
use mathlib.Core.List.{List}
use Prim.Native.Nat.{ℕ, ◌+◌, ◌*◌, ◌/◌, ◌%◌, ◌≤◌, ◌<◌}
use native.Mathlib.Nat.{mul-mod_left, mul-add-mod_self_right, mod-eq_of_lt}
use native.Mathlib.Omega.{arith}
use lib.ListN.{get_or}
use borrow.Author.Tests.{le-leb}
use borrow.Author.Count.{below_more}
use Rattle.rules.specs.declared.Frame.{Frame}
use Rattle.rules.specs.declared.YuvSourceChannels.{YuvSourceChannels}
use Rattle.rules.specs.Channels.{Picture, count}
use Rattle.rules.specs.Search.{Clean}
use Rattle.rules.specs.Frames.{window, colour_sample, low_test, too_large}
use Rattle.rule_laws.specs.Codes.{Low}
use Rattle.plane_laws.proofs.Searches.{clean_none}
use Rattle.frames.specs.Rows.{row_pixel, Shows, LowRow, LowPicture}
use Rattle.frames.specs.SourceRows.{SourceRow}
use Rattle.row_bounds.specs.Bounds.{Alike, BoundsAt, Bounds}
use Rattle.frames.proofs.Places.{places}
use Rattle.row_search.proofs.Lows.{placed_low, low_channel}
use Rattle.scan.specs.Fours.{LowFour}

-- ---- what is low

-- the same row, as a part of a buffer shows it
pub row_shown : {c : YuvSourceChannels} {part : List ℕ} {px : Picture} {m width row : ℕ} → Shows c part px row width → LowRow m (row_pixel c part) width → LowRow m (px row) width
row_shown {m} e l = record { low = λ x b. subst (Low m) (e.same x b) (l.low x b) }

-- four rows of a source, side by side
module _ {c : YuvSourceChannels} {f : Frame} {source : List ℕ} {i j k l : ℕ} {o p q r : List ℕ} (one : SourceRow c f source i o) (two : SourceRow c f source j p) (three : SourceRow c f source k q) (four : SourceRow c f source l r) where
  pub alike : Alike (count c) o p q r
  alike =
      record {
        whole = ap (λ (n : ℕ). n % count c) one.long ∙ mul-mod_left f.width (count c);
        second = two.long ∙ sym one.long;
        third = three.long ∙ sym one.long;
        fourth = four.long ∙ sym one.long;
      }

  -- a bound of their colour samples
  module _ {m : ℕ} (h : Bounds m (count c) o p q r) where
    at : (x d : ℕ) → d < 3 → x * count c + d < f.width * count c → BoundsAt m o p q r (x * count c + d)
    at x d b inside =
        let e = mul-add-mod_self_right x (count c) d ∙ mod-eq_of_lt (omega (arith, (places c).least)) in
        h.each (x * count c + d) (omega (arith, one.long)) (omega (arith, e))

    low : {row : ℕ} {part : List ℕ} → SourceRow c f source row part → ((n : ℕ) → BoundsAt m o p q r n → get_or part n 0 ≤ m) → LowRow m (window c f source row) f.width
    low {row} {part} s e =
        row_shown s.shows (placed_low c m f.width part (omega (arith, s.long)) (λ x d w b inside. e _ (at x d b (omega (arith, inside, s.long)))))

    -- where each is the next row, or there is no such row
    pub low_four : (i + 1 < f.height → j ≡ i + 1) → (i + 2 < f.height → k ≡ i + 2) → (i + 3 < f.height → l ≡ i + 3) → LowFour m (window c f source) f.width f.height i
    low_four second third fourth =
        let Row : ℕ → Type 0 = λ n. LowRow m (window c f source n) f.width in
        let Next : ℕ → Type 0 = λ n. i ≤ n → n < f.height → Row n in
        let a : (n : ℕ) → n < i + 1 → Next n = below_more Next i (λ n below from. absurd (omega (arith, below, from))) (λ from within. low one (λ n b. b.first)) in
        let b : (n : ℕ) → n < i + 1 + 1 → Next n = below_more Next (i + 1) a (λ from within. subst Row (second within) (low two (λ n b. b.second))) in
        let d : (n : ℕ) → n < i + 1 + 1 + 1 → Next n = below_more Next (i + 1 + 1) b (λ from within. subst Row (omega (arith, third (omega (arith, within)))) (low three (λ n b. b.third))) in
        let e : (n : ℕ) → n < i + 1 + 1 + 1 + 1 → Next n = below_more Next (i + 1 + 1 + 1) d (λ from within. subst Row (omega (arith, fourth (omega (arith, within)))) (low four (λ n b. b.fourth))) in
        record { low = λ n from below within. e n (omega (arith, below)) from within }

-- every element of a source
pub all_low : (c : YuvSourceChannels) (m : ℕ) (f : Frame) (source : List ℕ) → ((i : ℕ) → get_or source i 0 ≤ m) → LowPicture m (window c f source) f.width f.height
all_low c m f source h = record { low = λ row b. record { low = λ x l. record { red = h _; green = h _; blue = h _ } } }

-- ---- nothing is found there

sample_low : (m row width : ℕ) (px : Picture) → LowRow m (px row) width → (i : ℕ) → i < 3 * width → low_test m px row i ≡ true
sample_low m row width px l i b = le-leb (colour_sample px row i) m (low_channel m (i % 3) (px row (i / 3)) (l.low (i / 3) (omega arith)))

pub rows_clean : (m width rows : ℕ) (px : Picture) → LowPicture m px width rows → Clean (low_test m px) (3 * width) rows
rows_clean m width rows px l = record { clean = λ row i b k. sample_low m row width px (l.low row b) i k }

pub picture_nothing : (m : ℕ) (f : Frame) (px : Picture) → LowPicture m px f.width f.height → too_large m f px ≡ None
unfolding too_large
picture_nothing m f px l = clean_none (low_test m px) (3 * f.width) f.height (rows_clean m f.width f.height px l)
