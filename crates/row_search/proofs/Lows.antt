-- Rows of which no sample exceeds m, by the elements of a row part. Assumes nothing.
use mathlib.Core.Path.{◌≡◌, refl, ap, ◌∙◌}
use mathlib.Core.Bool.{true}
use mathlib.Core.List.{List}
use Prim.Native.Nat.{ℕ, zero, suc, ◌+◌, ◌*◌, ◌/◌, ◌%◌, ◌≤◌, ◌<◌}
use native.Mathlib.Nat.{le_trans, mul-mod_left, mul-add-mod_self_right, mod-eq_of_lt}
use native.Mathlib.Omega.{arith}
use lib.Dec.{leb}
use lib.ListN.{length, get_or}
use borrow.Author.Tests.{le-leb}
use Rattle.rules.specs.declared.Pixel.{Pixel}
use Rattle.rules.specs.declared.YuvSourceChannels.{YuvSourceChannels}
use Rattle.rules.specs.Channels.{count}
use Rattle.rules.specs.Frames.{channel_of}
use Rattle.rule_laws.specs.Codes.{Low}
use Rattle.plane_laws.proofs.Tables.{step_le}
use Rattle.frames.specs.Rows.{row_pixel, LowRow}
use Rattle.frames.proofs.Places.{places}
use Rattle.row_bounds.specs.Bounds.{Alike, Bounds}
use Rattle.row_search.specs.RowSamples.{sample_of}

-- a greater bound
pub row_less : {m n width : ℕ} {p : ℕ → Pixel} → m ≤ n → LowRow m p width → LowRow n p width
row_less h l =
    record { low = λ x b. let k = l.low x b in record { red = le_trans k.red h; green = le_trans k.green h; blue = le_trans k.blue h } }

-- every element of a part at which no alpha stands
pub placed_low : (c : YuvSourceChannels) (m width : ℕ) (part : List ℕ) → width * count c ≤ length part → ((x k : ℕ) → x < width → k < 3 → x * count c + k < length part → get_or part (x * count c + k) 0 ≤ m) → LowRow m (row_pixel c part) width
placed_low c m width part fits h =
    record {
      low = λ x b.
          let k = places c in
          let e = step_le x width (count c) (length part) b fits in
          record { red = h x _ b k.red (omega (arith, k.red)); green = h x _ b k.green (omega (arith, k.green)); blue = h x _ b k.blue (omega (arith, k.blue)) };
    }

-- one row, four times
module _ (c : YuvSourceChannels) (width : ℕ) (part : List ℕ) (long : length part ≡ width * count c) where
  pub itself : Alike (count c) part part part part
  itself = record { whole = ap (λ (n : ℕ). n % count c) long ∙ mul-mod_left width (count c); second = refl; third = refl; fourth = refl }

  pub bounded : {m n : ℕ} → n ≤ m → Bounds n (count c) part part part part → LowRow m (row_pixel c part) width
  bounded {m} {n} l h =
      row_less l
      (placed_low c n width part (omega (arith, long))
      (λ x d w b inside.
      let e = mul-add-mod_self_right x (count c) d ∙ mod-eq_of_lt (omega (arith, (places c).least, b)) in
      (h.each (x * count c + d) inside (omega (arith, e, b))).first))

pub low_channel : (m n : ℕ) (p : Pixel) → Low m p → channel_of n p ≤ m
low_channel m zero p l = l.red
low_channel m (suc zero) p l = l.green
low_channel m (suc (suc n)) p l = l.blue

-- no colour sample of a row fails, nor of the part that shows it
pub part_low : (c : YuvSourceChannels) (m width : ℕ) (part : List ℕ) → LowRow m (row_pixel c part) width → (i : ℕ) → i < 3 * width → leb (sample_of c part i) m ≡ true
part_low c m width part l i b = le-leb (sample_of c part i) m (low_channel m (i % 3) (row_pixel c part (i / 3)) (l.low (i / 3) (omega arith)))
