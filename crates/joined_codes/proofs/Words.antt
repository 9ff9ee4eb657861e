-- The two words in a sum of joined weights are those of the rules. Assumes nothing.
use mathlib.Core.Path.{◌≡◌, sym, ap, ◌∙◌, subst⁻¹}
use mathlib.Core.Bool.{Bool}
use Prim.Native.Nat.{ℕ, ◌+◌, ◌-◌, ◌*◌, ◌/◌, ◌%◌, ◌^◌, ◌≤◌, ◌<◌}
use native.Mathlib.Nat.{div-add-mod'}
use native.Mathlib.Omega.{arith}
use lib.Dec.{T}
use lib.Pow.{pow-add, pow_mono, pow_pos}
use lib.Bits.{bit_and, and_block, and_mask}
use lib.IntN.{ℤ, pos, nat_abs}
use lib.Signed.{non_neg}
use Rattle.rules.specs.declared.Settings.{Settings}
use Rattle.rules.specs.declared.Weights.{Weights}
use Rattle.rules.specs.declared.Pixel.{Pixel}
use Rattle.rules.specs.declared.YuvBytesPacking.{YuvBytesPacking}
use Rattle.rules.specs.declared.YuvBytesPacking.TheVariants.{MostSignificantBytes, LeastSignificantBytes}
use Rattle.rules.specs.Ranges.{most, y_bias, uv_bias}
use Rattle.rules.specs.Weights.{luma_row}
use Rattle.rules.specs.Channels.{is_u}
use Rattle.rules.specs.Sample.{code}
use Rattle.rules.specs.Storage.{packed}
use Rattle.rule_laws.specs.Codes.{Low}
use Rattle.rule_laws.specs.Usable.{Usable}
use Rattle.tolerance_laws.specs.Chroma.{chroma_row}
use Rattle.samples.proofs.Codes.{chroma_coded, code_below}
use Rattle.storage.specs.PackingFactor.{packing_factor}
use Rattle.storage.proofs.PackingFactor.{packed_is}
use Rattle.storage.proofs.Words.{packed_fits}
use Rattle.joined_weights.specs.declared.JoinedWeights.{JoinedWeights}
use Rattle.joined_weights.specs.declared.FrameWeights.{FrameWeights}
use Rattle.joined_weights.specs.JoinedWeights.{joined_weights, shared_weights, scaled_start, scaled_weights, bits_below, frame_weights}
use Rattle.joined_weights.proofs.Sizes.{bias_y_lem, bias_uv_lem, luma_within, chroma_within}
use Rattle.joined_codes.specs.Sums.{joined_samples, joined_sum, cleared, first_word, second_word, SumFits}
use Rattle.joined_codes.specs.Packed.{colours_of}
use Rattle.joined_codes.proofs.Sums.{HoldsCodes, joined_holds, shared_holds, joined_fits, shared_fits, colours_low}

-- ---- a sum without the bits below its words

-- there are so many bits below a word
abbrev exponent : YuvBytesPacking → ℕ → ℕ
exponent MostSignificantBytes d = 13 + (16 - d)
exponent LeastSignificantBytes d = 13

power_is : (k : YuvBytesPacking) (d : ℕ) → 8192 * packing_factor k d ≡ 2 ^ exponent k d
power_is MostSignificantBytes d = sym (pow-add 2 13 (16 - d))
power_is LeastSignificantBytes d = omega arith

power_small : (k : YuvBytesPacking) (d : ℕ) → 2 ^ exponent k d ≤ 4294967296
power_small MostSignificantBytes d = pow_mono {i = 13 + (16 - d)} {j = 32} (omega arith)
power_small LeastSignificantBytes d = omega arith

module _ (k low high v : ℕ) (made : v ≡ low + high * 4294967296) (room : low < 4294967296) (small : 2 ^ k ≤ 4294967296) where
  abbrev whole : ℕ
  whole = 2 ^ k

  -- the bits that are cleared in either half
  removed : bit_and v ((whole - 1) * 4294967297) ≡ high % whole * 4294967296 + low % whole
  removed =
      let some = pow_pos k in
      let e : v ≡ high * 4294967296 + low = omega (arith, made) in
      let f : (whole - 1) * 4294967297 ≡ (whole - 1) * 4294967296 + (whole - 1) = omega arith in
      (λ i. bit_and (e i) (f i)) ∙ and_block 32 high (whole - 1) low (whole - 1) room (omega (arith, small, some)) ∙ (λ i. and_mask high k i * 4294967296 + and_mask low k i)

  -- what is left of either half
  kept : cleared v ((whole - 1) * 4294967297) ≡ low / whole * whole + high / whole * whole * 4294967296
  kept = omega (arith, made, removed, div-add-mod' low whole, div-add-mod' high whole)

  -- by the packing factor t
  module _ (t : ℕ) (e : 8192 * t ≡ whole) where
    times : (n : ℕ) → n * whole ≡ n * t * 8192
    times n = let q : n * (8192 * t) ≡ n * whole = ap (λ (m : ℕ). n * m) e in omega (arith, q)

    pub first_kept : first_word (cleared v ((8192 * t - 1) * 4294967297)) ≡ low / (8192 * t) * t
    first_kept =
        rw e
        (let q = kept in
        let x : low / whole * whole ≤ low = omega (arith, div-add-mod' low whole) in omega (arith, q, x, room, times (low / whole)))

    pub second_kept : second_word (cleared v ((8192 * t - 1) * 4294967297)) ≡ high / (8192 * t) * t
    second_kept =
        rw e
        (let q = kept in
        let x : low / whole * whole ≤ low = omega (arith, div-add-mod' low whole) in omega (arith, q, x, room, times (high / whole)))

-- ---- the two words of a sum are the packed codes that it holds
module _ (s : Settings) (deep : s.depth ≤ 16) {total : ℤ} {a b : ℕ} (h : HoldsCodes total (8192 * packing_factor s.packing s.depth) a b) where
  abbrev t : ℕ
  t = packing_factor s.packing s.depth

  pub not_negative : T (non_neg total)
  not_negative = subst⁻¹ (λ (z : ℤ). T (non_neg z)) h.sum tt

  module _ (v below : ℕ) (e : v ≡ nat_abs total) (eb : below ≡ bits_below s) where
    made : v ≡ h.low + h.high * 4294967296
    made = e ∙ ap nat_abs h.sum

    abbrev k : ℕ
    k = exponent s.packing s.depth

    pub first_word_lem : first_word (cleared v below) ≡ packed s.packing s.depth a
    first_word_lem =
        ap (λ (n : ℕ). first_word (cleared v n)) eb
        ∙ first_kept k h.low h.high v made h.room (power_small s.packing s.depth) t (power_is s.packing s.depth)
        ∙ ap (λ (n : ℕ). n * t) h.first
        ∙ packed_is s.packing s.depth a

    pub second_word_lem : second_word (cleared v below) ≡ packed s.packing s.depth b
    second_word_lem =
        ap (λ (n : ℕ). second_word (cleared v n)) eb
        ∙ second_kept k h.low h.high v made h.room (power_small s.packing s.depth) t (power_is s.packing s.depth)
        ∙ ap (λ (n : ℕ). n * t) h.second
        ∙ packed_is s.packing s.depth b

    pub storable : a < 2 ^ s.depth → b < 2 ^ s.depth → (first_word (cleared v below) ≤ 65535) × (second_word (cleared v below) ≤ 65535)
    storable la lb =
        let x : a ≤ most s.depth = omega arith in
        let y : b ≤ most s.depth = omega arith in
        (omega (arith, first_word_lem, packed_fits s.packing s.depth deep x), omega (arith, second_word_lem, packed_fits s.packing s.depth deep y))

-- ---- the weights of a frame: what they are, that their sums fit, and which codes these hold
module _ (s : Settings) (w : Weights) (u : Usable s w) (j : FrameWeights) (e : j ≡ frame_weights s w) where
  abbrev luma_bias : ℕ
  luma_bias = y_bias s.range s.depth

  abbrev chroma_weights : ℕ → JoinedWeights
  chroma_weights n = joined_weights (pos (scaled_start s n)) (scaled_weights s (chroma_row (is_u s.order 0) w)) (pos (scaled_start s n)) (scaled_weights s (chroma_row (is_u s.order 1) w))

  luma_is : j.luma ≡ shared_weights (pos (scaled_start s luma_bias)) (scaled_weights s (luma_row w))
  unfolding frame_weights
  luma_is = ap (λ (x : FrameWeights). x.luma) e

  chroma_is : j.chroma ≡ chroma_weights (uv_bias s.depth)
  unfolding frame_weights
  chroma_is = ap (λ (x : FrameWeights). x.chroma) e

  pub below_is : j.below ≡ bits_below s
  unfolding frame_weights
  below_is = ap (λ (x : FrameWeights). x.below) e

  module _ (p q : Pixel) (hp : Low (most s.depth) p) (hq : Low (most s.depth) q) where
    abbrev luma_total : ℤ
    luma_total = joined_sum j.luma (joined_samples p.red q.red) (joined_samples p.green q.green) (joined_samples p.blue q.blue)

    pub luma_fits : SumFits j.luma (joined_samples p.red q.red) (joined_samples p.green q.green) (joined_samples p.blue q.blue)
    luma_fits =
        subst⁻¹ (λ (x : JoinedWeights). SumFits x (joined_samples p.red q.red) (joined_samples p.green q.green) (joined_samples p.blue q.blue)) luma_is
        (shared_fits s u.reach luma_bias (bias_y_lem s.depth s.range u.reach.shallow) (luma_row w) p q (luma_within u) hp hq)

    pub luma_holds : HoldsCodes luma_total (8192 * packing_factor s.packing s.depth) (code s.precision luma_bias (luma_row w) (colours_of s.channels p)) (code s.precision luma_bias (luma_row w) (colours_of s.channels q))
    luma_holds =
        subst⁻¹ (λ (x : JoinedWeights). HoldsCodes (joined_sum x (joined_samples p.red q.red) (joined_samples p.green q.green) (joined_samples p.blue q.blue)) (8192 * packing_factor s.packing s.depth) (code s.precision luma_bias (luma_row w) (colours_of s.channels p)) (code s.precision luma_bias (luma_row w) (colours_of s.channels q))) luma_is
        (shared_holds s u.reach luma_bias (luma_row w) p q (u.luma_coded _ (colours_low s.channels hp)) (u.luma_coded _ (colours_low s.channels hq)))

  module _ (p : Pixel) (low : Low (most s.depth) p) where
    abbrev seen : Pixel
    seen = colours_of s.channels p

    pub luma_in_depth : code s.precision luma_bias (luma_row w) seen < 2 ^ s.depth
    luma_in_depth = code_below s.depth s.precision luma_bias (luma_row w) seen (u.luma_coded _ (colours_low s.channels low))

    pub chroma_in_depth : (b : Bool) → code s.precision (uv_bias s.depth) (chroma_row b w) seen < 2 ^ s.depth
    chroma_in_depth b = code_below s.depth s.precision (uv_bias s.depth) (chroma_row b w) seen (chroma_coded s w b u _ (colours_low s.channels low))

    pub chroma_fits : SumFits j.chroma p.red p.green p.blue
    chroma_fits =
        subst⁻¹ (λ (x : JoinedWeights). SumFits x p.red p.green p.blue) chroma_is
        (joined_fits s u.reach (uv_bias s.depth) (bias_uv_lem s.depth u.reach.shallow) _ _ p (chroma_within u (is_u s.order 0)) (chroma_within u (is_u s.order 1)) low)

    pub chroma_holds : HoldsCodes (joined_sum j.chroma p.red p.green p.blue) (8192 * packing_factor s.packing s.depth) (code s.precision (uv_bias s.depth) (chroma_row (is_u s.order 0) w) seen) (code s.precision (uv_bias s.depth) (chroma_row (is_u s.order 1) w) seen)
    chroma_holds =
        subst⁻¹ (λ (x : JoinedWeights). HoldsCodes (joined_sum x p.red p.green p.blue) (8192 * packing_factor s.packing s.depth) (code s.precision (uv_bias s.depth) (chroma_row (is_u s.order 0) w) seen) (code s.precision (uv_bias s.depth) (chroma_row (is_u s.order 1) w) seen)) chroma_is
        (joined_holds s u.reach (uv_bias s.depth) _ _ p (chroma_coded s w (is_u s.order 0) u _ (colours_low s.channels low)) (chroma_coded s w (is_u s.order 1) u _ (colours_low s.channels low)))
