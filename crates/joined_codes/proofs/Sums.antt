-- The sum of joined weights joins two sums, holds both codes and fits 64 bits. Assumes nothing.
use mathlib.Core.Path.{◌≡◌, refl, sym, ap, ◌∙◌, subst⁻¹}
use Prim.Native.Nat.{ℕ, ◌+◌, ◌-◌, ◌*◌, ◌/◌, ◌^◌, ◌≤◌, ◌<◌}
use native.Mathlib.Nat.{mul-div-mul_right, mul-le-mul, div-add-mod', mod-lt}
use native.Mathlib.Omega.{arith}
use lib.Dec.{leb→le}
use lib.Pow.{pow_pos}
use lib.IntN.{ℤ, pos, negsuc, nat_abs, ◌+ℤ◌, ◌*ℤ◌}
use lib.Signed.{shr_z}
use Rattle.rules.specs.declared.Settings.{Settings}
use Rattle.rules.specs.declared.Triple.{Triple}
use Rattle.rules.specs.declared.Pixel.{Pixel}
use Rattle.rules.specs.declared.YuvSourceChannels.{YuvSourceChannels}
use Rattle.rules.specs.declared.YuvSourceChannels.TheVariants.{Rgb, Rgba, Bgra, Bgr}
use Rattle.rules.specs.Ranges.{most}
use Rattle.rules.specs.Sample.{weighted, before_division, signed_code, code}
use Rattle.rule_laws.specs.Codes.{Low, Between}
use Rattle.rule_laws.specs.Usable.{Reach}
use Rattle.integer_laws.proofs.Differences.{pp, np, Is, is_self, is_pos, is_add, is_times, is_shift, is_same, abs_plus, abs_mul}
use Rattle.storage.specs.PackingFactor.{packing_factor}
use Rattle.storage.proofs.PackingFactor.{factor_some, factor_room}
use Rattle.joined_weights.specs.JoinedWeights.{join, scale_of, scaled_triple, blue_first, in_source_order, joined_weights, shared_weights, scaled_start, scaled_weights, NoWeightAbove}
use Rattle.joined_weights.proofs.Sizes.{scale_times, scale_some, scaled_within, start_small}
use Rattle.joined_codes.specs.Sums.{joined_samples, joined_sum, SumFits}
use Rattle.joined_codes.specs.Packed.{colours_of}

-- ---- sums

joined : {y z : ℤ} {p n q m : ℕ} → Is y p n → Is z q m → Is (join y z) (p + q * 4294967296) (n + m * 4294967296)
joined h k = is_add h (is_times k 4294967296)

-- a weighted sum is the difference of what positive weights add and what negative ones take
sum_is : (w : Triple) (p : Pixel)
    → Is (weighted w p) (pp w.red * p.red + pp w.green * p.green + pp w.blue * p.blue) (np w.red * p.red + np w.green * p.green + np w.blue * p.blue)
unfolding weighted
sum_is w p = is_add (is_add (is_times (is_self w.red) p.red) (is_times (is_self w.green) p.green)) (is_times (is_self w.blue) p.blue)

-- the sum of joined weights is the two sums, joined
sum_joined : (sa sb : ℤ) (a b : Triple) (p : Pixel) → joined_sum (joined_weights sa a sb b) p.red p.green p.blue ≡ join (weighted a p +ℤ sa) (weighted b p +ℤ sb)
unfolding joined_sum
sum_joined sa sb a b p =
    is_same
    (is_add
    (is_add (is_add (joined (is_self sa) (is_self sb)) (is_times (joined (is_self a.red) (is_self b.red)) p.red)) (is_times (joined (is_self a.green) (is_self b.green)) p.green))
    (is_times (joined (is_self a.blue) (is_self b.blue)) p.blue))
    (is_shift (joined (is_add (sum_is a p) (is_self sa)) (is_add (sum_is b p) (is_self sb))) (omega arith))

-- the sum of shared weights for two pixels, their samples joined, is the sums of the two, joined
sum_shared : (start : ℤ) (w : Triple) (p q : Pixel)
    → joined_sum (shared_weights start w) (joined_samples p.red q.red) (joined_samples p.green q.green) (joined_samples p.blue q.blue) ≡ join (weighted w p +ℤ start) (weighted w q +ℤ start)
unfolding joined_sum
sum_shared start w p q =
    is_same
    (is_add
    (is_add (is_add (joined (is_self start) (is_self start)) (is_times (is_self w.red) (joined_samples p.red q.red))) (is_times (is_self w.green) (joined_samples p.green q.green)))
    (is_times (is_self w.blue) (joined_samples p.blue q.blue)))
    (is_shift (joined (is_add (sum_is w p) (is_self start)) (is_add (sum_is w q) (is_self start))) (omega arith))

-- with weights and start scaled, the sum is scaled
sum_scaled : (scale start : ℕ) (w : Triple) (p : Pixel) → weighted (scaled_triple scale w) p +ℤ pos (start * scale) ≡ (weighted w p +ℤ pos start) *ℤ pos scale
unfolding weighted
sum_scaled scale start w p =
    is_same
    (is_add
    (is_add (is_add (is_times (is_times (is_self w.red) scale) p.red) (is_times (is_times (is_self w.green) scale) p.green)) (is_times (is_times (is_self w.blue) scale) p.blue))
    (is_pos (start * scale)))
    (is_shift (is_times (is_add (sum_is w p) (is_pos start)) scale) (omega arith))

sum_blue_first : (w : Triple) (p : Pixel) → weighted (blue_first w) p ≡ weighted w (record { red = p.blue; green = p.green; blue = p.red })
sum_blue_first w p = is_same (sum_is (blue_first w) p) (is_shift (sum_is w (record { red = p.blue; green = p.green; blue = p.red })) (omega arith))

sum_in_source_order : (c : YuvSourceChannels) (w : Triple) (p : Pixel) → weighted (in_source_order c w) p ≡ weighted w (colours_of c p)
sum_in_source_order Rgb w p = refl
sum_in_source_order Rgba w p = refl
sum_in_source_order Bgra w p = sum_blue_first w p
sum_in_source_order Bgr w p = sum_blue_first w p

-- ---- the codes in a sum

-- a sum whose quotient lies from 0 to m is not negative: it is `number`
record Counted (z : ℤ) (divisor m : ℕ) : Type 0 where
  number : ℕ
  is : z ≡ pos number
  small : number / divisor ≤ m
  quotient : nat_abs (shr_z z divisor) ≡ number / divisor

counted : (z : ℤ) (divisor m : ℕ) → Between (pos 0) (pos m) (shr_z z divisor) → Counted z divisor m
counted (pos n) divisor m b = record { number = n; is = refl; small = leb→le (n / divisor) m b.high; quotient = refl }
counted (negsuc n) divisor m b = absurd b.low

-- a sum joins two numbers, and they hold the codes a and b: divided by `divisor`, rounded down, they are the codes
pub record HoldsCodes (total : ℤ) (divisor a b : ℕ) : Type 0 where
  pub low : ℕ
  pub high : ℕ
  pub sum : total ≡ pos (low + high * 4294967296)
  pub room : low < 4294967296
  pub first : low / divisor ≡ a
  pub second : high / divisor ≡ b

-- a number is less than its quotient and one more, times the divisor
under_next : (n divisor c : ℕ) → 0 < divisor → n / divisor ≡ c → n < (c + 1) * divisor
under_next n divisor c h e =
    let q : n / divisor * divisor ≡ c * divisor = ap (λ (k : ℕ). k * divisor) e in
    omega (arith, q, div-add-mod' n divisor, mod-lt n h)

module _ (s : Settings) (reach : Reach s) (bias : ℕ) where
  abbrev divisor : ℕ
  divisor = 8192 * packing_factor s.packing s.depth

  abbrev coded : Triple → Pixel → ℕ
  coded w p = code s.precision bias w (colours_of s.channels p)

  abbrev Fits : Triple → Pixel → Type 0
  Fits w p = Between (pos 0) (pos (most s.depth)) (signed_code s.precision bias w (colours_of s.channels p))

  scaled_sum : (w : Triple) (p : Pixel) → weighted (scaled_weights s w) p +ℤ pos (scaled_start s bias) ≡ before_division s.precision bias w (colours_of s.channels p) *ℤ pos (scale_of s)
  scaled_sum w p =
      sum_scaled (scale_of s) (bias * 2 ^ s.precision + (2 ^ (s.precision - 1) - 1)) (in_source_order s.channels w) p
      ∙ ap (λ (z : ℤ). (z +ℤ pos (bias * 2 ^ s.precision + (2 ^ (s.precision - 1) - 1))) *ℤ pos (scale_of s)) (sum_in_source_order s.channels w p)

  -- the sum of one code is a number of 32 bits that holds the code
  record OneSum (w : Triple) (p : Pixel) : Type 0 where
    number : ℕ
    is : weighted (scaled_weights s w) p +ℤ pos (scaled_start s bias) ≡ pos number
    room : number < 4294967296
    holds : number / divisor ≡ coded w p

  one_sum : (w : Triple) (p : Pixel) → Fits w p → OneSum w p
  unfolding signed_code code
  one_sum w p b =
      let seen = colours_of s.channels p in
      let m = most s.depth in
      let t = packing_factor s.packing s.depth in
      let g = counted (before_division s.precision bias w seen) (2 ^ s.precision) m b in
      let e : 2 ^ s.precision * scale_of s ≡ divisor = scale_times s reach.fine in
      let q : g.number * scale_of s / (2 ^ s.precision * scale_of s) ≡ g.number / 2 ^ s.precision = mul-div-mul_right g.number (2 ^ s.precision) (scale_some s) in
      let r : g.number * scale_of s / divisor ≡ g.number / 2 ^ s.precision = subst⁻¹ (λ (n : ℕ). g.number * scale_of s / n ≡ g.number / 2 ^ s.precision) (sym e) q in
      let some : 0 < divisor = omega (arith, factor_some s.packing s.depth) in
      let up : g.number / 2 ^ s.precision + 1 ≤ 2 ^ s.depth = omega (arith, g.small, pow_pos s.depth) in
      let l : (g.number / 2 ^ s.precision + 1) * divisor ≤ 2 ^ s.depth * divisor = mul-le-mul up (same divisor) in
      record {
        number = g.number * scale_of s;
        is = scaled_sum w p ∙ ap (λ (z : ℤ). z *ℤ pos (scale_of s)) g.is;
        room = omega (arith, under_next (g.number * scale_of s) divisor (g.number / 2 ^ s.precision) some r, l, factor_room s.packing s.depth reach.deep);
        holds = r ∙ sym g.quotient;
      }
    where
      same : (n : ℕ) → n ≤ n
      same n = omega arith

  -- two codes of one pixel
  pub joined_holds : (a b : Triple) (p : Pixel) → Fits a p → Fits b p
      → HoldsCodes (joined_sum (joined_weights (pos (scaled_start s bias)) (scaled_weights s a) (pos (scaled_start s bias)) (scaled_weights s b)) p.red p.green p.blue) divisor (coded a p) (coded b p)
  joined_holds a b p ha hb =
      let x = one_sum a p ha in
      let y = one_sum b p hb in
      record { low = x.number; high = y.number; sum = sum_joined _ _ (scaled_weights s a) (scaled_weights s b) p ∙ (λ i. join (x.is i) (y.is i)); room = x.room; first = x.holds; second = y.holds }

  -- one code of two pixels
  pub shared_holds : (w : Triple) (p q : Pixel) → Fits w p → Fits w q
      → HoldsCodes (joined_sum (shared_weights (pos (scaled_start s bias)) (scaled_weights s w)) (joined_samples p.red q.red) (joined_samples p.green q.green) (joined_samples p.blue q.blue)) divisor (coded w p) (coded w q)
  shared_holds w p q hp hq =
      let x = one_sum w p hp in
      let y = one_sum w q hq in
      record { low = x.number; high = y.number; sum = sum_shared _ (scaled_weights s w) p q ∙ (λ i. join (x.is i) (y.is i)); room = x.room; first = x.holds; second = y.holds }

-- ---- no sum leaves 64 bits

pub join_small : (a b : ℤ) (m n : ℕ) → nat_abs a ≤ m → nat_abs b ≤ n → nat_abs (join a b) ≤ m + n * 4294967296
join_small a b m n ha hb = omega (arith, abs_plus a (b *ℤ pos 4294967296), abs_mul b 4294967296)

module _ (s : Settings) (r : Reach s) where
  -- m times the packing factor
  most_times : most s.depth * packing_factor s.packing s.depth ≤ 65535
  most_times = by (most s.depth) (packing_factor s.packing s.depth) (2 ^ s.depth) (omega (arith, pow_pos s.depth)) (factor_room s.packing s.depth r.deep) (factor_some s.packing s.depth)
    where
      by : (m t p : ℕ) → m + 1 ≡ p → p * t ≤ 65536 → 1 ≤ t → m * t ≤ 65535
      by m t p e h l = let q : p * t ≡ (m + 1) * t = ap (λ (n : ℕ). n * t) (sym e) in omega arith

  -- a joined weight times a sample, and a weight times two joined samples
  joined_by_one : (n x : ℕ) → n ≤ 8192 * packing_factor s.packing s.depth * 4294967297 → x ≤ most s.depth → n * x ≤ 2305807825378467840
  joined_by_one n x h l = omega (arith, mul-le-mul h l, most_times)

  one_by_joined : (n x : ℕ) → n ≤ 8192 * packing_factor s.packing s.depth → x ≤ most s.depth * 4294967297 → n * x ≤ 2305807825378467840
  one_by_joined n x h l = omega (arith, mul-le-mul h l, most_times)

  module _ (bias : ℕ) (inside : bias + 1 ≤ 2 ^ s.depth) where
    pub joined_fits : (a b : Triple) (p : Pixel) → NoWeightAbove (2 ^ s.precision) a → NoWeightAbove (2 ^ s.precision) b → Low (most s.depth) p
        → SumFits (joined_weights (pos (scaled_start s bias)) (scaled_weights s a) (pos (scaled_start s bias)) (scaled_weights s b)) p.red p.green p.blue
    joined_fits a b p ha hb low =
        let x = scaled_within s r a ha in
        let y = scaled_within s r b hb in
        record {
          start = omega (arith, start_small s r bias inside);
          first = joined_by_one _ p.red (omega (arith, join_small (scaled_weights s a).red (scaled_weights s b).red _ _ x.red y.red)) low.red;
          second = joined_by_one _ p.green (omega (arith, join_small (scaled_weights s a).green (scaled_weights s b).green _ _ x.green y.green)) low.green;
          third = joined_by_one _ p.blue (omega (arith, join_small (scaled_weights s a).blue (scaled_weights s b).blue _ _ x.blue y.blue)) low.blue;
        }

    pub shared_fits : (w : Triple) (p q : Pixel) → NoWeightAbove (2 ^ s.precision) w → Low (most s.depth) p → Low (most s.depth) q
        → SumFits (shared_weights (pos (scaled_start s bias)) (scaled_weights s w)) (joined_samples p.red q.red) (joined_samples p.green q.green) (joined_samples p.blue q.blue)
    shared_fits w p q h hp hq =
        let x = scaled_within s r w h in
        record {
          start = omega (arith, start_small s r bias inside);
          first = one_by_joined _ _ x.red (omega (arith, hp.red, hq.red));
          second = one_by_joined _ _ x.green (omega (arith, hp.green, hq.green));
          third = one_by_joined _ _ x.blue (omega (arith, hp.blue, hq.blue));
        }

-- ---- samples read in source order

pub colours_low : (c : YuvSourceChannels) {m : ℕ} {p : Pixel} → Low m p → Low m (colours_of c p)
colours_low Rgb h = h
colours_low Rgba h = h
colours_low Bgra h = record { red = h.blue; green = h.green; blue = h.red }
colours_low Bgr h = record { red = h.blue; green = h.green; blue = h.red }
