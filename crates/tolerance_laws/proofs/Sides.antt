-- One side of the tolerance, over ℕ: a signed number stands as a pair, its positive and its negative part.
-- The other side is the same law with the parts exchanged. Assumes nothing.
use Prim.Native.Nat.{ℕ, ◌+◌, ◌*◌, ◌≤◌}
use native.Mathlib.Nat.{mul-le-mul_right}
use native.Mathlib.Omega.{arith}
use Rattle.rules.specs.declared.Pixel.{Pixel}
use Rattle.rule_laws.specs.Codes.{Low}

-- three numbers times three samples, added
abbrev pub dot : Pixel → Pixel → ℕ
dot a x = a.red * x.red + a.green * x.green + a.blue * x.blue

-- 100·(w·D − a·Q) ≤ 51·D, for w = wp − wn and a = ap − an
pub record Close (Q D wp wn ap an : ℕ) : Type 0 where
  pub close : 100 * (wp * D + an * Q) ≤ 100 * (wn * D + ap * Q) + 51 * D

-- of each channel
pub record AllClose (Q D : ℕ) (wp wn ap an : Pixel) : Type 0 where
  pub red : Close Q D wp.red wn.red ap.red an.red
  pub green : Close Q D wp.green wn.green ap.green an.green
  pub blue : Close Q D wp.blue wn.blue ap.blue an.blue

-- u·Q + s is at most half a Q above v·Q + t
pub record Half (Q u s v t : ℕ) : Type 0 where
  pub half : 2 * (u * Q + s) ≤ 2 * (v * Q + t) + Q

-- one channel at a sample
channel : {Q D wp wn ap an m : ℕ} → Close Q D wp wn ap an → (x : ℕ) → x ≤ m →
    100 * (wp * x * D + an * x * Q) ≤ 100 * (wn * x * D + ap * x * Q) + D * (51 * m)
channel {D} h x l = omega (arith, mul-le-mul_right x h.close, mul-le-mul_right (51 * D) l)

-- three channels, their products by name
three : (Q D m u1 v1 s1 t1 u2 v2 s2 t2 u3 v3 s3 t3 : ℕ) →
    100 * (u1 * D + t1 * Q) ≤ 100 * (v1 * D + s1 * Q) + D * (51 * m) →
    100 * (u2 * D + t2 * Q) ≤ 100 * (v2 * D + s2 * Q) + D * (51 * m) →
    100 * (u3 * D + t3 * Q) ≤ 100 * (v3 * D + s3 * Q) + D * (51 * m) →
    100 * ((u1 + u2 + u3) * D + (t1 + t2 + t3) * Q) ≤ 100 * ((v1 + v2 + v3) * D + (s1 + s2 + s3) * Q) + D * (153 * m)
three Q D m u1 v1 s1 t1 u2 v2 s2 t2 u3 v3 s3 t3 h1 h2 h3 = omega arith

-- the errors of the weights, and the half of the division
joined : (Q D u v wp wn ap an E : ℕ) → 100 * (wp * D + an * Q) ≤ 100 * (wn * D + ap * Q) + D * E → Half Q u wn v wp →
    100 * Q * (u * D + an) ≤ 100 * Q * (v * D + ap) + D * (50 * Q + E)
joined Q D u v wp wn ap an E h f = omega (arith, mul-le-mul_right (50 * D) f.half)

-- ONE PIXEL: 100·Q·(u·D − (v·D + a·x)) ≤ D·(50·Q + 153·m)
pub pixel_side : {Q D m : ℕ} {wp wn ap an x : Pixel} → AllClose Q D wp wn ap an → Low m x → (u v : ℕ) → Half Q u (dot wn x) v (dot wp x) →
    100 * Q * (u * D + dot an x) ≤ 100 * Q * (v * D + dot ap x) + D * (50 * Q + 153 * m)
pixel_side {Q} {D} {m} {wp} {wn} {ap} {an} {x} k l u v f =
    joined Q D u v (dot wp x) (dot wn x) (dot ap x) (dot an x) (153 * m)
    (three _ _ _ _ _ _ _ _ _ _ _ _ _ _ _
    (channel k.red x.red l.red) (channel k.green x.green l.green) (channel k.blue x.blue l.blue))
    f

-- ---- the mean of n = 2·g pixels

-- x is the mean of 2·g samples with the sum s, to within one half
pub record Mean (g s x : ℕ) : Type 0 where
  pub over : 2 * g * x ≤ s + g
  pub under : s ≤ 2 * g * x + g

pub record Means (g : ℕ) (s x : Pixel) : Type 0 where
  pub red : Mean g s.red x.red
  pub green : Mean g s.green x.green
  pub blue : Mean g s.blue x.blue

-- the factors' sizes sum to at most D
pub record Slight (D : ℕ) (ap an : Pixel) : Type 0 where
  pub slight : (ap.red + an.red) + (ap.green + an.green) + (ap.blue + an.blue) ≤ D

-- one channel: the factor p − n at the sum and at the mean
spread : {g s x : ℕ} → Mean g s x → (p n : ℕ) → n * s + 2 * g * (p * x) ≤ 2 * g * (n * x) + p * s + (p + n) * g
spread k p n = omega (arith, mul-le-mul_right p k.over, mul-le-mul_right n k.under)

-- three channels, their products by name
spread3 : (G g D a1 b1 c1 d1 e1 a2 b2 c2 d2 e2 a3 b3 c3 d3 e3 : ℕ) →
    a1 + G * b1 ≤ G * c1 + d1 + e1 * g → a2 + G * b2 ≤ G * c2 + d2 + e2 * g → a3 + G * b3 ≤ G * c3 + d3 + e3 * g → e1 + e2 + e3 ≤ D →
    a1 + a2 + a3 + G * (b1 + b2 + b3) ≤ G * (c1 + c2 + c3) + (d1 + d2 + d3) + D * g
spread3 G g D a1 b1 c1 d1 e1 a2 b2 c2 d2 e2 a3 b3 c3 d3 e3 h1 h2 h3 k = omega (arith, mul-le-mul_right g k)

-- one half more
combine : (Q D g u v NA PA NS PS E : ℕ) →
    100 * Q * (u * D + NA) ≤ 100 * Q * (v * D + PA) + D * (50 * Q + E) →
    NS + 2 * g * PA ≤ 2 * g * NA + PS + D * g →
    100 * Q * (u * (D * (2 * g)) + NS) ≤ 100 * Q * (v * (D * (2 * g)) + PS) + D * (2 * g) * (100 * Q + E)
combine Q D g u v NA PA NS PS E h k = omega (arith, mul-le-mul_right (2 * g) h, mul-le-mul_right (100 * Q) k)

-- n = 2·g PIXELS with the sums s: 100·Q·(u·D·n − (v·D·n + a·s)) ≤ D·n·(100·Q + 153·m)
pub mean_side : {Q g D m : ℕ} {wp wn ap an s x : Pixel} → AllClose Q D wp wn ap an → Slight D ap an → Low m x → Means g s x →
    (u v : ℕ) → Half Q u (dot wn x) v (dot wp x) →
    100 * Q * (u * (D * (2 * g)) + dot an s) ≤ 100 * Q * (v * (D * (2 * g)) + dot ap s) + D * (2 * g) * (100 * Q + 153 * m)
mean_side {Q} {g} {D} {m} {wp} {wn} {ap} {an} {s} {x} k e l t u v f =
    combine Q D g u v (dot an x) (dot ap x) (dot an s) (dot ap s) (153 * m) (pixel_side k l u v f)
    (spread3 (2 * g) g D _ _ _ _ _ _ _ _ _ _ _ _ _ _ _
    (spread t.red ap.red an.red) (spread t.green ap.green an.green) (spread t.blue ap.blue an.blue)
    e.slight)
