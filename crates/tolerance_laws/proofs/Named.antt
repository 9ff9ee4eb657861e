-- Settings with a named matrix that refusals 1, 2 and 4 let pass: the tolerance holds for their weights. Assumes nothing.
use mathlib.Core.Path.{◌≡◌, subst}
use mathlib.Core.Bool.{false}
use Prim.Native.Nat.{ℕ, ◌+◌, ◌-◌, ◌*◌, ◌^◌, ◌≤◌, ◌<◌}
use native.Mathlib.Nat.{le_refl}
use native.Mathlib.Omega.{arith}
use lib.Dec.{lit≤, lit<}
use lib.Pow.{shl_lt}
use borrow.Author.Tests.{not-false}
use Rattle.rules.specs.declared.Settings.{Settings}
use Rattle.rules.specs.declared.Weights.{Weights}
use Rattle.rules.specs.declared.Named.{Named}
use Rattle.rules.specs.declared.Matrix.{Matrix}
use Rattle.rules.specs.declared.Matrix.TheVariants.{Tabled}
use Rattle.rules.specs.declared.YuvRange.{YuvRange}
use Rattle.rules.specs.declared.YuvRange.TheVariants.{Limited, Full}
use Rattle.rules.specs.declared.YuvStandardMatrix.{YuvStandardMatrix}
use Rattle.rules.specs.declared.YuvStandardMatrix.TheVariants.{Bt601, Bt709, Bt2020, Smpte240, Bt470_6, Custom}
use Rattle.rules.specs.Ranges.{most, y_range, uv_range}
use Rattle.rules.specs.Matrices.{matrix_of}
use Rattle.rules.specs.Settle.{weight_off}
use Rattle.tolerance_laws.specs.NearAll.{NearAll}

-- 224·2^(d−8) is at most 2^d − 1
chroma_narrow : (r : YuvRange) (d : ℕ) → 8 ≤ d → uv_range r d ≤ most d
chroma_narrow Limited d h =
    let e : 8 + (d - 8) ≡ d = omega arith in
    let l : 224 * 2 ^ (d - 8) < 2 ^ d = rw e at (shl_lt {a = 224} 8 (d - 8) (lit< tt)) in
    omega arith
chroma_narrow Full d h = le_refl _

-- Kr and Kb of the table leave a rest
whole_of : (j : Named) {k : Named} → j.kr + j.kb ≤ 10000 → Tabled j ≡ Tabled k → k.kr + k.kb ≤ 10000
whole_of j {k} h e = let f : j ≡ k = cc in rw f at h

named_whole : (x : YuvStandardMatrix) {k : Named} → matrix_of x ≡ Tabled k → k.kr + k.kb ≤ 10000
named_whole Bt601 e = whole_of _ (lit≤ tt) e
named_whole Bt709 e = whole_of _ (lit≤ tt) e
named_whole Bt2020 e = whole_of _ (lit≤ tt) e
named_whole Smpte240 e = whole_of _ (lit≤ tt) e
named_whole Bt470_6 e = whole_of _ (lit≤ tt) e
named_whole (Custom kr kb) e = let z : ◌≡◌ {A = ℕ} 0 1 = cc in absurd (omega arith)

pub named_near : (s : Settings) {k : Named} (w : Weights) → matrix_of s.matrix ≡ Tabled k → 10 ≤ s.depth → 1 ≤ s.precision →
    weight_off s (matrix_of s.matrix) w ≡ false →
    NearAll s.precision k (most s.depth) (y_range s.range s.depth) (uv_range s.range s.depth) w
named_near s {k} w e d p o =
    record {
      some = p;
      whole = omega (arith, named_whole s.matrix e);
      narrow = chroma_narrow s.range s.depth (omega arith);
      near = not-false _ (subst (λ (x : Matrix). weight_off s x w ≡ false) e o);
    }
