-- The test by the bound is rules' test of the tolerance. Assumes nothing.
use Rattle.std.proofs.Common.{◌≡◌, ℕ, ◌+◌, ◌*◌, ◌^◌, leb, sym, ap, ◌∙◌, arith, pow_pos}
use Rattle.rules.specs.Fractions.{Fraction, within}
use Rattle.integer_laws.proofs.Differences.{is_less}
use Rattle.integer_laws.proofs.Tests.{leb_div}
use Rattle.tolerance_laws.proofs.Within.{within_apart}
use Rattle.fractions.specs.declared.Exact.{Exact}
use Rattle.fractions.specs.Exact.{fraction_of}
use Rattle.tolerance_bounds.specs.Bound.{distance, bound_of}

-- by an exact value
pub passes_within : (precision m h : ℕ) (x : Exact) (c : ℕ) →
    leb (distance x c) (bound_of precision m h x.under) ≡ within precision m h (fraction_of x) c
passes_within precision m h x c =
    leb_div (distance x c) (x.under * (50 * h * 2 ^ precision + 153 * m)) (100 * 2 ^ precision) (omega (arith, pow_pos precision))
    ∙ within_apart (fraction_of x) (is_less x.plus x.minus) c precision m h

-- by the fraction that an exact value stands for, with the bound worked out beforehand
pub judged : (precision m h c : ℕ) (x : Exact) {g f : Fraction} {bound : ℕ} → fraction_of x ≡ g → g ≡ f → bound ≡ bound_of precision m h f.under →
    leb (distance x c) bound ≡ within precision m h f c
judged precision m h c x e q o =
    let v = e ∙ q in
    ap (leb (distance x c)) (o ∙ ap (λ (g : Fraction). bound_of precision m h g.under) (sym v))
    ∙ passes_within precision m h x c
    ∙ ap (λ (g : Fraction). within precision m h g c) v
