-- The two elements of a pair of chroma samples are right where its U and its V are. Assumes nothing.
use mathlib.Core.Path.{◌≡◌, refl, sym, ap, subst}
use mathlib.Core.Bool.{Bool, true, false}
use mathlib.Core.List.{List}
use Prim.Native.Nat.{ℕ, ◌+◌, ◌*◌, ◌/◌, ◌%◌}
use native.Mathlib.Omega.{arith}
use lib.ListN.{get_or}
use borrow.Author.Tests.{eq-eqb, ne_eqb}
use Rattle.rules.specs.declared.Settings.{Settings}
use Rattle.rules.specs.declared.Named.{Named}
use Rattle.rules.specs.declared.YuvNVOrder.{YuvNVOrder}
use Rattle.rules.specs.declared.YuvNVOrder.TheVariants.{UV, VU}
use Rattle.rules.specs.Channels.{u_at, v_at, is_u}
use Rattle.sample_check.specs.Samples.{block_right, tiled, tile_of, chroma_element_right}
use Rattle.sample_check.proofs.Rows.{element_is}

-- what holds of the U and the V of a pair holds of its first and its second element
in_order : (o : YuvNVOrder) (pair : ℕ) (R : Bool → ℕ → Type 0) → R true (2 * pair + u_at o) → R false (2 * pair + v_at o) → R (is_u o (2 * pair)) (2 * pair) × R (is_u o (2 * pair + 1)) (2 * pair + 1)
in_order UV pair R u v = (
  subst (λ (b : Bool). R b (2 * pair)) (sym (eq-eqb (2 * pair % 2) 0 (omega arith))) (subst (R true) (omega arith) u),
  subst (λ (b : Bool). R b (2 * pair + 1)) (sym (ne_eqb ((2 * pair + 1) % 2) 0 (λ q. omega arith))) v,
)
in_order VU pair R u v = (
  subst (λ (b : Bool). R b (2 * pair)) (sym (ne_eqb (2 * pair % 2) 1 (λ q. omega arith))) (subst (R false) (omega arith) v),
  subst (λ (b : Bool). R b (2 * pair + 1)) (sym (eq-eqb ((2 * pair + 1) % 2) 1 (omega arith))) u,
)

module _ (s : Settings) (k : Named) (width : ℕ) (two : Bool) (top low chroma : List ℕ) (pair : ℕ) where
  -- a word of a pair is right as its U or its V
  abbrev pub WordRight : Bool → ℕ → Type 0
  WordRight u n = block_right s k u (tiled s.channels top low (tile_of s.subsampling width two pair)) (get_or chroma n 0) ≡ true

  pub elements : WordRight true (2 * pair + u_at s.order) → WordRight false (2 * pair + v_at s.order) →
      (chroma_element_right s k width two top low chroma (2 * pair) ≡ true)
      × (chroma_element_right s k width two top low chroma (2 * pair + 1) ≡ true)
  elements u v =
      let q = in_order s.order pair WordRight u v in
      let first : pair ≡ 2 * pair / 2 = omega arith in
      let second : pair ≡ (2 * pair + 1) / 2 = omega arith in (
        sym (element_is s k width two top low (2 * pair) (get_or chroma (2 * pair) 0) refl (ap (tile_of s.subsampling width two) first) (sym q.0)),
        sym (element_is s k width two top low (2 * pair + 1) (get_or chroma (2 * pair + 1) 0) refl (ap (tile_of s.subsampling width two) second) (sym q.1)),
      )
