-- Laws of `tabulate`, and of a loop that fills a list by index. Assumes nothing.
use mathlib.Core.Path.{◌≡◌, refl, sym, ap, ◌∙◌, subst, subst⁻¹}
use mathlib.Core.Logic.{⊎_elim}
use mathlib.Core.List.{List, ◌∷◌}
use Prim.Native.Nat.{ℕ, zero, suc, ◌+◌, ◌*◌, ◌≤◌, ◌<◌, suc-le-suc}
use native.Mathlib.Nat.{le_of_suc-le-suc, not-suc-le-zero, zero-lt-suc, eq-or-lt_of_le, lt_irrefl, mul-le-mul_right, suc-mul}
use native.Mathlib.Numerals.{add-one}
use native.Mathlib.Omega.{arith}
use lib.ListN.{length, get_or, set, length-set}
use lib.Seq.{ext_get_or, get_or-set_same, get_or-set_other}
use Rattle.rules.specs.Planes.{tabulate}
use Rattle.plane_laws.specs.Rows.{Begun, Finished}
use Rattle.plane_laws.proofs.Tests.{lt_or_le}

pub length_tabulate : (n : ℕ) (f : ℕ → ℕ) → length (tabulate n f) ≡ n
unfolding tabulate
length_tabulate zero f = refl
length_tabulate (suc n) f = ap suc (length_tabulate n (λ i. f (suc i)))

pub get_d_tabulate : (n : ℕ) (f : ℕ → ℕ) (i : ℕ) → i < n → get_or (tabulate n f) i 0 ≡ f i
unfolding tabulate
get_d_tabulate zero f i h = absurd (not-suc-le-zero h)
get_d_tabulate (suc n) f zero h = refl
get_d_tabulate (suc n) f (suc i) h = get_d_tabulate n (λ j. f (suc j)) i (le_of_suc-le-suc h)

pub tabulate_ext : (n : ℕ) (f g : ℕ → ℕ) → ((i : ℕ) → i < n → f i ≡ g i) → tabulate n f ≡ tabulate n g
unfolding tabulate
tabulate_ext zero f g h = refl
tabulate_ext (suc n) f g h =
    λ j. h zero (zero-lt-suc n) j ∷ tabulate_ext n (λ i. f (suc i)) (λ i. g (suc i)) (λ i l. h (suc i) (suc-le-suc l)) j

-- a list is a table of what it has at each index
pub is_tabulate : (l : List ℕ) (n : ℕ) (f : ℕ → ℕ) → length l ≡ n → ((i : ℕ) → i < n → get_or l i 0 ≡ f i) → l ≡ tabulate n f
is_tabulate l n f e h =
    ext_get_or 0 l (tabulate n f) (e ∙ sym (length_tabulate n f))
    (λ i b. let b' : i < n = omega (arith, e) in h i b' ∙ sym (get_d_tabulate n f i b'))

-- ---- a row whose first elements are written, by a loop

pub begun_none : (y : List ℕ) (f : ℕ → ℕ) → Begun 0 f y y
begun_none y f = record { within = omega arith; long = refl; done = λ k h. absurd (not-suc-le-zero h); kept = λ k h. refl }

pub begun_more : (old y : List ℕ) (i v : ℕ) (f : ℕ → ℕ) → Begun i f old y → i < length old → v ≡ f i → Begun (i + 1) f old (set y i v)
begun_more old y i v f h l e =
    record {
      within = omega arith;
      long = length-set y i v ∙ h.long;
      done = λ k b. ⊎_elim
          (λ (q : k ≡ i). subst⁻¹ (λ (j : ℕ). get_or (set y i v) j 0 ≡ f j) q (get_or-set_same y i v 0 (omega (arith, h.long)) ∙ e))
          (λ (q : k < i). get_or-set_other y i k v 0 (λ r. lt_irrefl i (subst (λ (j : ℕ). j < i) r q)) ∙ h.done k q)
          (eq-or-lt_of_le (le_of_suc-le-suc (subst (λ (m : ℕ). k < m) (add-one i) b)));
      kept = λ k b. get_or-set_other y i k v 0 (λ r. lt_irrefl k (omega (arith, r))) ∙ h.kept k (omega arith);
    }

pub begun_two : (old y : List ℕ) (i v w : ℕ) (f : ℕ → ℕ) → Begun i f old y → i + 2 ≤ length old → v ≡ f i → w ≡ f (i + 1) → Begun (i + 2) f old (set (set y i v) (i + 1) w)
begun_two old y i v w f h l e d =
    let n : i + 1 + 1 ≡ i + 2 = omega arith in
    subst (λ (k : ℕ). Begun k f old (set (set y i v) (i + 1) w)) n
    (begun_more old (set y i v) (i + 1) w f (begun_more old y i v f h (omega arith) e) (omega arith) d)

-- the same by a number that was worked out
pub begun_at : {n m : ℕ} {f : ℕ → ℕ} {old y : List ℕ} → n ≡ m → Begun n f old y → Begun m f old y
begun_at {f} {old} {y} e h = subst (λ (k : ℕ). Begun k f old y) e h

-- ---- and one whose last elements are

pub finished_at : {n m : ℕ} {f : ℕ → ℕ} {old y : List ℕ} → n ≡ m → Finished n f old y → Finished m f old y
finished_at {f} {old} {y} e h = subst (λ (k : ℕ). Finished k f old y) e h

-- nothing is left to write
pub finished_none : (n : ℕ) (f : ℕ → ℕ) (y : List ℕ) → length y ≤ n → Finished n f y y
finished_none n f y h = record { long = refl; kept = λ k b. refl; done = λ k a b. absurd (lt_irrefl k (omega arith)) }

pub finished_one : (i v : ℕ) (f : ℕ → ℕ) (y : List ℕ) → length y ≡ i + 1 → v ≡ f i → Finished i f y (set y i v)
finished_one i v f y l e =
    record {
      long = length-set y i v;
      kept = λ k b. get_or-set_other y i k v 0 (λ r. lt_irrefl k (omega (arith, r)));
      done = λ k a b.
          let q : k ≡ i = omega arith in
          subst⁻¹ (λ (j : ℕ). get_or (set y i v) j 0 ≡ f j) q (get_or-set_same y i v 0 (omega arith) ∙ e);
    }

pub finished_two : (i v w : ℕ) (f : ℕ → ℕ) (y : List ℕ) → length y ≡ i + 2 → v ≡ f i → w ≡ f (i + 1) → Finished i f y (set (set y i v) (i + 1) w)
finished_two i v w f y l e d =
    record {
      long = length-set (set y i v) (i + 1) w ∙ length-set y i v;
      kept = λ k b.
          get_or-set_other (set y i v) (i + 1) k w 0 (λ r. lt_irrefl k (omega (arith, r))) ∙ get_or-set_other y i k v 0 (λ r. lt_irrefl k (omega (arith, r)));
      done = λ k a b. ⊎_elim
          (λ (q : k ≡ i + 1). subst⁻¹ (λ (j : ℕ). get_or (set (set y i v) (i + 1) w) j 0 ≡ f j) q (get_or-set_same (set y i v) (i + 1) w 0 (omega (arith, length-set y i v)) ∙ d))
          (λ (q : k < i + 1).
          let z : k ≡ i = omega arith in
          subst⁻¹ (λ (j : ℕ). get_or (set (set y i v) (i + 1) w) j 0 ≡ f j) z
          (get_or-set_other (set y i v) (i + 1) i w 0 (λ r. lt_irrefl i (omega (arith, r))) ∙ get_or-set_same y i v 0 (omega arith) ∙ e))
          (eq-or-lt_of_le (omega arith));
    }

-- begun, then finished, a row is a table
pub row_written : (n m : ℕ) (f : ℕ → ℕ) (old y z : List ℕ) → length old ≡ m → Begun n f old y → Finished n f y z → z ≡ tabulate m f
row_written n m f old y z l b e =
    is_tabulate z m f (e.long ∙ b.long ∙ l)
    (λ k h. ⊎_elim
    (λ (q : k < n). e.kept k q ∙ b.done k q)
    (λ (q : n ≤ k). e.done k q (omega (arith, b.long)))
    (lt_or_le k n))

-- n steps of k lie within L: so does the step from i on
pub step_le : (i n k L : ℕ) → i < n → n * k ≤ L → i * k + k ≤ L
step_le i n k L h l = omega (arith, mul-le-mul_right k h, suc-mul i k)
