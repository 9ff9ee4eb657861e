-- A plane whose rows are written one after the other, or several at once. Assumes nothing.
use mathlib.Core.Path.{◌≡◌, refl, sym, ap, ◌∙◌, subst}
use mathlib.Core.Logic.{◌⊎◌, inl, inr}
use mathlib.Core.Bool.{Bool, true, false, ◌&&◌, cond}
use mathlib.Core.List.{List, ◌++◌}
use Prim.Native.Nat.{ℕ, ◌+◌, ◌-◌, ◌*◌, ◌/◌, ◌%◌, ◌≤◌, ◌<◌}
use native.Mathlib.Nat.{add-zero, add-mul, div-add-mod', div-lt_iff_lt-mul, div-eq_of_lt, mod-eq_of_lt, mul-le-mul_right, mul-add-div_right, mul-add-mod_self_right}
use native.Mathlib.Omega.{arith}
use borrow.Author.Tests.{lt-ltb, le-ltb}
use lib.Dec.{ltb}
use lib.ListN.{length, get_or, take, drop, length-append, length-drop, get_or-append}
use lib.Seq.{length-take-le, get_or-append-add, get_or-take, get_or-drop}
use Rattle.rules.specs.Planes.{tabulate, element, written}
use Rattle.plane_laws.specs.Parts.{put}
use Rattle.plane_laws.proofs.Tests.{lt_or_le}
use Rattle.plane_laws.proofs.Tables.{length_tabulate, get_d_tabulate, tabulate_ext, is_tabulate}

-- ---- a part in the middle of P is replaced by one as long, as a lent part comes back
module _ (P : List ℕ) (a : ℕ) (row : List ℕ) (w : ℕ) (hw : length row ≡ w) (fits : a + w ≤ length P) where
  at : length (take a P) ≡ a
  at = length-take-le a P (omega arith)

  pub length_put : length (put P a row w) ≡ length P
  length_put =
      length-append (take a P) (row ++ drop w (drop a P))
      ∙ omega (arith, at, length-append row (drop w (drop a P)), hw, length-drop w (drop a P), length-drop a P)

  pub put_before : (k : ℕ) → k < a → get_or (put P a row w) k 0 ≡ get_or P k 0
  put_before k h = get_or-append (take a P) (row ++ drop w (drop a P)) 0 k (omega (arith, at)) ∙ get_or-take a P k 0 h

  inner : (i : ℕ) → get_or (put P a row w) (a + i) 0 ≡ get_or (row ++ drop w (drop a P)) i 0
  inner i =
      subst (λ (m : ℕ). get_or (put P a row w) (m + i) 0 ≡ get_or (row ++ drop w (drop a P)) i 0) at
      (get_or-append-add (take a P) (row ++ drop w (drop a P)) i 0)

  pub put_in : (i : ℕ) → i < w → get_or (put P a row w) (a + i) 0 ≡ get_or row i 0
  put_in i h = inner i ∙ get_or-append row (drop w (drop a P)) 0 i (omega (arith, hw))

  past : (i : ℕ) → get_or (put P a row w) (a + (w + i)) 0 ≡ get_or P (a + (w + i)) 0
  past i =
      inner (w + i)
      ∙ subst (λ (m : ℕ). get_or (row ++ drop w (drop a P)) (m + i) 0 ≡ get_or (drop w (drop a P)) i 0) hw
      (get_or-append-add row (drop w (drop a P)) i 0)
      ∙ get_or-drop w (drop a P) i 0
      ∙ get_or-drop a P (w + i) 0

  pub put_after : (k : ℕ) → a + w ≤ k → get_or (put P a row w) k 0 ≡ get_or P k 0
  put_after k h =
      let e : a + (w + (k - (a + w))) ≡ k = omega arith in
      subst (λ (m : ℕ). get_or (put P a row w) m 0 ≡ get_or P m 0) e (past (k - (a + w)))

-- ---- a plane, element by element
module _ (st w : ℕ) (f : ℕ → ℕ → ℕ) (old : List ℕ) where
  pub length_plane : (n : ℕ) → length (written st w n f old) ≡ length old
  unfolding written
  length_plane n = length_tabulate (length old) (element st w n f old)

  pub plane_at : (n k : ℕ) → k < length old → get_or (written st w n f old) k 0 ≡ element st w n f old k
  unfolding written
  plane_at n k h = get_d_tabulate (length old) (element st w n f old) k h

  -- the element at k, by the two tests
  by : (n k : ℕ) (s t : Bool) → ltb (k % st) w ≡ s → ltb (k / st) n ≡ t → element st w n f old k ≡ cond (s && t) (f (k / st) (k % st)) (get_or old k 0)
  unfolding element
  by n k s t p q = λ i. cond (p i && q i) (f (k / st) (k % st)) (get_or old k 0)

  and_false : (s : Bool) (a b : ℕ) → cond (s && false) a b ≡ b
  and_false true a b = refl
  and_false false a b = refl

  -- it is visible, or lies past the visible columns, or past the written rows
  pub shown : (n k : ℕ) → k % st < w → k / st < n → element st w n f old k ≡ f (k / st) (k % st)
  shown n k h l = by n k true true (lt-ltb _ _ h) (lt-ltb _ _ l)

  pub beside : (n k : ℕ) → w ≤ k % st → element st w n f old k ≡ get_or old k 0
  beside n k h = by n k false _ (le-ltb _ _ h) refl

  pub below : (n k : ℕ) → n ≤ k / st → element st w n f old k ≡ get_or old k 0
  below n k h = by n k (ltb (k % st) w) false refl (le-ltb _ _ h) ∙ and_false (ltb (k % st) w) (f (k / st) (k % st)) (get_or old k 0)

  -- the element of a written row
  pub written_at : (n row column : ℕ) → row < n → column < w → w ≤ st → row * st + w ≤ length old → get_or (written st w n f old) (row * st + column) 0 ≡ f row column
  written_at n row column h l c fits =
      let k = row * st + column in
      let b : column < st = omega arith in
      let some : 0 < st = omega arith in
      let q : k / st ≡ row = mul-add-div_right some row column ∙ ap (λ (i : ℕ). row + i) (div-eq_of_lt b) ∙ add-zero row in
      let r : k % st ≡ column = mul-add-mod_self_right row st column ∙ mod-eq_of_lt b in
      plane_at n k (omega arith) ∙ shown n k (omega arith) (omega arith) ∙ (λ i. f (q i) (r i))

  -- no row is written yet
  pub plane_none : old ≡ written st w 0 f old
  unfolding written
  plane_none = is_tabulate old (length old) (element st w 0 f old) refl (λ k h. sym (below 0 k (omega arith)))

  -- a plane that is one row and no more
  pub row_alone : w ≤ st → length old ≡ w → tabulate w (f 0) ≡ written st w 1 f old
  unfolding written
  row_alone wide e =
      tabulate_ext w (f 0) (element st w 1 f old) each
      ∙ ap (λ (n : ℕ). tabulate n (element st w 1 f old)) (sym e)
    where
      each : (x : ℕ) → x < w → f 0 x ≡ element st w 1 f old x
      each x h =
          let b : x < st = omega arith in
          let q : x / st ≡ 0 = div-eq_of_lt b in
          let r : x % st ≡ x = mod-eq_of_lt b in
          sym (shown 1 x (omega arith) (omega arith) ∙ (λ i. f (q i) (r i)))

-- planes by functions that agree on the visible elements
pub written_ext : (st w n : ℕ) (f g : ℕ → ℕ → ℕ) (old : List ℕ) → ((r x : ℕ) → r < n → x < w → f r x ≡ g r x) → written st w n f old ≡ written st w n g old
unfolding written
written_ext st w n f g old h = tabulate_ext (length old) (element st w n f old) (element st w n g old) (λ k b. each k (lt_or_le (k % st) w) (lt_or_le (k / st) n))
  where
    each : (k : ℕ) → (k % st < w) ⊎ (w ≤ k % st) → (k / st < n) ⊎ (n ≤ k / st) → element st w n f old k ≡ element st w n g old k
    each k (inl x) (inl r) = shown st w f old n k x r ∙ h (k / st) (k % st) r x ∙ sym (shown st w g old n k x r)
    each k (inl x) (inr r) = below st w f old n k r ∙ sym (below st w g old n k r)
    each k (inr x) r = beside st w f old n k x ∙ sym (beside st w g old n k x)

-- ---- n rows, from row j on, are written into the part that reaches from the first of them to the last one's visible end
module _ (st w : ℕ) (f g : ℕ → ℕ → ℕ) (old : List ℕ) (j n m : ℕ) (some : 0 < st) (wide : w ≤ st) (ends : m + st ≡ n * st + w) (fits : j * st + m ≤ length old)
    (agree : (r x : ℕ) → r < n → x < w → g r x ≡ f (j + r) x) where
  abbrev P : List ℕ
  P = written st w j f old

  abbrev part : List ℕ
  part = take m (drop (j * st) P)

  room : j * st + m ≤ length P
  room = omega (arith, length_plane st w f old j)

  part_long : length part ≡ m
  part_long = length-take-le m (drop (j * st) P) (omega (arith, room, length-drop (j * st) P))

  new_long : length (written st w n g part) ≡ m
  new_long = length_plane st w g part n ∙ part_long

  -- an element above the rows
  above : (k : ℕ) → k / st < j → (k % st < w) ⊎ (w ≤ k % st) → element st w j f old k ≡ element st w (j + n) f old k
  above k h (inl x) = shown st w f old j k x h ∙ sym (shown st w f old (j + n) k x (omega arith))
  above k h (inr x) = beside st w f old j k x ∙ sym (beside st w f old (j + n) k x)

  -- an element past them
  beyond : (k : ℕ) → j ≤ k / st → j * st + m ≤ k → (k % st < w) ⊎ (w ≤ k % st) → (k / st < j + n) ⊎ (j + n ≤ k / st) → element st w j f old k ≡ element st w (j + n) f old k
  beyond k h l (inr x) r = beside st w f old j k x ∙ sym (beside st w f old (j + n) k x)
  beyond k h l (inl x) (inr r) = below st w f old j k h ∙ sym (below st w f old (j + n) k r)
  beyond k h l (inl x) (inl r) =
      absurd (omega (arith, div-add-mod' k st, mul-le-mul_right st r, add-mul (k / st) 1 st, add-mul j n st))

  -- element i of the part is element j * st + i of the plane
  within : (i : ℕ) → i < m → (i % st < w) ⊎ (w ≤ i % st) → (i / st < n) ⊎ (n ≤ i / st) → element st w n g part i ≡ element st w (j + n) f old (j * st + i)
  within i b x r = go x r
    where
      q : (j * st + i) / st ≡ j + i / st
      q = mul-add-div_right some j i

      c : (j * st + i) % st ≡ i % st
      c = mul-add-mod_self_right j st i

      kept : element st w j f old (j * st + i) ≡ get_or old (j * st + i) 0
      kept = below st w f old j (j * st + i) (omega (arith, q))

      was : get_or part i 0 ≡ get_or old (j * st + i) 0
      was =
          get_or-take m (drop (j * st) P) i 0 b
          ∙ get_or-drop (j * st) P i 0
          ∙ plane_at st w f old j (j * st + i) (omega arith)
          ∙ kept

      go : (i % st < w) ⊎ (w ≤ i % st) → (i / st < n) ⊎ (n ≤ i / st) → element st w n g part i ≡ element st w (j + n) f old (j * st + i)
      go (inl x) (inl r) =
          shown st w g part n i x r ∙ agree (i / st) (i % st) r x ∙ sym (λ z. f (q z) (c z))
          ∙ sym (shown st w f old (j + n) (j * st + i) (omega (arith, c)) (omega (arith, q)))
      go (inl x) (inr r) = below st w g part n i r ∙ was ∙ sym (below st w f old (j + n) (j * st + i) (omega (arith, q)))
      go (inr x) r = beside st w g part n i x ∙ was ∙ sym (beside st w f old (j + n) (j * st + i) (omega (arith, c)))

  abbrev P' : List ℕ
  P' = put P (j * st) (written st w n g part) m

  each : (k : ℕ) → k < length old → (k < j * st) ⊎ (j * st ≤ k) → (k < j * st + m) ⊎ (j * st + m ≤ k) → get_or P' k 0 ≡ element st w (j + n) f old k
  each k b (inl h) l =
      put_before P (j * st) (written st w n g part) m new_long room k h
      ∙ plane_at st w f old j k b
      ∙ above k ((div-lt_iff_lt-mul some).1 h) (lt_or_le (k % st) w)
  each k b (inr h) (inl l) =
      let i : ℕ = k - j * st in
      let e : j * st + i ≡ k = omega arith in
      let t : i < m = omega arith in
      subst (λ (z : ℕ). get_or P' z 0 ≡ element st w (j + n) f old z) e
      (put_in P (j * st) (written st w n g part) m new_long room i t
      ∙ plane_at st w g part n i (omega (arith, part_long))
      ∙ within i t (lt_or_le (i % st) w) (lt_or_le (i / st) n))
  each k b (inr h) (inr l) =
      put_after P (j * st) (written st w n g part) m new_long room k l
      ∙ plane_at st w f old j k b
      ∙ beyond k (from k h (lt_or_le (k / st) j)) l (lt_or_le (k % st) w) (lt_or_le (k / st) (j + n))
    where
      from : (k : ℕ) → j * st ≤ k → (k / st < j) ⊎ (j ≤ k / st) → j ≤ k / st
      from k h (inr l) = l
      from k h (inl l) = absurd (omega (arith, (div-lt_iff_lt-mul some).0 l))

  -- the plane with n rows more
  pub plane_rows : P' ≡ written st w (j + n) f old
  unfolding written
  plane_rows =
      is_tabulate P' (length old) (element st w (j + n) f old)
      (length_put P (j * st) (written st w n g part) m new_long room ∙ length_plane st w f old j)
      (λ k b. each k b (lt_or_le k (j * st)) (lt_or_le k (j * st + m)))

-- the plane with one row more
pub plane_row : (st w : ℕ) (f : ℕ → ℕ → ℕ) (old : List ℕ) (j : ℕ) → 0 < st → w ≤ st → j * st + w ≤ length old
    → put (written st w j f old) (j * st) (tabulate w (f j)) w ≡ written st w (j + 1) f old
plane_row st w f old j some wide fits =
    ap (λ (row : List ℕ). put (written st w j f old) (j * st) row w) (row_alone st w g part' wide long)
    ∙ plane_rows st w f g old j 1 w some wide (omega arith) fits (λ r x h b. ap (λ (i : ℕ). f i x) (same r h))
  where
    g : ℕ → ℕ → ℕ
    g r x = f j x

    part' : List ℕ
    part' = take w (drop (j * st) (written st w j f old))

    long : length part' ≡ w
    long = length-take-le w (drop (j * st) (written st w j f old)) (omega (arith, length_plane st w f old j, length-drop (j * st) (written st w j f old)))

    same : (r : ℕ) → r < 1 → j ≡ j + r
    same r h = omega arith
