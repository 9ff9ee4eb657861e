-- A buffer cut into parts of one size: what lies before and after a part that is put back. Assumes nothing.
use mathlib.Core.Path.{◌≡◌, sym, ap, ◌∙◌, subst⁻¹}
use mathlib.Core.List.{List, ◌++◌, append_assoc}
use Prim.Native.Nat.{ℕ, ◌+◌, ◌*◌, ◌≤◌, ◌<◌}
use native.Mathlib.Nat.{add-mul, one-mul, mul-le-mul, mul-le-mul_right}
use native.Mathlib.Omega.{arith}
use lib.ListN.{length, take, drop, length-append, length-drop, take-append-drop}
use lib.Seq.{length-take-le, take_at, drop_at, drop-drop}
use Rattle.plane_laws.specs.Parts.{part, put_part}

-- the end of one of the first 64 parts of at most 2^30 elements fits 64 bits
pub record Within (i size long : ℕ) : Type 0 where
  pub inside : i * size + size ≤ long
  pub small : i * size + size ≤ 68719476736

pub within : (i long : ℕ) {r size : ℕ} → r ≡ size → r ≤ 1073741824 → i < 64 → i * size + size ≤ long → Within i r long
within i long {r} {size} e small few h =
    let a : i ≤ 63 = omega arith in
    let k = mul-le-mul a small in
    record { inside = subst⁻¹ (λ (m : ℕ). i * m + m ≤ long) e h; small = omega arith }

module _ (size i : ℕ) where
  -- the next part begins where part i ends
  pub next : (i + 1) * size ≡ i * size + size
  next = add-mul i 1 size ∙ ap (λ (n : ℕ). i * size + n) (one-mul size)

  -- part i of n parts lies in a buffer of n parts
  pub inside : (n long : ℕ) → i < n → long ≡ n * size → i * size + size ≤ long
  inside n long b e = let h : (i + 1) * size ≤ n * size = mul-le-mul_right size (omega arith) in omega (arith, next, e, h)

  pub drop_next : (xs : List ℕ) → drop ((i + 1) * size) xs ≡ drop size (drop (i * size) xs)
  drop_next xs = ap (λ (n : ℕ). drop n xs) next ∙ sym (drop-drop size (i * size) xs)

  module _ (xs : List ℕ) where
    pub put_same : put_part size i xs (part size i xs) ≡ xs
    put_same = ap (λ (z : List ℕ). take (i * size) xs ++ z) (take-append-drop size (drop (i * size) xs)) ∙ take-append-drop (i * size) xs

    module _ (fits : i * size + size ≤ length xs) where
      pub length_part : length (part size i xs) ≡ size
      length_part = length-take-le size (drop (i * size) xs) (omega (arith, fits, length-drop (i * size) xs))

      module _ (ys : List ℕ) (long : length ys ≡ size) where
        before_next : length (take (i * size) xs ++ ys) ≡ (i + 1) * size
        before_next =
            let l : length (take (i * size) xs) ≡ i * size = length-take-le (i * size) xs (omega (arith, fits)) in
            let a = length-append (take (i * size) xs) ys in
            omega (arith, l, long, a, next)

        pub take_put : take ((i + 1) * size) (put_part size i xs ys) ≡ take (i * size) xs ++ ys
        take_put =
            ap (take ((i + 1) * size)) (sym (append_assoc (take (i * size) xs) ys (drop size (drop (i * size) xs))))
            ∙ take_at (take (i * size) xs ++ ys) (drop size (drop (i * size) xs)) ((i + 1) * size) before_next

        pub drop_put : drop ((i + 1) * size) (put_part size i xs ys) ≡ drop size (drop (i * size) xs)
        drop_put =
            ap (drop ((i + 1) * size)) (sym (append_assoc (take (i * size) xs) ys (drop size (drop (i * size) xs))))
            ∙ drop_at (take (i * size) xs ++ ys) (drop size (drop (i * size) xs)) ((i + 1) * size) before_next
