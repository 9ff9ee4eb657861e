-- Parts of a buffer, as they are lent and come back. Definitions only.
use Rattle.std.specs.Prelude.{ℕ, ◌*◌, List, ◌++◌, take, drop}

-- the n elements from a on are replaced by as many others
abbrev pub put : List ℕ → ℕ → List ℕ → ℕ → List ℕ
put xs a ys n = take a xs ++ (ys ++ drop n (drop a xs))

-- part i of a buffer that is cut into parts of n elements, and the buffer with another part in its place
abbrev pub part : ℕ → ℕ → List ℕ → List ℕ
part n i xs = take n (drop (i * n) xs)

abbrev pub put_part : ℕ → ℕ → List ℕ → List ℕ → List ℕ
put_part n i xs ys = put xs (i * n) ys n
