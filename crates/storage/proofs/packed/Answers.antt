-- `storage::packed` meets its contract.
use Prim.Native.Nat.{◌-◌}
use native.Mathlib.Omega.{arith}
use lib.Pow.{shl_exact}
use Rattle.storage.proofs.packed.Goals as goal

pub returns-in-MostSignificantBytes : goal.returns-in-MostSignificantBytes
returns-in-MostSignificantBytes c =
    let d = c.args.depth in
    rw c.in-MostSignificantBytes.is (shl_exact d (16 - d) 16 c.requires.code_bound (omega arith))
