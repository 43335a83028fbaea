-- `tcmend::megabyte` meets its contract.
use Prim.Native.Nat.{ℕ}
use lib.ListN.{length-replicate}
use Rattle.tcmend.proofs.megabyte.Goals as goal

pub returns : goal.returns
returns c = length-replicate {A = ℕ} 1048577 0
