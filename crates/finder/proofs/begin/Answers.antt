-- `finder::begin` meets its contract.
use mathlib.Core.Path.{ap}
use mathlib.Core.List.{List}
use Prim.Native.Nat.{ℕ}
use lib.ListN.{length}
use Rattle.spec.specs.Finder.{begun}
use Rattle.finder.proofs.Calls as Calls
use Rattle.finder.proofs.begin.Goals as goal

pub returns : goal.returns
returns c =
    let a = c.args in
    ap (λ (l : List ℕ). begun (length a.name.now) l a.ended) (Calls.named a.name.now _ c.requires c.copy_from_slice.ensures.after)
