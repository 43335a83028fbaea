-- `link_rings::comes_back` meets its contract: the walk from `at` on, with the steps that are left, ends as the whole walk does.
use Prim.Native.Nat.{◌-◌}
use mathlib.Core.Path.{◌≡◌}
use lib.ListN.{length, get_or}
use Rattle.link_rings.specs.Rings.{returns_to}
use Rattle.link_rings.proofs.comes_back.Given as goal

abbrev pub invariant-loop : goal.invariant-loop
invariant-loop l = returns_to l.nexts l.k (length l.nexts - l.k) (get_or l.nexts l.k 0) ≡ returns_to l.nexts l.k (length l.nexts - l.counter) l.at
