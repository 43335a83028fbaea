-- `link_list::first_link` meets its contract: the fields passed are no links.
use Prim.Native.Nat.{◌-◌}
use mathlib.Core.Path.{◌≡◌}
use lib.ListN.{length}
use Rattle.spec.specs.Lines.{line_at}
use Rattle.spec.specs.Fields.{split}
use Rattle.link_list.specs.Listing.{link_in}
use Rattle.link_list.proofs.first_link.Given as goal

abbrev pub invariant-loop-read : goal.invariant-loop-read
invariant-loop-read l = link_in (split (line_at l.s 0)) ≡ link_in (split (line_at l.s l.i))

abbrev pub decreases-loop-read : goal.decreases-loop-read
decreases-loop-read l = length l.s - l.i
