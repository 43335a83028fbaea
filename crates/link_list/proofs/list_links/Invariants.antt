-- `link_list::list_links` meets its contract: what is listed, and what the lines from `at` on have, is all.
use Rattle.spec.specs.Lines.{text_at, lines_from}
use Prim.Native.Nat.{◌-◌}
use lib.ListN.{length}
use Rattle.link_list.proofs.Lists.{Listing}
use Rattle.link_list.proofs.list_links.Given as goal

abbrev pub invariant-loop-lines : goal.invariant-loop-lines
invariant-loop-lines l = Listing l.db l.initial.ats l.initial.names l.ats l.names (lines_from l.at (text_at l.db l.at)) l.lines l.n

abbrev pub decreases-loop-lines : goal.decreases-loop-lines
decreases-loop-lines l = length l.db - l.at
