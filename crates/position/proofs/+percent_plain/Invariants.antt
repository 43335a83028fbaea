-- `position::plain` and `position::percent`: the measure of both is the length of the command that is left, as each call is on a part after
-- at least one byte. A run of plain bytes is a loop, and so are sequences that follow each other.
use Rattle.std.proofs.Common.{length, ◌-◌}
use Rattle.places.specs.Places.{parameters_of}
use Rattle.position.proofs.RunLaws.{Run}
use Rattle.position.proofs.SequenceLaws.{Went}
use Rattle.position.proofs.+percent_plain.Given as goal

abbrev pub decreases-percent : goal.decreases-percent
decreases-percent l = length l.command.now

abbrev pub decreases-plain : goal.decreases-plain
decreases-plain l = length l.command.now

abbrev pub invariant-percent-loop-done : goal.invariant-percent-loop-done
invariant-percent-loop-done l = Went l.command l.g (parameters_of l.fn.first) l.initial.out l.start l.out l.i l.at (parameters_of l.ps)

abbrev pub decreases-percent-loop-done : goal.decreases-percent-loop-done
decreases-percent-loop-done l = length l.command - l.i

abbrev pub invariant-plain-loop-i : goal.invariant-plain-loop-i
invariant-plain-loop-i l = Run l.command l.g (parameters_of l.ps) l.initial.out l.at l.out l.i
