-- No newline is among the bytes that were read before. The measure is the room that is left.
use Rattle.std.proofs.Common.{length, take, ◌-◌, ◌≤◌, ◌≡◌}
use Rattle.spec.specs.Lists.{upto}
use Rattle.program_io.proofs.read_line.Given as goal

abbrev pub invariant-loop-used : goal.invariant-loop-used
invariant-loop-used g l = (l.used ≤ length l.buffer) × (length l.buffer ≡ length l.initial.buffer) × (l.used ≡ length (upto 10 (take l.used l.buffer)))

abbrev pub decreases-loop-used : goal.decreases-loop-used
decreases-loop-used g l = length l.buffer - l.used
