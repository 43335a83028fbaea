-- Each cut lies between the last one and the end.
use Prim.Native.Nat.{◌≤◌}
use lib.ListN.{length}
use Rattle.request_cases.proofs.feed_blocks.Given as goal

abbrev pub invariant-loop-b : goal.invariant-loop-b
invariant-loop-b l = l.at ≤ length l.file
