-- `line_collector::feed_block` meets its contract.
use mathlib.Core.Path.{◌≡◌}
use lib.ListN.{length}
use Rattle.spec.specs.Finder.{fed}
use Rattle.line_collector.specs.Answers.{placed}
use Rattle.line_collector.proofs.feed_block.Given as goal

-- what the bytes that are left make of the present place
abbrev pub invariant-loop-rest : goal.invariant-loop-rest
invariant-loop-rest l = fed l.name (placed l.initial.q l.initial.text) l.initial.rest ≡ fed l.name (placed l.q l.text) l.rest

abbrev pub decreases-loop-rest : goal.decreases-loop-rest
decreases-loop-rest l = length l.rest
