-- `removal_notes::next_position` meets its contract.
use mathlib.Core.Path.{sym}
use Rattle.removal_notes.proofs.Positions.{behind-newline, behind-other}
use Rattle.removal_notes.proofs.next_position.Goals as goal

pub returns-then-b-eq10 : goal.returns-then-b-eq10
returns-then-b-eq10 c = sym (behind-newline _ _ c.if-b-eq10.true)

pub returns : goal.returns
returns c = sym (behind-other _ _ c.if-b-eq10.false)
