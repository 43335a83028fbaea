-- `mended_fields::takes_colon` meets its contract: with its colon a field is longer.
use native.Mathlib.Omega.{arith}
use borrow.Author.Tests.{lt-ltb}
use Rattle.mended_fields.proofs.WrittenPieces.{has_colon, has_none}
use Rattle.mended_fields.proofs.takes_colon.Goals as goal

pub returns-then-n-count : goal.returns-then-n-count
returns-then-n-count c = let a = c.args in rw (has_colon a.s.now a.at (omega arith)) (lt-ltb a.n a.count (omega arith))

pub returns-else-n-count : goal.returns-else-n-count
returns-else-n-count c = let a = c.args in rw (has_none a.s.now a.at (omega arith)) c.ends_in_backslash.ensures
