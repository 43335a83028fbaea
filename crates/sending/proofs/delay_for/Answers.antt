-- `sending::delay_for` meets its contract: a delay for at most a thousand lines fits.
use native.Mathlib.Omega.{arith}
use Rattle.sending.proofs.Inputs.{lines_delay}
use Rattle.sending.proofs.delay_for.Goals as goal

pub overflow_mul-result : goal.overflow_mul-result
overflow_mul-result c = let m = lines_delay _ _ c.requires.0 c.requires.1 in omega arith

pub returns-then-star : goal.returns-then-star
returns-then-star c = rw c.if-star.true
