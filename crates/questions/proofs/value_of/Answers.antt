-- `questions::value_of` meets its contract, by what the field is read as.
use mathlib.Core.Path.{sym}
use native.Mathlib.Omega.{arith}
use Rattle.questions.proofs.ReadFields.{no_value}
use Rattle.questions.proofs.value_of.Goals as goal

pub overflow_cast-result : goal.overflow_cast-result
overflow_cast-result c = let p = rw c.in-String.is at c.requires in omega arith

pub returns-in_default : goal.returns-in_default
returns-in_default c = sym (no_value c.args.read c.in_default.not-Flag c.in_default.not-Number c.in_default.not-String)
