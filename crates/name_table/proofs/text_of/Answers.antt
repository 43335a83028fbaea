-- `name_table::text_of` meets its contract: the part that is handed back is the name.
use native.Mathlib.Omega.{arith}
use Rattle.name_table.proofs.Laws.{at_most, text_is}
use Rattle.name_table.proofs.text_of.Goals as goal

pub overflow_add-result : goal.overflow_add-result
overflow_add-result c = let m = at_most 64 _ c.args.j c.requires.at_most in omega arith

pub slice_bounds-result-end : goal.slice_bounds-result-end
slice_bounds-result-end c = let m = at_most 64 _ c.args.j c.requires.at_most in omega arith

pub returns : goal.returns
returns c = text_is _ _ _
