-- `finder::open` meets its contract.
use mathlib.Core.Path.{sym, ◌∙◌}
use Rattle.laws.proofs.Judging.{good-name-short}
use Rattle.finder.proofs.open.Goals as goal

pub begin-requires : goal.begin-requires
begin-requires c = good-name-short _ (sym c.is_good_name.ensures ∙ c.if-is_good_name.true)
