-- `name_count::count_line` meets its contract: an ignored line holds no names.
use mathlib.Core.Path.{sym, ◌∙◌}
use mathlib.Core.List.{[]}
use Rattle.name_count.proofs.Counting.{at-start, none_left, ignored-names, held-names}
use Rattle.name_count.proofs.count_line.Goals as goal

pub returns-then-is_ignored : goal.returns-then-is_ignored
returns-then-is_ignored c = rw (ignored-names _ (sym c.is_ignored.ensures ∙ c.if-is_ignored.true)) (none_left _ [] _ _ (at-start _ _ _))

pub count_names-requires : goal.count_names-requires
count_names-requires c = rw (held-names _ (sym c.is_ignored.ensures ∙ c.if-is_ignored.false)) at c.requires

pub returns : goal.returns
returns c = rw (held-names _ (sym c.is_ignored.ensures ∙ c.if-is_ignored.false)) c.count_names.ensures
