-- `link_targets::target_of` meets its contract: the first line of the name's number is where it is found.
use mathlib.Core.Path.{◌∙◌}
use Rattle.link_targets.proofs.Found.{table_found}
use Rattle.link_targets.proofs.target_of.Goals as goal

pub returns-in-Some : goal.returns-in-Some
returns-in-Some c =
    let w = c.args.wanted.now in
    let there = c.in-Some.ensures.lookup.3 in
    there.1 0 ∙ table_found _ w.bytes.now w.lens.now w.order.now w.count _ _ _ c.requires.first_lines c.requires.firsts_len
    c.number_of.ensures there.0
