-- `link_list::find_reasons` meets its contract: each step meets what the next one requires, and the law `listed_reasons` joins them.
use native.Mathlib.Omega.{arith}
use Rattle.link_list.proofs.Joining.{names-good, listed-starts, listed_reasons}
use Rattle.link_list.proofs.find_reasons.Goals as goal

pub find_targets-requires-clause-short_names : goal.find_targets-requires-clause-short_names
find_targets-requires-clause-short_names c = names-good _ _ c.requires.names_value

pub judge_links-requires-clause-starts : goal.judge_links-requires-clause-starts
judge_links-requires-clause-starts c = listed-starts _ _ c.requires.db_len_bound c.requires.ats_value

pub returns : goal.returns
returns c =
    let a = c.args in
    let pre = c.requires in
    let found = c.find_targets.ensures in
    let judged = c.judge_links.ensures in
    let reasons = listed_reasons a.db.now a.ats.now a.names.now c.find_targets.new.tos _ pre.db_len_bound pre.ats_value
    pre.names_value pre.names_len (omega (arith, pre.tos_len)) found judged.0 in
    (reasons, found, judged.1)
