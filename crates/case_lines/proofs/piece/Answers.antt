use borrow.Author.Rules.{rules}
use borrow.Author.Tests.{tests}
use Rattle.std.proofs.lemmas.Iterator.Consumers.{nth_from_yields_List}
use Rattle.std.proofs.lemmas.Iterator.Splits.{YieldsList-from_slice_split}
use Rattle.case_lines.proofs.piece.Goals as goal

pub returns : goal.returns
returns c =
    let s = c.split.ensures in
    nth_from_yields_List _ _ c.args.k c.nth.ensures.ran
    (YieldsList-from_slice_split _ _ c.args.line.now s.rest s.done s.closure (λ x r q k. search (rules, tests)))
