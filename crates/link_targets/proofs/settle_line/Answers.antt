-- `link_targets::settle_line` meets its contract: a line that is ignored or dropped settles nothing.
use Rattle.link_targets.proofs.Settling.{settle_none, settle_first, numbered-ignored, numbered_dropped, numbered-left, in_line_ignored}
use Rattle.link_targets.proofs.settle_line.Goals as goal

pub returns-then-is_ignored : goal.returns-then-is_ignored
returns-then-is_ignored c = settle_none _ _ _ (numbered-ignored _ _ (in_line_ignored _ _ _ c.is_ignored.ensures _ c.if-is_ignored.true))

pub returns-in_default : goal.returns-in_default
returns-in_default c = settle_none _ _ _ (numbered_dropped _ _ c.in_default.ensures)

pub returns : goal.returns
returns c =
    settle_first _ _ _ _ c.settle_names.ensures _
    (numbered-left _ _ (in_line_ignored _ _ _ c.is_ignored.ensures _ c.if-is_ignored.false) c.in-Some.ensures.0)
