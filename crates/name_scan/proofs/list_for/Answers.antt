-- `name_scan::list_for` meets its contract: a block that is not listed has no start, or all are listed.
use Rattle.std.proofs.Common.{rules}
use Rattle.name_scan.proofs.Blocks.{listed_as, settled-starts}
use Rattle.name_scan.proofs.list_for.Goals as goal

pub returns-then-asked : goal.returns-then-asked
returns-then-asked c =
    settled-starts _ _ c.args.at (search rules) c.requires.name_nonzero c.list_blocks.ensures

pub returns-else-asked : goal.returns-else-asked
returns-else-asked c = listed_as c.list_all.ensures (λ j h w. absurd w)
