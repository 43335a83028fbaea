-- `name_scan::list_parts` meets its contract: the parts of the blocks before one that is listed next are listed, or settled.
use Rattle.std.proofs.Common.{ℕ, ◌*◌, ◌≤◌, length}
use Rattle.name_scan.proofs.Blocks.{Reached}
use Rattle.name_scan.specs.Blocks.{BlocksListed}
use Rattle.name_scan.proofs.list_parts.Given as goal

abbrev pub invariant-loop-block : goal.invariant-loop-block
invariant-loop-block l =
    (e : ℕ) × (e ≤ l.n) × Reached l.blocks l.block-index (length l.blocks) e × BlocksListed 16 l.s l.asked.name.now l.at l.list l.count (e * 3)
