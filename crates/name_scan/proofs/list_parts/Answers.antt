-- `name_scan::list_parts` meets its contract: the parts of the blocks before one that is listed next are listed, or settled.
use Rattle.std.proofs.Common.{◌≡◌, ◌+◌, ◌*◌, get_or, arith}
use Rattle.name_scan.proofs.Blocks.{reached_more, rising-from, parts_to}
use Rattle.name_scan.proofs.list_parts.Goals as goal

pub list_three-count-requires-clause-blocks_listed : goal.list_three-count-requires-clause-blocks_listed
list_three-count-requires-clause-blocks_listed c =
    let x = c.requires.blocks_listed in
    let l = c.loop-block in
    let e = l.invariant in
    let w = x.below l.block-index (omega arith) in
    let ahead = e.2.ahead l.block-index (omega arith) (omega arith) in
    parts_to c.args.at x _ ahead (omega arith) e.2 (λ d h g. rising-from c.args.at x l.block-index d h g) e.3

pub loop-block-preserved : goal.loop-block-preserved
loop-block-preserved c =
    let x = c.requires.blocks_listed in
    let l = c.loop-block in
    let e = l.invariant in
    let w = x.below l.block-index (omega arith) in
    let block = get_or c.args.blocks.now l.block-index 0 in
    let three : block * 3 + 3 ≡ (block + 1) * 3 = omega arith in
    (block + 1, omega arith, reached_more c.args.at x e.2 (omega arith), rw three at c.list_three-count.ensures)

pub returns : goal.returns
returns c =
    let e = c.loop-block.invariant in
    parts_to c.args.at c.requires.blocks_listed c.args.n e.1 (omega arith) e.2 (λ d h g. absurd (omega arith)) e.3
