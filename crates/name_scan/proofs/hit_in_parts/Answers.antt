-- `name_scan::hit_in_parts` meets its contract: the listed parts before the loop's are settled.
use Rattle.std.proofs.Common.{arith, below_more}
use Rattle.name_places.proofs.Places.{each_to, passed-join}
use Rattle.name_scan.proofs.Blocks.{settled_before, settled-all}
use Rattle.name_scan.proofs.hit_in_parts.Goals as goal

pub returns-then-found-i-lt-PART-clause-passed : goal.returns-then-found-i-lt-PART-clause-passed
returns-then-found-i-lt-PART-clause-passed c =
    let x = c.requires.blocks_listed in
    let l = c.loop-part in
    let w = x.below l.part-index (omega arith) in
    let p = c.hit_in_part-found.ensures.upper_bound (omega arith) (omega arith) in
    let settled = settled_before _ _ c.args.at _ _ _ x l.part-index (omega arith) l.invariant in
    passed-join (record { from = omega arith; inside = omega arith; settled = settled }) p.1

pub loop-part-preserved : goal.loop-part-preserved
loop-part-preserved c =
    let w = c.requires.blocks_listed.below c.loop-part.part-index (omega arith) in
    let p = (c.hit_in_part-found.ensures.upper_bound (omega arith) (omega arith)).1 in
    let q = p.from in
    below_more _ _ c.loop-part.invariant (each_to _ p.settled (omega arith))

pub returns-clause-passed : goal.returns-clause-passed
returns-clause-passed c =
    let settled = settled-all _ _ c.args.at _ _ _ c.requires.blocks_listed (λ d h. c.loop-part.invariant d (omega arith)) in
    record { from = omega arith; inside = omega arith; settled = each_to _ settled (omega arith) }
