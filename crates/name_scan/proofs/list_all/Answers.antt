-- `name_scan::list_all` meets its contract: the numbers passed are listed.
use Rattle.std.proofs.Common.{◌≡◌, true, true≢false, arith}
use Rattle.name_scan.proofs.Blocks.{listed-note}
use Rattle.name_scan.proofs.list_all.Goals as goal

pub loop-k-preserved : goal.loop-k-preserved
loop-k-preserved c = listed-note c.loop-k.invariant (omega arith) true (λ e. absurd (true≢false e))

pub returns : goal.returns
returns c = let full : c.loop-k.k ≡ c.args.n = omega arith in rw full at c.loop-k.invariant
