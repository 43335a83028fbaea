-- `stores::put_bytes` meets its contract: the first i bytes are stored.
use mathlib.Core.Path.{◌∙◌, sym}
use Rattle.laws.proofs.Stores.{stored_next}
use Rattle.stores.proofs.put_bytes.Goals as goal

pub loop-i-preserved : goal.loop-i-preserved
loop-i-preserved c =
    c.put_after.ensures ∙ rw c.loop-i.invariant
    (sym (stored_next c.args.out.now c.args.at c.args.bytes.now c.loop-i.i c.loop-i-test.true))
