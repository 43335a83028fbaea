use Prim.Native.Nat.{◌+◌}
use mathlib.Core.Path.{◌∙◌}
use native.Mathlib.Omega.{arith}
use lib.ListN.{drop, get_or, length-append}
use Rattle.spec.specs.Digits.{written}
use Rattle.tclist.specs.Output.{separator_of, decimals}
use Rattle.tclist.proofs.Texts.{byte-short, stored-rest, decimals-end, decimals-next}
use Rattle.tclist.proofs.put_records.Goals as goal

pub overflow_add-n : goal.overflow_add-n
overflow_add-n c =
    let byte = c.type_inv.records c.loop-k.k in
    let short = byte-short (get_or c.args.records.now c.loop-k.k 0) (omega arith) in
    omega (arith, c.put_decimal-end.ensures.0)

pub loop-k-preserved : goal.loop-k-preserved
loop-k-preserved c =
    let l = c.loop-k in
    let records = c.args.records.now in
    let p = c.put_decimal-end in
    let i = rw (decimals-next records l.k (omega arith)) at l.invariant in
    let b = get_or records l.k 0 in
    let byte = c.type_inv.records l.k in
    let short = byte-short b (omega arith) in
    let rest = decimals (l.k + 1) (drop (l.k + 1) records) in
    let size = simp length-append at i.counted in
    let last = rw c.separator.ensures at c.put_byte.ensures in
    record {
      stored = stored-rest l.out _ _ l.n p.result (separator_of l.k) (written 10 1 b) rest p.ensures.1 p.ensures.0 last ∙ i.stored;
      counted = omega (arith, p.ensures.0);
      bounded = omega (arith, p.ensures.0);
    }

pub returns : goal.returns
returns c =
    let i = rw (decimals-end _ _ c.loop-k-test.false) at c.loop-k.invariant in
    record { put_text = (omega arith, i.stored); upper_bound = omega arith }
