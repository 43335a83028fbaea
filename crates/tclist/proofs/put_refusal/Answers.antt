-- `tclist::put_refusal` meets its contract.
use mathlib.Core.List.{[], ◌∷◌}
use native.Mathlib.Omega.{arith}
use lib.ListN.{length-append}
use Rattle.spec.specs.Digits.{written}
use Rattle.tclist.specs.Output.{answer_text}
use Rattle.tclist.proofs.Texts.{byte-short, stored-rest}
use Rattle.tclist.proofs.put_refusal.Goals as goal

pub overflow_add-result : goal.overflow_add-result
overflow_add-result c =
    omega (arith, c.put_decimal-end.ensures.0, byte-short c.number.result (omega arith))

pub returns : goal.returns
unfolding answer_text
returns c =
    let p = c.put_decimal-end in
    let n = c.number in
    let out = c.args.out.now in
    let short = byte-short n.result (omega arith) in
    let size = length-append (written 10 1 n.result) (10 ∷ []) in
    let stored = stored-rest out _ _ 0 p.result 10 (written 10 1 n.result) [] p.ensures.1 p.ensures.0 c.put_byte.ensures in
    rw (← n.ensures) (record { put_text = (omega arith, stored); upper_bound = omega arith })
