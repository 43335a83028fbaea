-- `sending::send_copied` meets its contract: the tail that was lent to the pad writer comes back after the copied bytes.
use mathlib.Core.Path.{refl, ◌∙◌}
use native.Mathlib.Omega.{arith}
use Rattle.sending.proofs.LentTail.{set_front, after-pads}
use Rattle.sending.proofs.Delivery.{too_long, fits}
use Rattle.sending.proofs.send_copied.Goals as goal

pub returns-then-n-out : goal.returns-then-n-out
returns-then-n-out c =
    let a = c.args in
    too_long a.bytes.now a.out.now _ a.pads a.pad refl (omega arith)

pub returns-then-pads-out : goal.returns-then-pads-out
returns-then-pads-out c =
    let a = c.args in
    too_long a.bytes.now a.out.now _ a.pads a.pad refl (omega arith)

pub returns : goal.returns
returns c =
    let a = c.args in
    let f = c.copy_front in
    let p = c.write_pads in
    fits a.bytes.now a.out.now _ a.pads a.pad refl (omega arith) _
    (after-pads a.bytes.now a.out.now f.new.out p.new.room _ a.pads a.pad refl (omega arith)
    (f.ensures ∙ set_front a.bytes.now a.out.now _ refl (omega arith)) p.ensures)
