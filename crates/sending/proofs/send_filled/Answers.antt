-- `sending::send_filled` meets its contract: what was filled in beside the buffer is the body, and is sent as Send sends its bytes; what was
-- measured there to fit is what the second pass writes.
use native.Mathlib.Omega.{arith}
use Prim.Native.Nat.{ℕ, ◌≤◌}
use lib.ListN.{length, drop, replicate, length-replicate}
use mathlib.Core.Path.{refl, sym, ap}
use mathlib.Core.List.{List, ◌++◌}
use Rattle.laws.proofs.Stores.{stored_taken}
use Rattle.sending.proofs.LentTail.{after-pads}
use Rattle.sending.proofs.Delivery.{stopped, too_long, fits}
use Rattle.sending.proofs.TwoPasses.{sends-fault, sends-body, written}
use Rattle.sending.proofs.send_filled.Goals as goal

pub returns-in-Err : goal.returns-in-Err
returns-in-Err c =
    let a = c.args in
    let f = rw c.both_unused-first.ensures at c.in-Err.ensures in
    stopped _ _ a.out.now (sends-fault _ a.pads a.pad _ f)

pub returns-in-Ok-None : goal.returns-in-Ok-None
returns-in-Ok-None c =
    let a = c.args in
    let f = rw (c.both_unused-first.ensures, c.in-Ok-None.is, c.in-Ok-None.field-0-is) at c.fill_in.ensures in
    rw (sends-body _ a.pads a.pad f.0 f.1) (too_long f.0 a.out.now _ a.pads a.pad refl (omega (arith, f.2)))

pub returns-then-n-le-SMALL : goal.returns-then-n-le-SMALL
returns-then-n-le-SMALL c =
    let a = c.args in
    let f = rw (c.both_unused-first.ensures, c.in-Ok-Some.is, c.in-Ok-Some.field-0-is) at c.fill_in.ensures in
    let short : length f.0 ≤ length (replicate {A = ℕ} 128 0) = rw (length-replicate {A = ℕ} 128 0) (omega (arith, f.2, c.if-n-le-SMALL.true)) in
    let copied = rw (f.4, stored_taken (replicate {A = ℕ} 128 0) f.0 short _ f.2) at c.copy_from_slice.ensures.after in
    let first = ap (λ (l : List ℕ). l ++ drop c.in-Ok-Some.n a.out.now) copied in
    rw (sends-body _ a.pads a.pad f.0 f.1)
    (fits f.0 a.out.now _ a.pads a.pad (sym f.2) (omega (arith, f.3, c.if-pads-capacity.false)) _
    (after-pads f.0 a.out.now _ c.write_pads.new.room _ a.pads a.pad (sym f.2) f.3 first c.write_pads.ensures))

pub returns-then-pads-capacity : goal.returns-then-pads-capacity
returns-then-pads-capacity c =
    let a = c.args in
    let f = rw (c.both_unused-first.ensures, c.in-Ok-Some.is, c.in-Ok-Some.field-0-is) at c.fill_in.ensures in
    rw (sends-body _ a.pads a.pad f.0 f.1) (too_long f.0 a.out.now _ a.pads a.pad (sym f.2) (omega (arith, f.3)))

pub returns-else-n-le-SMALL : goal.returns-else-n-le-SMALL
returns-else-n-le-SMALL c =
    let a = c.args in
    let f = rw (c.both_unused-first.ensures, c.in-Ok-Some.is, c.in-Ok-Some.field-0-is) at c.fill_in.ensures in
    let again = rw c.both_unused-first.ensures at c.fill_in-in-Ok-Some.ensures in
    let first = written _ f.0 _ a.out.now _ _ f.1 f.2 f.3 again in
    rw (sends-body _ a.pads a.pad f.0 f.1)
    (fits f.0 a.out.now _ a.pads a.pad (sym f.2) (omega (arith, f.3, c.if-pads-capacity.false)) _
    (after-pads f.0 a.out.now _ c.write_pads-in-Ok-Some.new.room _ a.pads a.pad (sym f.2) f.3 first c.write_pads-in-Ok-Some.ensures))
