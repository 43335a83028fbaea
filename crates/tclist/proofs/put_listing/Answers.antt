-- `tclist::put_listing` meets its contract, by the answer of List.
use Prim.Native.Nat.{◌≤◌}
use mathlib.Core.Path.{sym, ◌∙◌}
use native.Mathlib.Omega.{arith}
use lib.ListN.{length, length-take}
use lib.Seq.{length-take-le}
use Rattle.tclist.specs.Output.{answer_text}
use Rattle.tclist.proofs.Texts.{list-fits}
use Rattle.tclist.proofs.put_listing.Goals as goal

pub overflow_mul-n : goal.overflow_mul-n
overflow_mul-n c =
    omega (arith, list-fits _ _ _ _ (sym c.list_alone.ensures.0 ∙ c.in-Ok.is))

pub slice_bounds-put_records-end : goal.slice_bounds-put_records-end
slice_bounds-put_records-end c =
    let l = c.list_alone in
    omega (arith, list-fits _ _ _ _ (sym l.ensures.0 ∙ c.in-Ok.is), l.auto.records)

pub slice_bounds-put_records-end-in-Ok : goal.slice_bounds-put_records-end-in-Ok
slice_bounds-put_records-end-in-Ok c =
    let fits = list-fits _ _ _ _ (sym c.list_alone.ensures.0 ∙ c.in-Ok.is) in
    sym (length-take-le _ _ (omega (arith, c.list_alone.auto.records)))

pub returns-in-Ok : goal.returns-in-Ok
unfolding answer_text
returns-in-Ok c =
    let p = c.put_records.ensures in
    let l = c.list_alone in
    let fits = list-fits _ _ _ _ (sym l.ensures.0 ∙ c.in-Ok.is) in
    let bound = simp length-take at p.upper_bound in
    let inside : c.put_records.result ≤ length c.put_records.new.out =
    omega (arith, c.put_records.auto.out) in
    rw (← l.ensures.0, ← l.ensures.1, c.in-Ok.is) (record { put_text = p.put_text; prefix_len = (inside, sym (length-take-le _ _ inside)) })

pub returns-in-Err : goal.returns-in-Err
unfolding answer_text
returns-in-Err c =
    let p = c.put_refusal.ensures in
    let l = c.list_alone in
    let inside : c.put_refusal.result ≤ length c.put_refusal.new.out =
    omega (arith, p.upper_bound, c.put_refusal.auto.out) in
    rw (← l.ensures.0, ← l.ensures.1, c.in-Err.is) (record { put_text = p.put_text; prefix_len = (inside, sym (length-take-le _ _ inside)) })
