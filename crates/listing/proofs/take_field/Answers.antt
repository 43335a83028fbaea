-- `listing::take_field` meets its contract, by what the field is read as.
use mathlib.Core.Path.{refl}
use Rattle.spec.specs.Fields.{flag, number, string}
use Rattle.spec.specs.Lookup.{can_win}
use Rattle.field_bounds.specs.Answers.{field_at}
use Rattle.listing.proofs.Taking.{took_other, took_cancel, took_capability}
use Rattle.listing.proofs.take_field.Goals as goal

pub returns-in-Cancel : goal.returns-in-Cancel
returns-in-Cancel c s at q =
    let p = rw c.in-Cancel.is at q in
    took_cancel (field_at s at) c.args.seen.now _ _ _ p c.meet.ensures.1

pub returns-in-Flag : goal.returns-in-Flag
unfolding can_win
returns-in-Flag c s at q =
    let p = rw c.in-Flag.is at q in
    let e = c.take_capability.ensures in
    took_capability (field_at s at) c.args.seen.now _ _ flag _ _ p refl e.0 e.1

pub returns-in-Number : goal.returns-in-Number
unfolding can_win
returns-in-Number c s at q =
    let p = rw c.in-Number.is at q in
    let e = c.take_capability-in-Number.ensures in
    took_capability (field_at s at) c.args.seen.now _ _ (number _) _ _ p refl e.0 e.1

pub returns-in-String : goal.returns-in-String
unfolding can_win
returns-in-String c s at q =
    let p = rw c.in-String.is at q in
    let e = c.take_capability-in-String.ensures in
    let won = c.take_capability-in-String.result in
    took_capability (field_at s at) c.args.seen.now _ _ (string p.0) _ won p.1 refl e.0
    (rw p.3 e.1)

pub returns-in_default : goal.returns-in_default
returns-in_default c s at q =
    let d = c.in_default in
    took_other s at c.args.read c.args.seen.now q d.not-Cancel d.not-Flag d.not-Number d.not-String
