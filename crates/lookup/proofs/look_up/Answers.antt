-- `lookup::look_up` meets its contract: what is looked up in the chain is what is looked up from the index on.
use mathlib.Core.Path.{◌≡◌, ◌∙◌, ap}
use lib.ListN.{length}
use native.Mathlib.Omega.{arith}
use borrow.Author.Rules.{rules}
use Rattle.spec.specs.Fields.{reading}
use Rattle.spec.specs.Lookup.{lookup}
use Rattle.laws.proofs.FileLines.{line_of_part}
use Rattle.field_bounds.proofs.Parts.{part_fields}
use Rattle.field_bounds.proofs.Pieces.{no_fields}
use Rattle.chain.proofs.WalkPlaces.{length_mapped}
use Rattle.chain.proofs.JoinedFields.{from_taken, taken_length}
use Rattle.lookup.proofs.ReadParts.{part_read}
use Rattle.lookup.proofs.Scanning.{look_end, look_unnamed, look_on, look_cancelled, look_answered}
use Rattle.lookup.proofs.look_up.Goals as goal

pub loop-p-init : goal.loop-p-init
loop-p-init c =
    let array : length c.args.c.lines ≡ 32 = search (rules, length_mapped) in
    let n = c.min-n.ensures in
    (taken_length _ _ _ array n, ap (lookup _ _) (from_taken _ _ _ array n _))

pub loop-p-preserved-in_default : goal.loop-p-preserved-in_default
loop-p-preserved-in_default c =
    let p = c.in_default.ensures in
    let i = c.loop-p.invariant in
    let l = line_of_part _ _ _ c.file-part.ensures in
    (i.0, i.1 ∙ look_unnamed _ _ _ _ _ _ (omega arith) (omega arith) _ _ l (no_fields _ p))

pub slice_bounds-scan_fields-count : goal.slice_bounds-scan_fields-count
slice_bounds-scan_fields-count c =
    let p = c.in-Some.ensures in
    omega arith

pub slice_bounds-scan_fields-start : goal.slice_bounds-scan_fields-start
slice_bounds-scan_fields-start c =
    let p = c.in-Some.ensures in
    omega arith

pub loop-p-preserved : goal.loop-p-preserved
loop-p-preserved c =
    let p = c.in-Some.ensures in
    let q = c.in-Open.ensures in
    let i = c.loop-p.invariant in
    let l = line_of_part _ _ _ c.file-part.ensures in
    (i.0, i.1 ∙ look_on _ _ _ _ _ _ (omega arith) (omega arith) _ _ l (rw (← part_fields _ _ _ _ p) q))

pub returns-in-Cancelled : goal.returns-in-Cancelled
returns-in-Cancelled c =
    let p = c.in-Some.ensures in
    let q = c.in-Cancelled.ensures in
    let i = c.loop-p.invariant in
    let l = line_of_part _ _ _ c.file-part.ensures in
    i.1 ∙ look_cancelled _ _ _ _ _ _ (omega arith) (omega arith) _ _ l (rw (← part_fields _ _ _ _ p) q)

pub returns-in-Answered : goal.returns-in-Answered
returns-in-Answered c =
    let p = c.in-Some.ensures in
    let q = c.in-Answered.ensures in
    let i = c.loop-p.invariant in
    let f = c.file-part.ensures in
    let l = line_of_part _ _ _ f in
    let e = i.1 ∙ look_answered _ _ _ _ _ _ (omega arith) (omega arith) _ _ l q.0 (rw (← part_fields _ _ _ _ p) q.1) in
    let part = c.file-part.result.now in
    let a = part_read part c.in-Some.field-0.fields (reading q.0) c.in-Answered.read q.2 in
    (q.0, e, rw (← f) a, rw (← f) (omega arith))

pub returns : goal.returns
returns c = c.loop-p.invariant.1 ∙ look_end _ _ _ _ _ _ (omega arith)
