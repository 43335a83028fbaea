-- `chain::follow_links` meets its contract: the walk is what is still to be followed from the lines passed, with the size that is left.
use mathlib.Core.Path.{refl, ◌∙◌, ap, sym}
use native.Mathlib.Omega.{arith}
use lib.ListN.{length-set}
use Rattle.spec.specs.Fields.{line_size, verdict}
use Rattle.laws.proofs.WalkSteps
use Rattle.laws.proofs.FileLines.{line_of_part}
use Rattle.laws.proofs.Judging.{verdict-good, good-name-short}
use Rattle.chain.proofs.WalkPlaces
use Rattle.chain.proofs.follow_links.Goals as goal

pub loop-found-init : goal.loop-found-init
loop-found-init c =
    (omega arith, record { count = omega arith; size = omega arith; array = refl; walked = rw c.find_from-found.ensures (WalkSteps.walk_first _ _) })

pub returns-in_default : goal.returns-in_default
returns-in_default c =
    let w = rw c.in_default.is at
    c.loop-found.invariant.1.walked in
    w ∙ WalkSteps.follow-none _ _ _ _ _

pub returns-then-is_visited : goal.returns-then-is_visited
returns-then-is_visited c =
    let v = sym c.is_visited.ensures ∙ c.if-is_visited.true in
    let w = rw c.in-Some.is at
    c.loop-found.invariant.1.walked in
    w ∙ WalkSteps.follow-back _ _ _ _ _ _ v

pub returns-then-c-ge-MOST_DESCRIPTIONS : goal.returns-then-c-ge-MOST_DESCRIPTIONS
returns-then-c-ge-MOST_DESCRIPTIONS c =
    let v = sym c.is_visited.ensures ∙ c.if-is_visited.false in
    let w = rw c.in-Some.is at
    c.loop-found.invariant.1.walked in
    w ∙ WalkSteps.follow_full _ _ _ _ _ _ (omega arith) v

pub returns-in_default-judge_line : goal.returns-in_default-judge_line
returns-in_default-judge_line c =
    let v = sym c.is_visited.ensures ∙ c.if-is_visited.false in
    let q = c.in_default-judge_line.ensures in
    let l = line_of_part _ c.in-Some.p _ c.file-part.ensures in
    let w = rw c.in-Some.is at c.loop-found.invariant.1.walked in
    w ∙ WalkPlaces.turn_spoilt _ _ _ _ _ _ (omega arith) (omega arith) (omega arith) v (ap verdict l ∙ q)

pub returns-then-judged-left : goal.returns-then-judged-left
returns-then-judged-left c =
    let v = sym c.is_visited.ensures ∙ c.if-is_visited.false in
    let e = c.in-Some-judge_line.is in
    let q = rw e at c.judge_line.ensures in
    let l = line_of_part _ c.in-Some.p _ c.file-part.ensures in
    let bad = WalkPlaces.judged_not _ _ _ _ (ap verdict l) q.0 in
    let w = rw c.in-Some.is at c.loop-found.invariant.1.walked in
    w ∙ WalkPlaces.turn_big _ _ _ _ _ _ (omega arith) (omega arith) (omega arith) v _ bad (ap line_size l ∙ q.1) (omega arith)

pub returns-in_default-link : goal.returns-in_default-link
returns-in_default-link c =
    let v = sym c.is_visited.ensures ∙ c.if-is_visited.false in
    let e = c.in-Some-judge_line.is in
    let n = c.in_default-link.is in
    let q = rw (e, n) at c.judge_line.ensures in
    let l = line_of_part _ c.in-Some.p _ c.file-part.ensures in
    let p = c.with_line-c.ensures in
    let w = rw c.in-Some.is at c.loop-found.invariant.1.walked in
    let last = WalkPlaces.turn_last _ _ _ _ _ _ (omega arith) (omega arith) (omega arith) v _ (ap verdict l ∙ q.0) (ap line_size l ∙ q.1) (omega arith) in
    (rw (p.0, p.1) (w ∙ last), omega arith, omega arith)

pub find_linked-found-requires : goal.find_linked-found-requires
find_linked-found-requires c =
    let e = c.in-Some-judge_line.is in
    let n = c.in-Some-link.is in
    let q = rw (e, n) at c.judge_line.ensures in
    (omega arith, good-name-short _ (verdict-good _ _ q.0.0))

pub loop-found-preserved : goal.loop-found-preserved
loop-found-preserved c =
    let v = sym c.is_visited.ensures ∙ c.if-is_visited.false in
    let e = c.in-Some-judge_line.is in
    let n = c.in-Some-link.is in
    let q = rw (e, n) at c.judge_line.ensures in
    let l = line_of_part _ c.in-Some.p _ c.file-part.ensures in
    let p = c.with_line-c.ensures in
    let inv = c.loop-found.invariant.1 in
    let w = rw c.in-Some.is at inv.walked in
    let next = WalkPlaces.turn-next _ _ _ _ _ _ (omega arith) (omega arith) (omega arith) v _ _ (ap verdict l ∙ q.0.0) (ap line_size l ∙ q.1) (omega arith) in (
      omega arith,
      record {
        count = omega arith;
        size = omega arith;
        array = rw p.0 (simp length-set inv.array);
        walked = rw (p.0, p.1, c.find_linked-found.ensures) (w ∙ next);
      },
    )
