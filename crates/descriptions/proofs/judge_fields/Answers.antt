-- `descriptions::judge_fields` meets its contract: up to a place no field is malformed or a link, so the rest decides.
use native.Mathlib.Omega.{arith}
use mathlib.Core.Path.{refl}
use Rattle.descriptions.proofs.Judging.{judging_on, judging_malformed, judging_link, judging_done, sized_room, judge_on}
use Rattle.descriptions.proofs.judge_fields.Goals as goal

pub loop-read-init : goal.loop-read-init
loop-read-init c = record { sized = omega arith; verdict = refl }

pub returns-in_default : goal.returns-in_default
returns-in_default c =
    let p = c.in_default.ensures in
    judging_done _ _ _ c.loop-read.invariant p

pub overflow_add-size : goal.overflow_add-size
overflow_add-size c =
    let p = c.in-Some.ensures in
    omega (arith, sized_room _ _ _ _ c.loop-read.invariant.sized _ _ p.0 p.2)

pub overflow_add-size-in-loop-read : goal.overflow_add-size-in-loop-read
overflow_add-size-in-loop-read c =
    let p = c.in-Some.ensures in
    omega (arith, sized_room _ _ _ _ c.loop-read.invariant.sized _ _ p.0 p.2)

pub returns-in-Malformed : goal.returns-in-Malformed
returns-in-Malformed c =
    let p = c.in-Some.ensures in
    let q = rw c.in-Malformed.is at p.1 in
    judging_malformed _ _ _ c.loop-read.invariant 0 _ p.0 q

pub judge_after_link-requires : goal.judge_after_link-requires
judge_after_link-requires c =
    let p = c.in-Some.ensures in
    omega (arith, sized_room _ _ _ _ c.loop-read.invariant.sized _ _ p.0 p.2)

pub returns-in-Link : goal.returns-in-Link
returns-in-Link c =
    let told = c.next_field.ensures in
    let p = rw c.in-Some.is at told in
    let q = rw c.in-Link.is at p.1 in
    let inv = c.loop-read.invariant in
    rw c.judge_after_link.ensures (judging_link _ _ _ inv _ _ p.0 _ p.2 q)

pub loop-read-smaller : goal.loop-read-smaller
loop-read-smaller c =
    let p = c.in-Some.ensures in
    omega arith

pub loop-read-preserved : goal.loop-read-preserved
loop-read-preserved c =
    let p = c.in-Some.ensures in
    let inv = c.loop-read.invariant in
    judging_on _ _ _ inv _ _ p.0 p.2 (judge_on _ _ _ c.in-Some.field-0.read p.1 c.in_default-read.not-Malformed (λ name e. c.in_default-read.not-Link name e))
