-- `descriptions::ignored_size` meets its contract: the fields up to the place `i` are ignored and have that size.
use native.Mathlib.Omega.{arith}
use mathlib.Core.Path.{refl}
use Rattle.spec.specs.Fields.{is_ignored_field}
use Rattle.descriptions.proofs.Judging.{skipped_on, skipped_not, skipped_done, sized_room, not_ignored}
use Rattle.descriptions.proofs.ignored_size.Goals as goal

pub loop-read-init : goal.loop-read-init
loop-read-init c = record { sized = omega arith; all = refl }

pub returns-in_default : goal.returns-in_default
returns-in_default c =
    let p = c.in_default.ensures in
    skipped_done _ _ _ _ c.loop-read.invariant p

pub overflow_add-size : goal.overflow_add-size
overflow_add-size c =
    let p = c.in-Some.ensures in
    omega (arith, sized_room _ _ _ _ c.loop-read.invariant.sized _ _ p.0 p.2)

pub overflow_add-size-in-Ignored : goal.overflow_add-size-in-Ignored
overflow_add-size-in-Ignored c =
    let p = c.in-Some.ensures in
    omega (arith, sized_room _ _ _ _ c.loop-read.invariant.sized _ _ p.0 p.2)

pub loop-read-smaller : goal.loop-read-smaller
loop-read-smaller c =
    let p = c.in-Some.ensures in
    omega arith

pub loop-read-preserved : goal.loop-read-preserved
unfolding is_ignored_field
loop-read-preserved c =
    let p = c.in-Some.ensures in
    let q = rw c.in-Ignored.is at p.1 in
    skipped_on _ _ _ _ c.loop-read.invariant _ _ p.0 p.2 (rw q)

pub returns-in_default-read : goal.returns-in_default-read
returns-in_default-read c =
    let p = c.in-Some.ensures in
    let other = not_ignored _ _ c.in-Some.field-0.read p.1 c.in_default-read.not-Ignored in
    skipped_not _ _ _ _ c.loop-read.invariant 0 _ p.0 other
