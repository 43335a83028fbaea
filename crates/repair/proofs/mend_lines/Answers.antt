-- `repair::mend_lines` meets its contract: what is stored, with what the lines from `at` on give, is all (`Going`, `Gone`).
use native.Mathlib.Omega.{arith}
use Rattle.repair.proofs.Mending.{storing_small, going_first, line-passed, next_going, last_gone}
use Rattle.repair.proofs.mend_lines.Goals as goal

pub loop-next-init : goal.loop-next-init
loop-next-init c = going_first _ _ _ _ _ c.requires

pub line_reason-line-requires : goal.line_reason-line-requires
line_reason-line-requires c = c.requires.beside

pub overflow_mul-count : goal.overflow_mul-count
overflow_mul-count c = omega (arith, (storing_small _ _ _ _ _ _ _ _ c.requires.small c.loop-next.invariant.storing).1)

pub mend_line-amounts-requires : goal.mend_line-amounts-requires
mend_line-amounts-requires c =
    let s = storing_small _ _ _ _ _ _ _ _ c.requires.small c.loop-next.invariant.storing in
    (c.requires.small, c.loop-next.invariant.inside, omega (arith, s.0), omega (arith, s.1))

pub overflow_add-bytes : goal.overflow_add-bytes
overflow_add-bytes c =
    let gone = line-passed _ _ _ _ _ _ _ c.requires _ _ _ _ _ c.loop-next.invariant c.line_reason-line.result c.line_reason-line.ensures _ _
    c.mend_line-amounts.result c.mend_line-amounts.ensures in
    omega (arith, (storing_small _ _ _ _ _ _ _ _ c.requires.small gone.storing).0)

pub overflow_add-count : goal.overflow_add-count
overflow_add-count c =
    let gone = line-passed _ _ _ _ _ _ _ c.requires _ _ _ _ _ c.loop-next.invariant c.line_reason-line.result c.line_reason-line.ensures _ _
    c.mend_line-amounts.result c.mend_line-amounts.ensures in
    omega (arith, (storing_small _ _ _ _ _ _ _ _ c.requires.small gone.storing).1)

pub overflow_add-number : goal.overflow_add-number
overflow_add-number c =
    omega (arith, c.loop-next.invariant.numbered, c.loop-next.invariant.inside, c.requires.small)

pub loop-next-smaller : goal.loop-next-smaller
loop-next-smaller c =
    let p = c.in-Some.ensures in
    omega (arith, p.1, p.2)

pub loop-next-preserved : goal.loop-next-preserved
loop-next-preserved c =
    let p = c.in-Some.ensures in
    let gone = line-passed _ _ _ _ _ _ _ c.requires _ _ _ _ _ c.loop-next.invariant c.line_reason-line.result c.line_reason-line.ensures _ _
    c.mend_line-amounts.result c.mend_line-amounts.ensures in
    next_going _ _ _ _ _ _ _ c.requires _ _ _ _ _ gone _ p.0 p.1 p.2

pub returns-in-None : goal.returns-in-None
returns-in-None c =
    let p = c.in-None.ensures in
    let gone = line-passed _ _ _ _ _ _ _ c.requires _ _ _ _ _ c.loop-next.invariant c.line_reason-line.result c.line_reason-line.ensures _ _
    c.mend_line-amounts.result c.mend_line-amounts.ensures in
    last_gone _ _ _ _ _ _ _ c.requires _ _ _ _ _ gone p
