-- `questions::ask` meets its contract, test by test.
use mathlib.Core.Path.{◌∙◌, sym}
use native.Mathlib.Omega.{arith}
use Rattle.identifiers.proofs.AskedNames.{id_length}
use Rattle.questions.proofs.Terminals.{asked-bad_id, asked-good, asked-bytes}
use Rattle.std.proofs.lemmas.Result.{err_from_is_err_and}
use Rattle.questions.proofs.ask.Goals as goal

pub returns-then-not-is_good_id : goal.returns-then-not-is_good_id
returns-then-not-is_good_id c =
    let e = asked-bad_id _ _ _ (sym c.is_good_id.ensures ∙ c.if-not-is_good_id.true) in
    rw c.id_refusal.ensures e

pub bounds-id-0 : goal.bounds-id-0
bounds-id-0 c =
    let i = sym c.is_good_id.ensures ∙ c.if-not-is_good_id.false in
    omega (arith, id_length _ i)

pub bounds-id-1 : goal.bounds-id-1
bounds-id-1 c =
    let i = sym c.is_good_id.ensures ∙ c.if-not-is_good_id.false in
    omega (arith, id_length _ i)

pub returns-in_err-chain : goal.returns-in_err-chain
returns-in_err-chain c =
    let r = err_from_is_err_and c.from_residual.result c.from_residual.ensures.1 in
    let i = sym c.is_good_id.ensures ∙ c.if-not-is_good_id.false in
    rw (r.1, r.2) (asked-good _ _ _ i ∙ c.in_err-chain.ensures)

pub returns : goal.returns
returns c =
    let w = c.in_ok-chain.ensures in
    let i = sym c.is_good_id.ensures ∙ c.if-not-is_good_id.false in
    let l = c.look_up in
    (_, _, asked-good _ _ _ i ∙ w.0, asked-bytes _ _ _ _ l.result i l.ensures, w.3)
