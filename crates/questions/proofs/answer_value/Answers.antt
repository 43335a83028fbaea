-- `questions::answer_value` meets its contract, by what the question comes to.
use mathlib.Core.Path.{sym}
use native.Mathlib.Omega.{arith}
use Rattle.std.proofs.lemmas.Result.{err_from_is_err_and}
use Rattle.spec.specs.Files.{files}
use Rattle.questions.proofs.ReadFields.{read_value_lem, read_small}
use Rattle.questions.proofs.Terminals.{answer-refused, answer-absent, answer-present}
use Rattle.questions.proofs.answer_value.Goals as goal

pub returns-in_err-read : goal.returns-in_err-read
returns-in_err-read c =
    let r = err_from_is_err_and c.from_residual.result c.from_residual.ensures.1 in
    rw (r.1, r.2) (sym (answer-refused _ _ _ _ c.in_err-read.ensures))

pub returns-in_default : goal.returns-in_default
returns-in_default c =
    let q = c.in_ok-read.ensures in
    let n = rw c.in_default.is at q.3 in
    sym (answer-absent _ _ _ _ _ q.2 n)

pub value_of-requires : goal.value_of-requires
value_of-requires c =
    let q = c.in_ok-read.ensures in
    let h = rw c.in-Some.is at q.3 in
    let a = c.args in
    let n = read_small (files a.db.now a.ends.now) c.in-Some.field-0-0 _ c.in-Some.read h.2 in
    omega arith

pub returns : goal.returns
returns c =
    let q = c.in_ok-read.ensures in
    let h = rw c.in-Some.is at q.3 in
    let v = read_value_lem _ _ c.in-Some.read h.2 in
    rw (c.value_of.ensures, ← v) (sym (answer-present _ _ _ _ _ q.2 _ h.1))
