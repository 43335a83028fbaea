-- `questions::string` meets its contract, by what the question comes to.
use mathlib.Core.Path.{ap}
use native.Mathlib.Omega.{arith}
use Rattle.spec.specs.Files.{files}
use Rattle.spec.specs.Answers.{answer_report}
use Rattle.spec.specs.Questions.{string_outcome}
use Rattle.questions.proofs.ReadFields.{read_small, read_nothing}
use Rattle.questions.proofs.Terminals.{string-refused, string-absent, string-present}
use Rattle.questions.proofs.WrittenStrings.{none_written, string-written}
use Rattle.std.proofs.lemmas.Result.{err_from_is_err_and}
use Rattle.questions.proofs.string.Goals as goal

pub write_at-requires : goal.write_at-requires
write_at-requires c =
    let q = c.in_ok-p.ensures in
    let h = rw c.in-Some.is at q.3 in
    let a = c.args in
    let l = c.in-Some.p in
    let p = rw c.in-String.is at h.2 in
    let n = rw c.in-String.is at (read_small (files a.db.now a.ends.now) l _ c.in-Some.read h.2) in
    (omega arith, h.3, (p.0, p.2, p.3))

pub returns-in_err-p : goal.returns-in_err-p
unfolding string_outcome
returns-in_err-p c =
    let r = err_from_is_err_and c.from_residual.result c.from_residual.ensures.1 in
    let a = c.args in
    let e = string-refused a.id.now _ a.out.now _ c.in_err-p.ensures in
    rw (r.1, r.2) (rw e, rw e, rw e)

pub returns-in_default : goal.returns-in_default
unfolding string_outcome
returns-in_default c =
    let q = c.in_ok-p.ensures in
    let n = rw c.in_default.is at q.3 in
    let a = c.args in
    let e = string-absent a.id.now _ a.out.now _ _ q.2 n in
    (rw e, rw e, rw e)

pub returns-in-String : goal.returns-in-String
unfolding string_outcome
returns-in-String c =
    let q = c.in_ok-p.ensures in
    let h = rw c.in-Some.is at q.3 in
    let a = c.args in
    let p = rw c.in-String.is at h.2 in
    let e = string-present a.id.now _ a.out.now _ _ q.2 _ h.1 in
    let w = string-written _ _ _ _ _ _ _ _ _ p c.write_at.ensures in
    rw e (w.0, w.1, ap answer_report w.0)

pub returns-in_default-read : goal.returns-in_default-read
unfolding string_outcome
returns-in_default-read c =
    let q = c.in_ok-p.ensures in
    let h = rw c.in-Some.is at q.3 in
    let a = c.args in
    let e = string-present a.id.now _ a.out.now _ _ q.2 _ h.1 in
    let w = none_written _ _ (read_nothing _ _ c.in-Some.read h.2 c.in_default-read.not-String) in
    rw e (w.0, w.1, ap answer_report w.0)
