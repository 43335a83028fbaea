-- `listing::write_fields` meets its contract: the fields before `at` are passed, and those from there on are left.
use Prim.Native.Nat.{ℕ, ◌+◌, ◌≤◌}
use mathlib.Core.Path.{refl, ◌∙◌}
use mathlib.Core.List.{List, [], ◌++◌}
use native.Mathlib.Omega.{arith}
use lib.ListN.{length}
use Rattle.field_bounds.specs.Answers.{field_at}
use Rattle.field_bounds.proofs.LineBounds.{size_bound}
use Rattle.listing.specs.Answers.{SomeMarks, one_field, most_for_line}
use Rattle.listing.specs.declared.Origin.{Origin}
use Rattle.listing.specs.declared.Form.{Form}
use Rattle.listing.proofs.Passing.{pass_none, pass_then, pass_bound, line_done, line_more, line-size_bound}
use Rattle.listing.proofs.write_fields.Invariants.{fields, On}
use Rattle.listing.proofs.write_fields.Goals as goal

-- how far it got
module _ (s : List ℕ) (from : Origin) (form : Form) (seen₀ out₀ : List ℕ) (to : ℕ) (small : length s ≤ 1048576) (marks : SomeMarks seen₀) where
  so_far : (seen out : List ℕ) (end at : ℕ) → On s from form seen₀ out₀ to seen out end at → end ≤ to + most_for_line
  so_far seen out end at i =
      pass_bound form (fields from s 0) i.done (fields from s at) seen₀ out₀ to seen out end marks.0 marks.1 i.passed i.all
      (line-size_bound from s 0 (omega (arith, size_bound s 0)))

pub loop-read-init : goal.loop-read-init
loop-read-init c =
    let a = c.args in
    record { done = []; all = refl; passed = pass_none a.form a.seen.now a.out.now a.to; buffer = refl; within = omega arith }

pub returns-in_default : goal.returns-in_default
returns-in_default c =
    let a = c.args in
    let pre = c.requires in
    let i = c.loop-read.invariant in
    let q = c.in_default.ensures in
    let e = line_done a.from a.s.now _ _ _ i.all q in
    (rw e i.passed, so_far a.s.now a.from a.form a.seen.now a.out.now a.to pre.0 pre.1 _ _ _ _ i)

pub write_field-end-requires : goal.write_field-end-requires
write_field-end-requires c =
    let a = c.args in
    let pre = c.requires in
    let q = c.in-Some.ensures in
    let i = c.loop-read.invariant in
    let b = so_far a.s.now a.from a.form a.seen.now a.out.now a.to pre.0 pre.1 _ _ _ _ i in
    (pre.0, q.1, omega (arith, pre.2))

pub loop-read-smaller : goal.loop-read-smaller
loop-read-smaller c =
    let q = c.in-Some.ensures in
    omega arith

pub loop-read-preserved : goal.loop-read-preserved
loop-read-preserved c =
    let a = c.args in
    let l = c.loop-read in
    let i = l.invariant in
    let here = one_field a.from (field_at a.s.now l.at) in
    let q = c.in-Some.ensures in
    record {
      done = i.done ++ here;
      all = line_more a.from a.s.now l.at _ (fields a.from a.s.now 0) i.done _ i.all q.0;
      passed = pass_then a.form i.done here a.seen.now a.out.now a.to _ _ _ _ _ _ i.passed c.write_field-end.ensures;
      buffer = c.out-1.given ∙ i.buffer;
      within = q.4;
    }
