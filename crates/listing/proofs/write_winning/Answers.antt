-- `listing::write_winning` meets its contract: the fields of the lines before the i-th are passed, and those from there on are left.
use mathlib.Core.Path.{◌≡◌, refl, ◌∙◌}
use mathlib.Core.List.{[], ◌++◌, append-nil}
use native.Mathlib.Omega.{arith}
use borrow.Author.Rules.{rules}
use lib.ListN.{length, take, replicate}
use Rattle.spec.specs.Files.{files, contents}
use Rattle.spec.specs.Chain.{joined_fields}
use Rattle.chain.proofs.WalkPlaces.{length_mapped}
use Rattle.chain.proofs.JoinedFields.{from_first, from_end}
use Rattle.listing.proofs.Passing.{pass_none, pass_then, chain_more, part_small, pass_winning, pass_marks}
use Rattle.listing.proofs.write_winning.Goals as goal

pub loop-i-init : goal.loop-i-init
loop-i-init c =
    let a = c.args in
    record {
      done = [];
      all = from_first _ _ _;
      passed = pass_none a.form (replicate 8836 0) a.out.now a.to;
      bound = omega arith;
      buffer = refl;
    }

pub write_line-end-requires : goal.write_line-end-requires
write_line-end-requires c =
    let g = c.loop-i.invariant in
    let a = c.args in
    let small = part_small (files a.db.now a.ends.now) _ _ c.file.ensures in
    (omega (arith, small, c.requires.0), pass_marks a.form g.done a.out.now a.to _ _ _ g.passed, omega (arith, c.requires.2))

pub loop-i-preserved : goal.loop-i-preserved
loop-i-preserved c =
    let a = c.args in
    let l = c.loop-i in
    let g = l.invariant in
    let w = c.write_line-end in
    let array : length a.c.lines ≡ 32 = search (rules, length_mapped) in
    record {
      done = g.done ++ _;
      all = chain_more _ a.c.lines a.c.count l.i _ _ _ g.done (omega arith) (omega (arith, array)) c.file.ensures g.all;
      passed = pass_then a.form g.done _ (replicate 8836 0) a.out.now a.to _ _ _ _ _ _ g.passed w.ensures.0;
      bound = omega (arith, w.ensures.1);
      buffer = c.out-1.given ∙ g.buffer;
    }

pub returns : goal.returns
returns c =
    let g = c.loop-i.invariant in
    let a = c.args in
    let fs = contents (files a.db.now a.ends.now) in
    let none = from_end fs a.c.lines a.c.count c.loop-i.i (omega arith) in
    let e : joined_fields fs 0 (take a.c.count a.c.lines) ≡ g.done = g.all ∙ rw none (append-nil g.done) in
    rw e (pass_winning a.form g.done a.out.now a.to _ _ _ g.passed)
