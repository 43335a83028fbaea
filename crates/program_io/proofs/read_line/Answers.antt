use Prim.Native.Nat.{◌≤◌}
use mathlib.Core.Path.{refl, sym, ◌∙◌}
use native.Mathlib.Omega.{arith}
use borrow.Author.Rules.{rules}
use lib.ListN.{length, take}
use lib.Seq.{length-take-le}
use Rattle.spec.specs.Lists.{upto}
use Rattle.program_io.proofs.Texts.{upto_found, upto_all}
use Rattle.program_io.proofs.read_line.Goals as goal

pub loop-used-init : goal.loop-used-init
unfolding upto
loop-used-init g c = (omega arith, refl, refl)

pub returns-in-Some : goal.returns-in-Some
returns-in-Some g c =
    let n = c.in_ok-n.n in
    let most : n ≤ length c.read_more.new.buffer = c.in_ok-n.ensures.1 in
    let found = upto_found 10 (take n c.read_more.new.buffer) c.in-Some.ensures in
    let within : c.in-Some.end ≤ length c.read_more.new.buffer = omega (arith, found.1, length-take-le n c.read_more.new.buffer most) in
    ((within, sym (length-take-le _ _ within)), (n, most, found.0))

pub returns-then-n-used : goal.returns-then-n-used
returns-then-n-used g c =
    let n = c.in_ok-n.n in
    let most : n ≤ length c.read_more.new.buffer = c.in_ok-n.ensures.1 in
    let size = length-take-le n c.read_more.new.buffer most in
    ((most, sym size), (n, most, sym size ∙ upto_all 10 (take n c.read_more.new.buffer) c.in_default.ensures))

pub loop-used-preserved : goal.loop-used-preserved
loop-used-preserved g c =
    let n = c.in_ok-n.n in
    let most : n ≤ length c.read_more.new.buffer = c.in_ok-n.ensures.1 in
    (most, search rules, sym (length-take-le _ _ most) ∙ upto_all 10 (take n c.read_more.new.buffer) c.in_default.ensures)
