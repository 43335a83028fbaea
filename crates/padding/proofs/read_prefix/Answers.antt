-- `padding::read_prefix` meets its contract: each way out is one case of the prefix.
use native.Mathlib.Omega.{arith}
use mathlib.Core.Path.{◌≡◌}
use Prim.Native.Nat.{◌+◌, ◌<◌}
use lib.ListN.{get_or}
use Rattle.std.proofs.Common.{rules}
use Rattle.padding.proofs.PrefixCases.{prefix-none, prefix_many, prefix-plain, prefix_point, prefix_two, prefix_tenth}
use Rattle.padding.proofs.read_prefix.Goals as goal

pub returns-then-end-eq0 : goal.returns-then-end-eq0
returns-then-end-eq0 c = prefix-none _ _ _ c.read_digits-whole.ensures c.if-end-eq0.true

pub returns-then-end-gt4 : goal.returns-then-end-gt4
returns-then-end-gt4 c = prefix_many _ _ _ c.read_digits-whole.ensures (omega arith)

pub returns-in_default : goal.returns-in_default
returns-in_default c =
    let d = c.read_digits-whole in
    let other : get_or c.args.command.now d.result.end 0 ≡ 46 → ⊥ = search rules in
    prefix-plain _ _ _ d.ensures c.if-end-eq0.false (omega arith) other _ c.read_star.ensures

pub returns-in-1 : goal.returns-in-1
returns-in-1 c =
    let d = c.read_digits-whole in
    let e = c.read_digits-tenths in
    let point = c.in-Some-eq46.ensures.lookup.3 in
    let is : get_or c.args.command.now d.result.end 0 ≡ 46 = search rules in
    prefix_point _ _ _ d.ensures c.if-end-eq0.false (omega arith) _ _ point.0 is e.ensures (omega arith)

pub returns-in-2 : goal.returns-in-2
returns-in-2 c =
    let d = c.read_digits-whole in
    let e = c.read_digits-tenths in
    let point = c.in-Some-eq46.ensures.lookup.3 in
    let is : get_or c.args.command.now d.result.end 0 ≡ 46 = search rules in
    prefix_tenth _ _ _ d.ensures c.if-end-eq0.false (omega arith) _ _ point.0 is e.ensures (omega arith) _ c.read_star-in-2.ensures

pub returns-in_default-2 : goal.returns-in_default-2
returns-in_default-2 c =
    let d = c.read_digits-whole in
    let e = c.read_digits-tenths in
    let point = c.in-Some-eq46.ensures.lookup.3 in
    let is : get_or c.args.command.now d.result.end 0 ≡ 46 = search rules in
    let after = e.ensures.after in
    let many : d.result.end + 2 < e.result.end = search rules in
    prefix_two _ _ _ d.ensures c.if-end-eq0.false (omega arith) _ _ point.0 is e.ensures many
