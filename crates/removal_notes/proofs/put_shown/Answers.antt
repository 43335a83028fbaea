-- `removal_notes::put_shown` meets its contract.
use mathlib.Core.Path.{refl, sym, ◌∙◌}
use native.Mathlib.Omega.{arith}
use Rattle.removal_notes.proofs.Storing.{shown-plain, shown-other}
use Rattle.removal_notes.proofs.put_shown.Goals as goal

pub returns-then-is_plain : goal.returns-then-is_plain
returns-then-is_plain c =
    let e = shown-plain c.args.b (sym c.is_plain.ensures ∙ c.if-is_plain.true) in
    rw e (record { place = refl; stored = c.put_byte.ensures }, omega arith)

pub returns : goal.returns
returns c =
    let e = shown-other c.args.b (sym c.is_plain.ensures ∙ c.if-is_plain.false) in
    rw e (record { place = refl; stored = c.put_bytes.ensures }, omega arith)
