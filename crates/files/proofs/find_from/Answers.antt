-- `files::find_from` meets its contract: the name is not in the files passed.
use Prim.Native.Nat.{ℕ}
use mathlib.Core.Path.{◌∙◌, ap, sym}
use mathlib.Core.List.{List}
use native.Mathlib.Omega.{arith}
use Rattle.spec.specs.Lines.{find_line}
use Rattle.spec.specs.Files.{files}
use Rattle.laws.proofs.FileParts.{length-contents}
use Rattle.files.proofs.Parts.{find-end, find_here, find_on}
use Rattle.files.proofs.find_from.Goals as goal

pub returns-in-Some : goal.returns-in-Some
returns-in-Some c =
    let n = length-contents (files c.args.db.now c.args.ends.now) in
    let e = ap (λ (f : List ℕ). find_line f c.args.name.now) (sym c.file.ensures) ∙ sym c.find_line.ensures ∙ c.in-Some.is in
    sym (c.loop-k.invariant ∙ find_here _ _ _ _ (omega (arith, n)) e)

pub loop-k-preserved : goal.loop-k-preserved
loop-k-preserved c =
    let n = length-contents (files c.args.db.now c.args.ends.now) in
    let e = ap (λ (f : List ℕ). find_line f c.args.name.now) (sym c.file.ensures) ∙ sym c.find_line.ensures ∙ c.in_default.is in
    c.loop-k.invariant ∙ find_on _ _ _ (omega (arith, n)) e

pub returns : goal.returns
returns c =
    let n = length-contents (files c.args.db.now c.args.ends.now) in
    sym (c.loop-k.invariant ∙ find-end _ _ _ (omega (arith, n)))
