use mathlib.Core.List.{[]}
use mathlib.Core.Path.{◌∙◌}
use lib.Dec.{eqb}
use Rattle.std.specs.List.{slice_split}
use Rattle.std.proofs.lemmas.Option.{unwrap_or-slice_get}
use Rattle.case_lines.proofs.LineSteps.{field_piece}
use Rattle.case_lines.proofs.field.Goals as goal

pub returns-in-Some : goal.returns-in-Some
returns-in-Some c =
    let e = unwrap_or-slice_get (slice_split (λ b. eqb b 124) c.args.line.now) c.args.k [] in
    rw (← c.in-Some.ensures) at e ∙ field_piece c.args.line.now c.args.k

pub returns-in-None : goal.returns-in-None
returns-in-None c =
    let e = unwrap_or-slice_get (slice_split (λ b. eqb b 124) c.args.line.now) c.args.k [] in
    rw (← c.in-None.ensures) at e ∙ field_piece c.args.line.now c.args.k
