-- A line judged by the part of the database that starts after its names.
-- Assumes nothing.
use Rattle.std.specs.Prelude.{Some, None}
use Prim.Native.Nat.{ℕ, ◌+◌, ◌≤◌}
use mathlib.Core.Path.{◌≡◌, ◌∙◌, ap, sym}
use mathlib.Core.List.{List}
use native.Mathlib.Omega.{arith}
use lib.ListN.{length}
use Rattle.spec.specs.Lists.{upto, past}
use Rattle.spec.specs.Lines.{line_at}
use Rattle.spec.specs.Fields.{split, size, line_size, judge, link_to, verdict}
use Rattle.laws.proofs.FieldSteps.{line-size}
use Rattle.laws.proofs.Judging.{verdict-colon}
use Rattle.field_bounds.specs.Answers.{NamesPassed}
use Rattle.field_bounds.proofs.LineBounds.{line_bound, open_bound}
use Rattle.field_bounds.proofs.Parts.{part, part_at, part_fields, part_inside}
use Rattle.descriptions.specs.Judgement.{FieldsJudged, LineJudged}

module _ (db : List ℕ) (at a n : ℕ) (p : NamesPassed db at (Some (record { fields = a; names = n }))) where
  line-verdict : verdict (line_at db at) ≡ judge (split (line_at (part db a) 0))
  line-verdict = verdict-colon (line_at db at) p.0 ∙ ap judge (sym (part_fields db at a n p))

  line-size_is : line_size (line_at db at) ≡ n + 1 + size (split (line_at (part db a) 0))
  unfolding line_size
  line-size_is = omega (arith, p.2, ap size (part_fields db at a n p))

  pub part_malformed : FieldsJudged (part db a) None → LineJudged db at None
  part_malformed h = line-verdict ∙ h

  pub part_room : size (split (line_at (part db a) 0)) + n ≤ length db
  part_room = omega (arith, line-size_is, line-size (line_at db at) p.0, open_bound (past 58 (line_at db at)), line_bound db at)

  pub part_ends : (k : ℕ) → FieldsJudged (part db a) (Some (record { size = k; link = None }))
      → LineJudged db at (Some (record { size = n + 1 + k; link = None }))
  part_ends k h = (line-verdict ∙ h.0, line-size_is ∙ omega (arith, h.1))

  pub part_links : (k name : ℕ) → FieldsJudged (part db a) (Some (record { size = k; link = Some name }))
      → LineJudged db at (Some (record { size = n + 1 + k; link = Some (a + name) }))
  part_links k name h = (
    (line-verdict ∙ h.0.0 ∙ ap (λ (l : List ℕ). link_to (upto 58 l)) (part_at db at a n p name), part_inside db at a n p name h.0.1),
    line-size_is ∙ omega (arith, h.1),
  )
