-- `fields::number_base` meets its contract, by the first byte and whether a second one follows.
use Rattle.std.specs.Prelude.{Option, Some, None}
use Rattle.std.specs.Option.{is_some}
use Prim.Native.Nat.{ℕ}
use mathlib.Core.Path.{◌≡◌, sym}
use mathlib.Core.Bool.{true}
use mathlib.Core.List.{List, ◌∷◌}
use Rattle.laws.proofs.Tests.{clash}
use Rattle.spec.specs.Fields.{number_base}
use Rattle.field_bounds.specs.Answers.{field_at, FieldStep}
use Rattle.fields.proofs.Numbers.{base_octal}
use Rattle.fields.proofs.number_base.Goals as goal

more : (l : List ℕ) (c n : ℕ) (s : List ℕ) (r : Option (ℕ × ℕ)) → l ≡ c ∷ field_at s n → c ≡ 48 → FieldStep s n r → is_some r ≡ true → 8 ≡ number_base l
more l c n s (Some (d, m)) e h p t = base_octal l _ c e h d _ p.0
more l c n s None e h p t = clash (sym t)

pub returns-in-Some : goal.returns-in-Some
returns-in-Some c =
    more _ _ _ _ c.field_byte-then-b-eq48.result c.in-Some.ensures.0 c.if-b-eq48.true c.field_byte-then-b-eq48.ensures (sym c.if-is_some.ensures)
