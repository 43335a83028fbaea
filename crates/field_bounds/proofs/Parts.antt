-- The part of the database that starts after a line's names: its lines are those of the database, and its first one has the fields.
-- Assumes nothing.
use Rattle.std.specs.Prelude.{Some}
use Prim.Native.Nat.{ℕ, ◌+◌, ◌-◌, ◌≤◌}
use mathlib.Core.Path.{◌≡◌, ◌∙◌, ap, sym}
use mathlib.Core.List.{List}
use native.Mathlib.Omega.{arith}
use native.Mathlib.Nat.{add-zero}
use lib.ListN.{length, take, drop, length-drop}
use lib.Seq.{take_all}
use Rattle.spec.specs.Lines.{line_at}
use Rattle.spec.specs.Fields.{split, fields_of}
use Rattle.laws.proofs.WholeLines.{part_line}
use Rattle.field_bounds.specs.Answers.{NamesPassed}

-- the part of the database from a place on, as `&db[a..]` has it
abbrev pub part : List ℕ → ℕ → List ℕ
part db a = take (length db - a) (drop a db)

pub part_is : (db : List ℕ) (a : ℕ) → part db a ≡ drop a db
part_is db a =
    let l : length (drop a db) ≤ length db - a = rw length-drop (omega arith) in
    take_all (length db - a) (drop a db) l

module _ (db : List ℕ) (at a n : ℕ) (p : NamesPassed db at (Some (record { fields = a; names = n }))) where
  pub part_at : (i : ℕ) → line_at (part db a) i ≡ line_at db (a + i)
  part_at i = rw (part_is db a) (part_line db a i)

  pub part_fields : split (line_at (part db a) 0) ≡ fields_of (line_at db at)
  unfolding fields_of
  part_fields = ap split (part_at 0 ∙ ap (line_at db) (add-zero a) ∙ sym p.1)

  pub part_inside : (name : ℕ) → name ≤ length (part db a) → a + name ≤ length db
  part_inside name h = omega (arith, ap length (part_is db a), length-drop a db, p.4)
