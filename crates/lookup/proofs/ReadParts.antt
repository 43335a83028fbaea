-- What a field is read as in the part of the database from a place on, as `&db[from..]` has it, it is read as in the rest of the database.
-- Assumes nothing.
use Prim.Native.Nat.{ℕ}
use mathlib.Core.List.{List}
use lib.ListN.{drop}
use Rattle.spec.specs.Fields.{Reading}
use Rattle.field_bounds.proofs.Parts.{part, part_is}
use Rattle.fields.specs.Readings.{ReadAs}
use Rattle.fields.specs.declared.FieldRead.{FieldRead}

pub part_read : (db : List ℕ) (from : ℕ) (r : Reading) (read : FieldRead) → ReadAs (part db from) r read → ReadAs (drop from db) r read
part_read db from r read p = rw (part_is db from) at p
