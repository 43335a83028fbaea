-- A later line, a later place of the same line, or from the start.
use Prim.Native.Nat.{◌+◌, ◌-◌}
use mathlib.Core.Path.{◌≡◌, ap, ◌∙◌}
use native.Mathlib.Omega.{arith}
use Rattle.removal_notes.specs.Notes.{text_from}
use Rattle.removal_notes.proofs.Texts.{from_start, bytes_further, lines_later}
use Rattle.removal_notes.proofs.find_spot.Goals as goal

pub advance-requires-clause-db_value : goal.advance-requires-clause-db_value
advance-requires-clause-db_value c =
    let a = c.args in
    lines_later a.from.line a.line a.place a.from.place _ c.if-from-line.true

pub advance-requires-then-from-place-clause-db_value : goal.advance-requires-then-from-place-clause-db_value
advance-requires-then-from-place-clause-db_value c =
    let a = c.args in
    let line : a.from.line ≡ a.line = c.if-from-line-2.true in
    let place : a.from.place + (a.place - a.from.place) ≡ a.place = omega arith in
    bytes_further a.from.line a.from.place (a.place - a.from.place) _ ∙ rw (place, line)

pub advance-requires-2-clause-db_value : goal.advance-requires-2-clause-db_value
advance-requires-2-clause-db_value c =
    let f = c.first.ensures in
    rw (f.1, f.2) (ap (text_from _ _) (from_start _))
