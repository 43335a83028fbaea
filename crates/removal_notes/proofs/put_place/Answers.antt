-- `removal_notes::put_place` meets its contract.
use Prim.Native.Nat.{◌+◌}
use mathlib.Core.Path.{refl}
use mathlib.Core.List.{[], ◌∷◌}
use native.Mathlib.Omega.{arith}
use lib.ListN.{length}
use Rattle.spec.specs.Digits.{written}
use Rattle.removal_notes.specs.Notes.{Put, place_text}
use Rattle.removal_notes.proofs.Storing.{put_then, put-after}
use Rattle.removal_notes.proofs.put_place.Goals as goal

pub returns : goal.returns
unfolding place_text
returns c =
    let a = c.args in
    let row = c.put_decimal-row in
    let column = c.put_decimal-column in
    let path : Put a.path.now a.out.now 0 _ (length a.path.now) =
    record { place = omega arith; stored = c.put_bytes.ensures } in
    let row-digits : Put (written 10 1 a.p.row) _ _ _ row.result =
    record { place = row.ensures.value.0; stored = row.ensures.value.1 } in
    let rows : Put (58 ∷ written 10 1 a.p.row) _ (length a.path.now) _ row.result =
    put-after c.put_byte.ensures row-digits in
    let column-digits : Put (written 10 1 a.p.column) _ _ _ column.result =
    record { place = column.ensures.value.0; stored = column.ensures.value.1 } in
    let columns : Put (58 ∷ written 10 1 a.p.column) _ row.result _ column.result =
    put-after c.put_byte-2.ensures column-digits in
    let end : Put (58 ∷ 32 ∷ []) _ column.result _ (column.result + 2) =
    record { place = refl; stored = c.put_bytes-2.ensures } in
    (put_then (put_then (put_then path rows) columns) end, omega (arith, row.ensures.upper_bound, column.ensures.upper_bound))
