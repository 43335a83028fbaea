-- `removal_notes::put_note` meets its contract.
use Prim.Native.Nat.{◌+◌}
use mathlib.Core.Path.{refl}
use mathlib.Core.List.{[], ◌∷◌}
use native.Mathlib.Omega.{arith}
use lib.ListN.{length}
use Rattle.removal_notes.specs.Notes.{Put, note}
use Rattle.removal_notes.proofs.Storing.{put_then}
use Rattle.removal_notes.proofs.put_note.Goals as goal

pub returns : goal.returns
unfolding note
returns c =
    let a = c.args in
    let place = c.put_place-at in
    let removed = c.put_removed-end in
    let reason : Put a.reason.now _ place.result _ (place.result + length a.reason.now) =
    record { place = refl; stored = c.put_bytes.ensures } in
    let colon : Put (58 ∷ 32 ∷ []) _ (place.result + length a.reason.now) _ (place.result + length a.reason.now + 2) =
    record { place = refl; stored = c.put_bytes-2.ensures } in
    let end : Put (10 ∷ []) _ removed.result _ (removed.result + 1) = record { place = refl; stored = c.put_byte.ensures } in (
      put_then (put_then (put_then (put_then place.ensures.0 reason) colon) removed.ensures.0) end,
      omega (arith, place.ensures.1, removed.ensures.1, c.requires.0, c.requires.1),
    )
