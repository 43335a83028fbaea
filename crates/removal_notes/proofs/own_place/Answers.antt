-- `removal_notes::own_place` meets its contract.
use mathlib.Core.Path.{refl}
use native.Mathlib.Omega.{arith}
use Rattle.removal_notes.specs.Notes.{place_of}
use Rattle.removal_notes.proofs.own_place.Goals as goal

pub returns-in-Some : goal.returns-in-Some
unfolding place_of
returns-in-Some c =
    let p = c.in-Some.ensures in
    (rw p.0 refl, omega (arith, p.1), omega (arith, p.2))

pub returns-in-None : goal.returns-in-None
unfolding place_of
returns-in-None c =
    let p = c.in-None.ensures in
    (rw p refl, omega arith, omega arith)
