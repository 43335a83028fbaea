-- `removal_notes::own_position` meets its contract.
use mathlib.Core.Path.{ap, ◌∙◌}
use Rattle.removal_notes.specs.Notes.{position_at, position_of}
use Rattle.removal_notes.proofs.own_position.Goals as goal

pub returns : goal.returns
unfolding position_of
returns c =
    let s = c.requires.1 in
    c.move_on.ensures ∙ ap (position_at _) c.own_place.ensures.0 ∙ rw s.text
