-- `removal_notes::Spot::first` meets its contract.
use mathlib.Core.Path.{refl}
use native.Mathlib.Omega.{arith}
use Rattle.removal_notes.specs.Notes.{behind_all, position_at, text_from}
use Rattle.removal_notes.proofs.Spot.first.Goals as goal

pub returns : goal.returns
unfolding text_from position_at behind_all
returns c = (record { inside = omega arith; text = refl; position = refl }, refl, refl)
