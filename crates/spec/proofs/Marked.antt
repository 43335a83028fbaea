-- The marked examples (a) to (l) hold, and so do the readings of open points: by computation.
-- Assumes nothing.
use mathlib.Core.Path.{refl}
use Rattle.spec.specs.Examples.{Marked}
use Rattle.spec.specs.Rulings.{Ruled}
use Rattle.spec.specs.FileRulings.{FilesRuled}
use Rattle.spec.specs.SearchRulings.{SearchRuled}
use Rattle.spec.specs.FinderRulings.{FinderRuled}
use Rattle.spec.proofs.Computing.{computing}

pub marked_examples : Marked
unfolding computing
marked_examples = refl

pub rulings : Ruled
unfolding computing
rulings = (refl, refl, refl, refl, refl, refl, refl)

pub file_rulings_lem : FilesRuled
unfolding computing
file_rulings_lem = refl

pub search_rulings_lem : SearchRuled
unfolding computing
search_rulings_lem = refl

pub finder_rulings_lem : FinderRuled
unfolding computing
finder_rulings_lem = record { answers = refl; too_early = refl; block_too_late = refl; end_too_late = refl; bad-name = refl }
