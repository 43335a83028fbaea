-- What the repair reports lies within the buffers.
use mathlib.Core.Path.{sym, ◌∙◌}
use native.Mathlib.Omega.{arith}
use lib.Seq.{length-take-le}
use Rattle.tcmend.proofs.Rooms.{counts-fit}
use Rattle.tcmend.proofs.mend.Goals as goal

pub overflow_mul-size : goal.overflow_mul-size
overflow_mul-size g c =
    let fits = counts-fit _ _ _ _ (sym c.repair.ensures.0 ∙ c.in-Ok.is) in
    omega (arith, fits.1, c.megabyte-records.ensures)

pub slice_bounds-text-end : goal.slice_bounds-text-end
slice_bounds-text-end g c =
    let fits = counts-fit _ _ _ _ (sym c.repair.ensures.0 ∙ c.in-Ok.is) in
    omega (arith, fits.0, c.megabyte-text.ensures, c.repair.auto.text)

pub slice_bounds-mended-end : goal.slice_bounds-mended-end
slice_bounds-mended-end g c =
    let fits = counts-fit _ _ _ _ (sym c.repair.ensures.0 ∙ c.in-Ok.is) in
    sym (length-take-le _ _ (omega (arith, fits.0, c.megabyte-text.ensures, c.repair.auto.text)))

pub slice_bounds-records-end : goal.slice_bounds-records-end
slice_bounds-records-end g c =
    let fits = counts-fit _ _ _ _ (sym c.repair.ensures.0 ∙ c.in-Ok.is) in
    omega (arith, fits.1, c.megabyte-records.ensures, c.repair.auto.records)

pub slice_bounds-mended-end-in-Ok : goal.slice_bounds-mended-end-in-Ok
slice_bounds-mended-end-in-Ok g c =
    let fits = counts-fit _ _ _ _ (sym c.repair.ensures.0 ∙ c.in-Ok.is) in
    sym (length-take-le _ _ (omega (arith, fits.1, c.megabyte-records.ensures, c.repair.auto.records)))
