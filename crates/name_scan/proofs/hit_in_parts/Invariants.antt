-- `name_scan::hit_in_parts` meets its contract: the listed parts before the loop's are settled.
use Rattle.std.proofs.Common.{ℕ, ◌+◌, ◌*◌, ◌<◌, get_or}
use Rattle.name_places.specs.Marks.{AllSettled}
use Rattle.name_scan.proofs.hit_in_parts.Given as goal

abbrev pub invariant-loop-part : goal.invariant-loop-part
invariant-loop-part l =
    (d : ℕ) → d < l.part-index → AllSettled l.s l.name (l.at + get_or l.parts d 0 * 16) (l.at + get_or l.parts d 0 * 16 + 16)
