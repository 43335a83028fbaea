-- The reason of a removal: by its number in a record, and what a note says of it.
use Rattle.std.specs.Prelude.{ℕ, List, codes, eqb}
use Rattle.spec.specs.Choice.{pick}
use Rattle.tcmend.specs.declared.Reason.{Reason}
use Rattle.tcmend.specs.declared.Reason.TheVariants.{NoColon, Malformed, AfterLink, UnknownName, Ring}

-- A record has no number but 1 to 5.
abbrev pub reason_numbered : ℕ → Reason
reason_numbered n =
    pick (eqb n 1) NoColon (pick (eqb n 2) Malformed (pick (eqb n 3) AfterLink (pick (eqb n 4) UnknownName Ring)))

abbrev pub reason_text : Reason → List ℕ
reason_text NoColon = codes "line without a colon dropped"
reason_text Malformed = codes "malformed field removed"
reason_text AfterLink = codes "field after a link removed"
reason_text UnknownName = codes "link to an unknown name removed"
reason_text Ring = codes "link that comes back to its own line removed"
