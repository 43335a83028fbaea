-- What the functions answer, by the cases of their answers.
use Rattle.std.specs.Prelude.{ℕ, ◌≤◌, ◌≡◌, Bool, true, false, List, [], ◌∷◌, eqb, length, take, drop, Option, Some, None}
use Rattle.spec.specs.Choice.{pick}
use Rattle.spec.specs.Lists.{same}
use Rattle.spec.specs.Fields.{reading}
use Rattle.spec.specs.Files.{file_at}
use Rattle.spec.specs.Chain.{Field}
use Rattle.spec.specs.Lookup.{matches, none, hit, lookup}
use Rattle.fields.specs.Readings.{ReadAs}
use Rattle.fields.specs.declared.FieldRead.{FieldRead}
use Rattle.fields.specs.declared.FieldRead.TheVariants.{Malformed, Ignored, Link, Cancel, Flag, Number, String}
use Rattle.lookup.specs.declared.Match.{Match}
use Rattle.lookup.specs.declared.Match.TheVariants.{Passes, Cancels, Answers}
use Rattle.lookup.specs.declared.LineHit.{LineHit}
use Rattle.lookup.specs.declared.LineHit.TheVariants.{Open, Cancelled, Answered}
use Rattle.spec.specs.declared.Location.{Location}

-- ---- one field

-- `has_name`: whether the first two bytes of a field are the asked name.
unfoldable pub has_name : List ℕ → List ℕ → Bool
has_name id t = same id (take 2 t)

-- Whether a field is of the kind of the number k (0: a cancel), by what it is read as.
abbrev pub has_kind : ℕ → FieldRead → Bool
has_kind k Malformed = false
has_kind k Ignored = false
has_kind k (Link name) = false
has_kind k (Cancel a b) = eqb k 0
has_kind k (Flag a b) = eqb k 1
has_kind k (Number a b v) = eqb k 2
has_kind k (String a b text n) = eqb k 3

-- `match_read`: a field with the asked name, by whether it is a cancel, and whether it is of the asked kind.
abbrev pub Matched : Bool → Bool → Match → Type 0
Matched cancels answers Passes = (cancels ≡ false) × (answers ≡ false)
Matched cancels answers Cancels = cancels ≡ true
Matched cancels answers Answers = (cancels ≡ false) × (answers ≡ true)

-- ---- the fields of one line

-- How a lookup fares among them: it goes on, it ends with no answer, or this field answers.
pub data Scan : Type 0 where
  goes_on : Scan
  cancelled : Scan
  answered : List ℕ → Scan

unfoldable pub scan : List ℕ → ℕ → List (List ℕ) → Scan
scan id k [] = goes_on
scan id k (t ∷ ts) = pick (matches id 0 (reading t)) cancelled (pick (matches id k (reading t)) (answered t) (scan id k ts))

-- `scan_fields`: the same of the fields ts, with what the field that answers is read as in s.
abbrev pub Scanned : List ℕ → ℕ → List (List ℕ) → List ℕ → LineHit → Type 0
Scanned id k ts s Open = scan id k ts ≡ goes_on
Scanned id k ts s Cancelled = scan id k ts ≡ cancelled
Scanned id k ts s (Answered read) = (t : List ℕ) × (scan id k ts ≡ answered t) × ReadAs s (reading t) read

-- ---- the chain

-- `look_up`: no field answers; or one does, and this is what it is read as in the part of one of the files from a place on.
abbrev pub LookedUp : List ℕ → ℕ → List Field → List (List ℕ) → Option (Location × FieldRead) → Type 0
LookedUp id k fs db None = lookup id k fs ≡ none
LookedUp id k fs db (Some (l, read)) =
    (t : List ℕ) × (lookup id k fs ≡ hit t) × ReadAs (drop l.at (file_at db l.file)) (reading t) read × (l.at ≤ length (file_at db l.file))
