-- What the steps of Send, Send at and its two halves answer, by the cases of their answers.
use Rattle.std.specs.Prelude.{ℕ, ◌+◌, ◌≤◌, ◌<◌, ◌≡◌, Bool, true, List, ◌++◌, leb, length, drop, replicate, Result, Ok, Err}
use Rattle.spec.specs.Choice.{pick}
use Rattle.spec.specs.Padding.{split, refused, prefix_of}
use Rattle.spec.specs.declared.Refusal.{Refusal}
use Rattle.spec.specs.declared.Refusal.TheVariants.{OutOfRange}
use Rattle.spec.specs.Position.{body, fault, plain_of, raising_for, compensated}
use Rattle.spec.specs.declared.position.Row.{Row}
use Rattle.spec.specs.declared.position.Column.{Column}
use Rattle.spec.specs.declared.position.Parameter.TheVariants.{Row as OfRow, Column as OfColumn}
use Rattle.spec.specs.declared.position.Parameters.TheVariants.{TwoUnused}
use Rattle.spec.specs.Position as Position
use Rattle.spec.specs.Sending.{Prepared, finished, Outgoing, sends, stops}
use Rattle.padding.specs.declared.Prefix.{Prefix}

-- A command and whether its place is in range: 12, 13, or the prefix and where the body starts.
abbrev pub CommandJudged : List ℕ → Bool → Result Prefix Refusal → Type 0
CommandJudged cmd in_range (Ok p) =
    (in_range ≡ true)
    × (prefix_of cmd ≡ split (record { delay = p.delay; star = p.star; body = drop p.from cmd }))
    × (p.from ≤ length cmd)
    × (p.delay < 100000)
CommandJudged cmd in_range (Err r) = pick in_range (prefix_of cmd ≡ refused r) (r ≡ OutOfRange)

-- The delay, its star and the finished bytes apart.
abbrev pub apart : ℕ → Bool → List ℕ → Prepared
apart delay star bytes = finished (record { delay = delay; star = star; bytes = bytes })

-- A body's first fault, or 12 if it has none.
abbrev pub fault_or : Position.Body → Refusal
fault_or (body l) = OutOfRange
fault_or (fault r) = r

-- A body and so many pads.
abbrev pub with_pads : Position.Body → ℕ → ℕ → Outgoing
with_pads (body l) n pad = sends (l ++ replicate n pad)
with_pads (fault r) n pad = stops r

-- A number that comes in, as it is held; what is above 32,767 is held as that.
abbrev pub held_for : ℕ → ℕ
held_for n = pick (leb n 32767) (32768 + n) 65535

-- Row and column "each 0..9,999", as they are held.
abbrev pub good_row : Row → Bool
good_row r = leb r.0 42767

abbrev pub good_column : Column → Bool
good_column c = leb c.0 42767

-- A body filled in for a row and a column that are held.
abbrev pub filled_for : List ℕ → Row → Column → List ℕ → List ℕ → Position.Body
filled_for cmd r c back up = compensated back up (plain_of cmd (raising_for back up) (TwoUnused (OfRow r) (OfColumn c)))
