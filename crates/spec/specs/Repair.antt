-- Repair (document 02, Ask 2): the mended database, and a record for each thing removed.
use Rattle.std.specs.Prelude.{
  ℕ,
  zero,
  suc,
  ◌+◌,
  ◌-◌,
  Bool,
  true,
  false,
  not,
  List,
  [],
  ◌∷◌,
  ◌++◌,
  eqb,
  leb,
  ltb,
  length,
  take,
  drop,
  Option,
  Some,
  None,
  Result,
  Ok,
  Err,
}
use Rattle.spec.specs.Choice.{pick, both, either}
use Rattle.spec.specs.Lists.{holds, upto, past}
use Rattle.spec.specs.Refusals.{too_large}
use Rattle.spec.specs.Lines.{text_at, Line, lines_from, is_ignored, find, extent}
use Rattle.spec.specs.Fields.{names_of, grow, Reading, malformed, ignored, link, capability, reading, Verdict, malformed_line, no_link, link_to}
use Rattle.spec.specs.Answers.{Report, repaired_report}
use Rattle.spec.specs.Listing.{four_bytes}
use Rattle.spec.specs.declared.Refusal.{Refusal}
use Rattle.spec.specs.declared.Refusal.TheVariants.{DatabaseTooLarge, NoRoom, TooManyLines}
use Rattle.spec.specs.declared.Amounts.{Amounts}

-- ---- the logical lines of a database, "ignored ones counted"

unfoldable pub lines_of : List ℕ → List Line
lines_of db = lines_from 0 (text_at db 0)

-- A line's own bytes, unjoined, with its closing newline if it has one.
unfoldable pub own_bytes : List ℕ → ℕ → List ℕ
own_bytes db at = take (extent db at + 1 - at) (drop at db)

-- ---- "Reasons are 1 to 5 for the five removals below, in their order." 0 stands for what is not removed.

abbrev pub no_colon : ℕ
no_colon = 1

abbrev pub malformed_field : ℕ
malformed_field = 2

abbrev pub after_link : ℕ
after_link = 3

abbrev pub lost_link : ℕ
lost_link = 4

abbrev pub cyclic_link : ℕ
cyclic_link = 5

-- ---- first pass: "drop every line without a colon (58) that isn't ignored"

unfoldable pub is_dropped : List ℕ → Bool
is_dropped l = both (not (is_ignored l)) (not (holds 58 l))

-- The lines that are left.
unfoldable pub left : List Line → List Line
left [] = []
left (l ∷ ls) = pick (is_dropped l.text) (left ls) (l ∷ left ls)

-- ---- second pass: "remove malformed fields, and after a first link every other field that isn't ignored"

-- Fields as they are written: a text cut after each colon, so that each has its colon, but perhaps the last.
unfoldable pub pieces : List ℕ → List (List ℕ)
pieces [] = []
pieces (b ∷ l) = pick (eqb b 58) ((b ∷ []) ∷ pieces l) (grow b (pieces l))

-- The fields of a line: from the byte after the first colon on.
unfoldable pub field_pieces : List ℕ → List (List ℕ)
field_pieces l = pieces (past 58 l)

-- Why a field is removed, by its reading: whether a link stands before it, and why the line's first link is removed (0 in this pass).
unfoldable pub field_reason : Bool → ℕ → Reading → ℕ
field_reason linked reason malformed = malformed_field
field_reason linked reason ignored = 0
field_reason linked reason (link name) = pick linked after_link reason
field_reason linked reason (capability a b c) = pick linked after_link 0

unfoldable pub is_link : Reading → Bool
is_link malformed = false
is_link ignored = false
is_link (link name) = true
is_link (capability a b c) = false

-- The link that this pass leaves in a line, if it leaves one: the first one that is well formed.
unfoldable pub first_link : Reading → Verdict → Verdict
first_link malformed rest = rest
first_link ignored rest = rest
first_link (link name) rest = link_to name
first_link (capability a b c) rest = rest

unfoldable pub link_of : List (List ℕ) → Verdict
link_of [] = no_link
link_of (f ∷ fs) = first_link (reading (upto 58 f)) (link_of fs)

-- An ignored line has no link.
unfoldable pub line_link : List ℕ → Verdict
line_link l = pick (is_ignored l) no_link (link_of (field_pieces l))

-- ---- third pass: "line by line in file order"

-- The link of the line that starts at a place, and where it leads: it is searched for among the lines that are left.
pub record Link : Type 0 where
  pub at : ℕ
  pub to : Option ℕ

unfoldable pub with_link : List Line → ℕ → Verdict → List Link → List Link
with_link among at malformed_line rest = rest
with_link among at no_link rest = rest
with_link among at (link_to name) rest = record { at = at; to = find name among } ∷ rest

unfoldable pub links_among : List Line → List Line → List Link
links_among among [] = []
links_among among (l ∷ ls) = with_link among l.start (line_link l.text) (links_among among ls)

-- Where the links, as they stand, lead from the line at a place.
unfoldable pub leads : List Link → ℕ → Option ℕ
leads [] p = None
leads (k ∷ ks) p = pick (eqb k.at p) k.to (leads ks p)

-- "Follow the links as they stand now, and if they come back to this line": to the line at `home`, in at most so many steps.
unfoldable pub comes_back : List Link → ℕ → ℕ → Option ℕ → Bool
comes_back ks zero home found = false
comes_back ks (suc n) home None = false
comes_back ks (suc n) home (Some p) = either (eqb p home) (comes_back ks n home (leads ks p))

-- "Remove a link that is found nowhere; follow the links ..., and if they come back to this line, remove this line's link." A ring of
-- links has no more steps than there are links.
unfoldable pub link_reason : List Link → ℕ → Option ℕ → ℕ
link_reason ks home None = lost_link
link_reason ks home (Some p) = pick (comes_back ks (length ks) home (Some p)) cyclic_link 0

-- The removed link of the line at a place, and why.
pub record Removed : Type 0 where
  pub at : ℕ
  pub reason : ℕ

-- The links that are removed, from the lines that were passed, with their links as they stand now, to those that come.
unfoldable pub removed_links : List Link → List Link → List Removed
removed_links passed [] = []
removed_links passed (k ∷ ks) =
    let reason = link_reason (passed ++ k ∷ ks) k.at k.to in
    pick (eqb reason 0) (removed_links (passed ++ k ∷ []) ks) (record { at = k.at; reason = reason } ∷ removed_links passed ks)

unfoldable pub reason_at : List Removed → ℕ → ℕ
reason_at [] p = 0
reason_at (r ∷ rs) p = pick (eqb r.at p) r.reason (reason_at rs p)

unfoldable pub link_removals : List Line → List Removed
link_removals ls = removed_links [] (links_among (left ls) (left ls))

-- ---- a line after the three passes

-- A field as written, where it stands in the joined line, and why it is removed, if it is.
pub record Part : Type 0 where
  pub place : ℕ
  pub bytes : List ℕ
  pub reason : ℕ

unfoldable pub parts_from : Bool → ℕ → ℕ → List (List ℕ) → List Part
parts_from linked reason place [] = []
parts_from linked reason place (f ∷ fs) =
    let r = reading (upto 58 f) in
    record { place = place; bytes = f; reason = field_reason linked reason r } ∷ parts_from (either linked (is_link r)) reason (place + length f) fs

unfoldable pub parts_of : ℕ → List ℕ → List Part
parts_of reason l = parts_from false reason (length (names_of l) + 1) (field_pieces l)

unfoldable pub kept_bytes : List Part → List ℕ
kept_bytes [] = []
kept_bytes (f ∷ fs) = pick (eqb f.reason 0) (f.bytes ++ kept_bytes fs) (kept_bytes fs)

unfoldable pub all_kept : List Part → Bool
all_kept [] = true
all_kept (f ∷ fs) = both (eqb f.reason 0) (all_kept fs)

unfoldable pub ends_in_backslash : List ℕ → Bool
ends_in_backslash [] = false
ends_in_backslash (b ∷ []) = eqb b 92
ends_in_backslash (b ∷ c ∷ l) = ends_in_backslash (c ∷ l)

-- "A changed line is written joined, with a newline, and a colon before that newline if it would end in a backslash (92)."
unfoldable pub closed : List ℕ → List ℕ
closed l = l ++ pick (ends_in_backslash l) (58 ∷ 10 ∷ []) (10 ∷ [])

-- "An unchanged one keeps every byte."
unfoldable pub mended_line : List ℕ → List ℕ → List Part → List ℕ
mended_line own l fs = pick (all_kept fs) own (closed (names_of l ++ 58 ∷ kept_bytes fs))

-- ---- records: "logical line from 0, byte place from 0 in the original joined line, reason, joined bytes removed (a field's colon
-- counted, no newline), each 32 bits, high byte first, ordered by line, then place"

abbrev pub removal_record : ℕ → ℕ → ℕ → ℕ → List ℕ
removal_record line place reason count = four_bytes line ++ four_bytes place ++ four_bytes reason ++ four_bytes count

unfoldable pub part_records : ℕ → List Part → List (List ℕ)
part_records line [] = []
part_records line (f ∷ fs) =
    pick (eqb f.reason 0) (part_records line fs) (removal_record line f.place f.reason (length f.bytes) ∷ part_records line fs)

-- ---- the whole: what is written for each line, and its records

pub record Mended : Type 0 where
  pub text : List ℕ
  pub records : List (List ℕ)

-- The line of number n, whose link is removed for that reason (0: it stays).
unfoldable pub mend_line : List ℕ → ℕ → ℕ → Line → Mended
mend_line db reason n l =
    let own = own_bytes db l.start in
    let fs = parts_of reason l.text in
    pick (is_ignored l.text) (record { text = own; records = [] })
    (pick (holds 58 l.text) (record { text = mended_line own l.text fs; records = part_records n fs })
    (record { text = []; records = removal_record n 0 no_colon (length l.text) ∷ [] }))

unfoldable pub mend_lines : List ℕ → List Removed → ℕ → List Line → Mended
mend_lines db removed n [] = record { text = []; records = [] }
mend_lines db removed n (l ∷ ls) =
    let first = mend_line db (reason_at removed l.start) n l in
    let rest = mend_lines db removed (n + 1) ls in
    record { text = first.text ++ rest.text; records = first.records ++ rest.records }

unfoldable pub mended : List ℕ → Mended
mended db = mend_lines db (link_removals (lines_of db)) 0 (lines_of db)

-- ---- Repair: "the order is 3, 14, 9"

-- Lines that aren't ignored.
unfoldable pub descriptions : List Line → ℕ
descriptions [] = 0
descriptions (l ∷ ls) = pick (is_ignored l.text) (descriptions ls) (descriptions ls + 1)

-- "At most 4,096 lines that aren't ignored, else the new refusal 14."
unfoldable pub too_many_lines : List ℕ → Bool
too_many_lines db = ltb 4096 (descriptions (lines_of db))

unfoldable pub flattened : List (List ℕ) → List ℕ
flattened [] = []
flattened (l ∷ ls) = l ++ flattened ls

-- The answer, the buffer for the mended database and the buffer for the records, afterwards.
pub record RepairOutcome : Type 0 where
  pub answer : Result Amounts Refusal
  pub text : List ℕ
  pub records : List ℕ

abbrev pub not_repaired : Refusal → List ℕ → List ℕ → RepairOutcome
not_repaired r text records = record { answer = Err r; text = text; records = records }

-- "No room in either buffer is 9."
unfoldable pub put_mended : Mended → List ℕ → List ℕ → RepairOutcome
put_mended m text records =
    let bytes = flattened m.records in
    pick (both (leb (length m.text) (length text)) (leb (length bytes) (length records)))
    (record {
      answer = (Ok (record { bytes = (length m.text); records = (length m.records) }));
      text = m.text ++ drop (length m.text) text;
      records = bytes ++ drop (length bytes) records;
    })
    (not_repaired NoRoom text records)

unfoldable pub repair_outcome : List ℕ → List ℕ → List ℕ → RepairOutcome
repair_outcome db text records =
    pick (too_large db) (not_repaired DatabaseTooLarge text records)
    (pick (too_many_lines db) (not_repaired TooManyLines text records)
    (put_mended (mended db) text records))

abbrev pub repair_report : List ℕ → List ℕ → List ℕ → Report
repair_report db text records = repaired_report (repair_outcome db text records).answer
