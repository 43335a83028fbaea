-- Send, Send at and its two halves: from the inputs and the lent buffer to the answer and the buffer afterwards.
use Rattle.std.specs.Prelude.{ℕ, Bool, List, ◌++◌, length, replicate, leb, Result, Ok, Err}
use Rattle.spec.specs.Choice.{pick, both, between}
use Rattle.spec.specs.Padding.{Prefix, Split, prefix_of, delay_for, pad_count}
use Rattle.spec.specs.Position.{Body, body, fault, fill_in}
use Rattle.spec.specs.Answers.{Outcome, keeping, put, Report, written_report, filled_report}
use Rattle.spec.specs.declared.Refusal.{Refusal}
use Rattle.spec.specs.declared.Refusal.TheVariants.{OutOfRange}
use Rattle.spec.specs.declared.Finished.{Finished as FinishedCount}

-- ---- the finished command: delay (not yet times lines), star and bytes apart. "The padding prefix is split off the decoded command
-- first, and only the body is filled in."

pub record Finished : Type 0 where
  pub delay : ℕ
  pub star : Bool
  pub bytes : List ℕ

pub data Prepared : Type 0 where
  finished : Finished → Prepared
  refused : Refusal → Prepared

-- "Send copies percent signs unchanged."
abbrev pub copied : Prefix → Prepared
copied (Prefix.split p) = finished (record { delay = p.delay; star = p.star; bytes = p.body })
copied (Prefix.refused r) = refused r

abbrev pub with_bytes : Split → Body → Prepared
with_bytes p (body l) = finished (record { delay = p.delay; star = p.star; bytes = l })
with_bytes p (fault r) = refused r

abbrev pub filled_in : Prefix → ℕ → ℕ → List ℕ → List ℕ → Prepared
filled_in (Prefix.split p) row column back up = with_bytes p (fill_in p.body row column back up)
filled_in (Prefix.refused r) row column back up = refused r

unfoldable pub prepared : List ℕ → Prepared
prepared cmd = copied (prefix_of cmd)

-- Row and column "each 0..9,999". Document 02, Ask 7: "12 for row and column, 13, the body's faults".
abbrev pub good_place : ℕ → ℕ → Bool
good_place row column = both (leb row 9999) (leb column 9999)

unfoldable pub prepared_at : List ℕ → ℕ → ℕ → List ℕ → List ℕ → Prepared
prepared_at cmd row column back up = pick (good_place row column) (filled_in (prefix_of cmd) row column back up) (refused OutOfRange)

-- ---- the bytes to be sent, whatever room there is; or the refusal

pub data Outgoing : Type 0 where
  sends : List ℕ → Outgoing
  stops : Refusal → Outgoing

unfoldable pub pads_of : Finished → ℕ → ℕ → ℕ
pads_of f lines speed = pad_count (delay_for f.delay f.star lines) speed

-- "Lines 1..1,000, speed 0..115,200 bits a second, else 12."
abbrev pub good_speed : ℕ → ℕ → Bool
good_speed lines speed = both (between 1 1000 lines) (leb speed 115200)

-- "Body, compensations, then pads." Ask 7: "then 12 for lines and speed".
abbrev pub padded : Prepared → ℕ → ℕ → ℕ → Outgoing
padded (finished f) lines speed pad = pick (good_speed lines speed) (sends (f.bytes ++ replicate (pads_of f lines speed) pad)) (stops OutOfRange)
padded (refused r) lines speed pad = stops r

-- ---- "then 9"

unfoldable pub delivered : Outgoing → List ℕ → Outcome (Result ℕ Refusal)
delivered (sends l) buffer = put l (length l) buffer
delivered (stops r) buffer = keeping (Err r) buffer

-- "For plain Send 13, 12, 9."
unfoldable pub send_outcome : List ℕ → ℕ → ℕ → ℕ → List ℕ → Outcome (Result ℕ Refusal)
send_outcome cmd lines speed pad buffer = delivered (padded (prepared cmd) lines speed pad) buffer

abbrev pub send_report : List ℕ → ℕ → ℕ → ℕ → List ℕ → Report
send_report cmd lines speed pad buffer = written_report (send_outcome cmd lines speed pad buffer).answer

-- "For Send at, 12 for row and column, 13, the body's faults, then 12 for lines and speed, then 9."
unfoldable pub send_at_outcome : List ℕ → ℕ → ℕ → List ℕ → List ℕ → ℕ → ℕ → ℕ → List ℕ → Outcome (Result ℕ Refusal)
send_at_outcome cmd row column back up lines speed pad buffer = delivered (padded (prepared_at cmd row column back up) lines speed pad) buffer

abbrev pub send_at_report : List ℕ → ℕ → ℕ → List ℕ → List ℕ → ℕ → ℕ → ℕ → List ℕ → Report
send_at_report cmd row column back up lines speed pad buffer = written_report (send_at_outcome cmd row column back up lines speed pad buffer).answer

-- ---- Ask 7: "one operation that fills in and one that pads. What goes between them holds the delay, its star and the finished bytes apart"

-- The first half puts the finished bytes at the start of the buffer, 9 where they do not fit; the rest is its answer.
abbrev pub filled_answer : ℕ → Bool → Result ℕ Refusal → Result FinishedCount Refusal
filled_answer delay star (Ok n) = Ok (record { delay = delay; star = star; count = n })
filled_answer delay star (Err r) = Err r

abbrev pub filled_into : Prepared → List ℕ → Outcome (Result FinishedCount Refusal)
filled_into (finished f) buffer =
    let o = put f.bytes (length f.bytes) buffer in
    record { answer = filled_answer f.delay f.star o.answer; buffer = o.buffer }
filled_into (refused r) buffer = keeping (Err r) buffer

unfoldable pub fill_outcome : List ℕ → ℕ → ℕ → List ℕ → List ℕ → List ℕ → Outcome (Result FinishedCount Refusal)
fill_outcome cmd row column back up buffer = filled_into (prepared_at cmd row column back up) buffer

abbrev pub fill_report : List ℕ → ℕ → ℕ → List ℕ → List ℕ → List ℕ → Report
fill_report cmd row column back up buffer = filled_report (fill_outcome cmd row column back up buffer).answer

-- The second half reads no prefix: the bytes go out whole. "A delay over 99,999 tenths before its star is 12 as well."
abbrev pub handed : ℕ → Bool → List ℕ → Prepared
handed delay star bytes = pick (leb delay 99999) (finished (record { delay = delay; star = star; bytes = bytes })) (refused OutOfRange)

unfoldable pub pad_outcome : ℕ → Bool → List ℕ → ℕ → ℕ → ℕ → List ℕ → Outcome (Result ℕ Refusal)
pad_outcome delay star bytes lines speed pad buffer = delivered (padded (handed delay star bytes) lines speed pad) buffer

abbrev pub pad_report : ℕ → Bool → List ℕ → ℕ → ℕ → ℕ → List ℕ → Report
pad_report delay star bytes lines speed pad buffer = written_report (pad_outcome delay star bytes lines speed pad buffer).answer
