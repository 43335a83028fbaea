-- Document 02, Ask 8: "a finder that is fed blocks of whatever length, none included, keeps its place between calls and is changed where it
-- stands. It collects the joined line of the first description with the asked name." A state machine over the bytes as they arrive. That it
-- finds what the search of a whole file finds, however the file is cut, is a statement of its own (demands/specs/Finder).
use Rattle.std.specs.Prelude.{ℕ, ◌+◌, ◌-◌, Bool, List, [], ◌∷◌, ◌++◌, eqb, leb, ltb, length, take, get_or, set, replicate, Result, Err}
use Rattle.spec.specs.Choice.{pick, both, either}
use Rattle.spec.specs.Refusals.{refusal_number, good_name}
use Rattle.spec.specs.Answers.{Outcome, keeping, put, Report, written_report}
use Rattle.spec.specs.declared.Refusal.TheVariants.{BadName, UnknownName, ChainTooLarge, NoRoom, InvalidState}
use Rattle.spec.specs.declared.finder.LineState.{LineState}
use Rattle.spec.specs.declared.finder.Finder.{Finder}
use Rattle.spec.specs.declared.Refusal.{Refusal}

-- ---- the present line, and the text that is collected of it in the lent buffer

pub record Collecting : Type 0 where
  pub line : LineState
  pub text : List ℕ

abbrev pub collecting : ℕ → ℕ → ℕ → List ℕ → Collecting
collecting stage matched count text = record { line = record { stage = stage; matched = matched; count = count }; text = text }

-- Before the first byte of a line.
abbrev pub line_start : List ℕ → Collecting
line_start text = collecting 0 0 0 text

-- A line of over 16,384 bytes is known by its 16,385th; no more are collected. Past the buffer's end they are only counted.
unfoldable pub collect : Collecting → ℕ → Collecting
collect x b =
    pick (ltb x.line.count 16385)
    (collecting x.line.stage x.line.matched (x.line.count + 1) (set x.text x.line.count b))
    x

abbrev pub staged : ℕ → ℕ → Collecting → Collecting
staged stage matched x = collecting stage matched x.line.count x.text

-- The present name with one byte more: how much of the asked name it is, or 65.
unfoldable pub matched_after : List ℕ → ℕ → ℕ → ℕ
matched_after name k b = pick (eqb (get_or name k 256) b) (k + 1) 65

-- The present name, if it ends here, is the asked one.
abbrev pub is_asked : List ℕ → Collecting → Bool
is_asked name x = eqb x.line.matched (length name)

-- A byte among a line's names. A line that starts with `#` (35) is a comment. A colon (58) ends the names, a bar (124) one of them; either
-- byte also shows that the line is not blank. Any other is a byte of the present name.
unfoldable pub names_byte : List ℕ → Collecting → ℕ → Collecting
names_byte name x b =
    let other = collect (staged (pick (either (eqb b 32) (eqb b 9)) x.line.stage 1) (matched_after name x.line.matched b) x) b in
    let bar = collect (staged (pick (is_asked name x) 2 1) 0 x) b in
    let colon = pick (is_asked name x) (collect (staged 2 0 x) b) (staged 3 0 x) in
    pick (both (eqb x.line.count 0) (eqb b 35)) (staged 3 0 x) (pick (eqb b 58) colon (pick (eqb b 124) bar other))

-- A byte of a line.
unfoldable pub line_byte : List ℕ → Collecting → ℕ → Collecting
line_byte name x b =
    pick (eqb x.line.stage 2) (collect x b)
    (pick (either (eqb x.line.stage 3) (eqb x.line.stage 4)) x (names_byte name x b))

-- The end of a line: the last name ends too, unless the line is blank, and so ignored. "The first description with the asked name."
unfoldable pub line_ends : List ℕ → Collecting → Collecting
line_ends name x =
    let complete = staged 4 0 x in
    let next = line_start x.text in
    pick (eqb x.line.stage 4) x
    (pick (eqb x.line.stage 2) complete
    (pick (either (eqb x.line.stage 0) (eqb x.line.stage 3)) next
    (pick (is_asked name x) complete next)))

-- A byte of the joined text: "every other newline (10) ends a logical line".
unfoldable pub joined_byte : List ℕ → Collecting → ℕ → Collecting
joined_byte name x b = pick (eqb b 10) (line_ends name x) (line_byte name x b)

-- ---- bytes as they arrive: a backslash (92) is held until the next byte tells whether it vanishes with a newline

pub record Feeding : Type 0 where
  -- 0 for no
  pub held : ℕ
  pub reached : Collecting

abbrev pub feeding : ℕ → Collecting → Feeding
feeding held x = record { held = held; reached = x }

unfoldable pub unheld_byte : List ℕ → Collecting → ℕ → Feeding
unheld_byte name x b = pick (eqb b 92) (feeding 1 x) (feeding 0 (joined_byte name x b))

unfoldable pub one_byte : List ℕ → Feeding → ℕ → Feeding
one_byte name f b =
    let released = unheld_byte name (joined_byte name f.reached 92) b in
    pick (eqb f.held 0) (unheld_byte name f.reached b) (pick (eqb b 10) (feeding 0 f.reached) released)

-- The bytes of a block, one after the other.
unfoldable pub fed : List ℕ → Feeding → List ℕ → Feeding
fed name f [] = f
fed name f (b ∷ s) = fed name (one_byte name f b) s

-- "So does the end of the database": a held backslash stays, and the last line ends.
unfoldable pub finished : List ℕ → Feeding → Collecting
finished name f = line_ends name (pick (eqb f.held 0) f.reached (joined_byte name f.reached 92))

-- ---- the calls: the number of the refusal, or 0; and the finder and its text afterwards

pub record Turn : Type 0 where
  pub refusal : ℕ
  pub finder : Finder
  pub text : List ℕ

abbrev pub turn : ℕ → Finder → List ℕ → Turn
turn refusal f text = record { refusal = refusal; finder = f; text = text }

abbrev pub asked_name : Finder → List ℕ
asked_name f = take f.size f.name

-- A finder as the machine sees it, and the same finder elsewhere.
abbrev pub place_of : Finder → List ℕ → Feeding
place_of f text = feeding f.held (record { line = f.line; text = text })

abbrev pub moved : Finder → ℕ → Feeding → Finder
moved f ended p = record { line = p.reached.line; held = p.held; ended = ended; size = f.size; name = f.name }

abbrev pub begun : ℕ → List ℕ → ℕ → Finder
begun size name ended = record { line = record { stage = 0; matched = 0; count = 0 }; held = 0; ended = ended; size = size; name = name }

-- A name in the 64 bytes that a finder has for it.
abbrev pub with_zeros : List ℕ → List ℕ
with_zeros name = name ++ replicate (64 - length name) 0

-- "A bad name is 1 at opening"; the finder that comes with it has ended, and holds no name.
unfoldable pub opened_finder : List ℕ → Finder
opened_finder name = pick (good_name name) (begun (length name) (with_zeros name) 0) (begun 0 (with_zeros []) 1)

unfoldable pub open_refusal : List ℕ → ℕ
open_refusal name = pick (good_name name) 0 (refusal_number BadName)

-- "Blocks ... after the end was declared ... are the new refusal 17 and alter nothing."
unfoldable pub feed_turn : Finder → List ℕ → List ℕ → Turn
feed_turn f text block =
    let p = fed (asked_name f) (place_of f text) block in
    pick (eqb f.ended 0) (turn 0 (moved f f.ended p) p.reached.text) (turn (refusal_number InvalidState) f text)

-- "A second end."
unfoldable pub end_turn : Finder → List ℕ → Turn
end_turn f text =
    let x = finished (asked_name f) (place_of f text) in
    pick (eqb f.ended 0) (turn 0 (moved f 1 (feeding 0 x)) x.text) (turn (refusal_number InvalidState) f text)

-- Several blocks in turn; the refusal is that of the last.
unfoldable pub feed_all : Turn → List (List ℕ) → Turn
feed_all t [] = t
feed_all t (s ∷ ss) = feed_all (feed_turn t.finder t.text s) ss

-- A line of n bytes stands at the start of the text, if that had room for it. 9 is for either buffer.
abbrev pub line_copied : ℕ → List ℕ → List ℕ → Outcome (Result ℕ Refusal)
line_copied n text buffer = pick (leb n (length text)) (put (take n text) n buffer) (keeping (Err NoRoom) buffer)

-- "The answer's order is 17, 4, 8, 9."
unfoldable pub finder_outcome : Finder → List ℕ → List ℕ → Outcome (Result ℕ Refusal)
finder_outcome f text buffer =
    let n = f.line.count in
    let collected = pick (ltb 16384 n) (keeping (Err ChainTooLarge) buffer) (line_copied n text buffer) in
    let found = pick (eqb f.line.stage 4) collected (keeping (Err UnknownName) buffer) in
    pick (eqb f.ended 0) (keeping (Err InvalidState) buffer) found

abbrev pub finder_report : Finder → List ℕ → List ℕ → Report
finder_report f text buffer = written_report (finder_outcome f text buffer).answer
