-- Ask 5: "With one file that fills the buffer every answer is as before, that tail and its room apart." What was before: document 01's walk
-- over one database, where a line is known by its place alone, and its record of 8 bytes.
use Rattle.std.specs.Prelude.{ℕ, zero, suc, ◌+◌, ◌/◌, ◌%◌, ◌≡◌, Bool, false, List, [], ◌∷◌, ◌++◌, map, eqb, ltb, length, Option, Some, None, Result, Ok, Err}
use Rattle.spec.specs.Choice.{pick, either}
use Rattle.spec.specs.Refusals.{good_name, good_id, too_large}
use Rattle.spec.specs.Lines.{find_line, line_at, extent}
use Rattle.spec.specs.Fields.{
  names_of,
  fields_of,
  line_size,
  Verdict,
  malformed_line,
  no_link,
  link_to,
  verdict,
  Reading,
  malformed,
  ignored,
  link,
  capability,
  reading,
  content_kind,
  content_value,
}
use Rattle.spec.specs.Files.{alone}
use Rattle.spec.specs.Chain.{Field, placed, Terminal, refused, terminal}
use Rattle.spec.specs.Lookup.{winning}
use Rattle.spec.specs.Answers.{Outcome, keeping, put}
use Rattle.spec.specs.Questions.{answer_for, string_for, show_answer, flag_answer, number_answer, string_outcome}
use Rattle.spec.specs.Batch.{batch_answers, batch_outcome}
use Rattle.spec.specs.Listing.{four_bytes, flat_for, list_outcome, flat_outcome}
use Rattle.spec.specs.declared.Kind.TheVariants.{Flag, Number}
use Rattle.spec.specs.declared.Refusal.{Refusal}
use Rattle.spec.specs.declared.Refusal.TheVariants.{BadName, BadId, DatabaseTooLarge, UnknownName, LostLink, Malformed, Cycle, ChainTooLarge, PartialQuestion}
use Rattle.demands.specs.Demand3.{HasRoom, count, cut, listed}
use Rattle.spec.specs.declared.Part.{Part}

-- ---- the walk over one database

pub data PlaceChain : Type 0 where
  broken : Refusal → PlaceChain
  chain : List ℕ → PlaceChain

-- "A line already in the chain", by its place.
unfoldable pub passed : ℕ → List ℕ → Bool
passed p [] = false
passed p (q ∷ qs) = either (eqb p q) (passed p qs)

-- "Links search again from the start."
unfoldable pub target : List ℕ → Verdict → Option ℕ
target db malformed_line = None
target db no_link = None
target db (link_to name) = find_line db name

unfoldable pub reached : List ℕ → Verdict → Bool → PlaceChain → PlaceChain
reached places malformed_line tooBig more = broken Malformed
reached places no_link tooBig more = pick tooBig (broken ChainTooLarge) (chain places)
reached places (link_to name) tooBig more = pick tooBig (broken ChainTooLarge) more

unfoldable pub followed : List ℕ → ℕ → List ℕ → ℕ → Refusal → Option ℕ → PlaceChain
followed db zero seen size missing None = broken missing
followed db zero seen size missing (Some p) = pick (passed p seen) (broken Cycle) (broken ChainTooLarge)
followed db (suc room) seen size missing None = broken missing
followed db (suc room) seen size missing (Some p) =
    let total = size + line_size (line_at db p) in
    let said = verdict (line_at db p) in
    let more = followed db room (seen ++ p ∷ []) total LostLink (target db said) in
    pick (passed p seen) (broken Cycle) (reached (seen ++ p ∷ []) said (ltb 16384 total) more)

unfoldable pub fields_at : List ℕ → ℕ → List ℕ → List Field
fields_at db k [] = []
fields_at db k (p ∷ ps) = placed k 0 (fields_of (line_at db p)) ++ fields_at db (k + 1) ps

unfoldable pub names_at : List ℕ → List ℕ → List ℕ
names_at db [] = []
names_at db (p ∷ ps) = names_of (line_at db p)

unfoldable pub terminal_at : List ℕ → PlaceChain → Terminal
terminal_at db (broken r) = refused r
terminal_at db (chain ps) = terminal (names_at db ps) (fields_at db 0 ps)

-- ---- the operations: "Order: 1, 2, 3, then the walk, then 9"

unfoldable pub terminal_before : List ℕ → List ℕ → Terminal
terminal_before db name =
    pick (good_name name) (pick (too_large db) (refused DatabaseTooLarge) (terminal_at db (followed db 32 [] 0 UnknownName (find_line db name)))) (refused BadName)

-- A batch of questions: 1, 3, 15, then 9.
unfoldable pub batch_before : List ℕ → List ℕ → List ℕ → List ℕ → Outcome (Result ℕ Refusal)
batch_before db name questions buffer =
    let walked = terminal_at db (followed db 32 [] 0 UnknownName (find_line db name)) in
    pick (good_name name)
    (pick (too_large db) (keeping (Err DatabaseTooLarge) buffer)
    (pick (eqb (length questions % 4) 0)
    (put (batch_answers walked questions) (length questions / 4) buffer)
    (keeping (Err PartialQuestion) buffer)))
    (keeping (Err BadName) buffer)

unfoldable pub asked_before : List ℕ → List ℕ → List ℕ → Terminal
asked_before db name id = pick (good_name name) (pick (good_id id) (terminal_before db name) (refused BadId)) (refused BadName)

unfoldable pub shown_before : List ℕ → Option ℕ → Result Part Refusal
shown_before db (Some p) = Ok (record { from = p; to = extent db p })
shown_before db None = Err UnknownName

unfoldable pub show_before : List ℕ → List ℕ → Result Part Refusal
show_before db name = pick (good_name name) (pick (too_large db) (Err DatabaseTooLarge) (shown_before db (find_line db name))) (Err BadName)

-- A record of 8 bytes.
unfoldable pub record_before : ℕ → Reading → List ℕ
record_before place malformed = []
record_before place ignored = []
record_before place (link n) = []
record_before place (capability a b c) = a ∷ b ∷ content_kind c ∷ place ∷ four_bytes (content_value c)

unfoldable pub records_before : List Field → List ℕ
records_before [] = []
records_before (f ∷ fs) = record_before f.place (reading f.text) ++ records_before fs

unfoldable pub list_for_before : Terminal → List ℕ → Outcome (Result ℕ Refusal)
list_for_before (refused r) buffer = keeping (Err r) buffer
list_for_before (terminal names fs) buffer = put (records_before (winning fs)) (length (winning fs)) buffer

unfoldable pub listed_before : Outcome (Result ℕ Refusal) → List (List ℕ)
listed_before o = cut 8 (count o.answer) o.buffer

-- "The file number from 0 and three zeros at the end."
abbrev pub with_tail : List ℕ → List ℕ
with_tail r = r ++ 0 ∷ 0 ∷ 0 ∷ 0 ∷ []

-- ---- every answer is as before

pub record AsBefore (db name : List ℕ) : Type 0 where
  pub show : show_answer (alone db) name ≡ show_before db name
  pub flag : (id : List ℕ) → flag_answer (alone db) name id ≡ answer_for id Flag (asked_before db name id)
  pub number : (id : List ℕ) → number_answer (alone db) name id ≡ answer_for id Number (asked_before db name id)
  pub string : (id buffer : List ℕ) → string_outcome (alone db) name id buffer ≡ string_for id (asked_before db name id) buffer
  pub flat : (buffer : List ℕ) → flat_outcome (alone db) name buffer ≡ flat_for (terminal_before db name) buffer
  pub batch : (questions buffer : List ℕ) → batch_outcome (alone db) name questions buffer ≡ batch_before db name questions buffer
  -- with room for each, the records have that tail, and the answers, refusals too, are the same
  pub list : (buffer before : List ℕ) → HasRoom (list_outcome (alone db) name buffer).answer → HasRoom (list_for_before (terminal_before db name) before).answer
      → ((list_outcome (alone db) name buffer).answer ≡ (list_for_before (terminal_before db name) before).answer)
      × (listed (list_outcome (alone db) name buffer) ≡ map with_tail (listed_before (list_for_before (terminal_before db name) before)))

-- THE STATEMENT: so it is for every database and name. Its proof is proofs/OneFile.
abbrev pub EveryAnswerAsBefore : Type 0
EveryAnswerAsBefore = (db name : List ℕ) → AsBefore db name
