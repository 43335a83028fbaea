-- ASK 13, "Pasting a parent in place": in any description of an accepted chain the fields of the linked line's Flat are put in place of the
-- link, and every question about the asked name has the same answer.
use Rattle.std.specs.Prelude.{ℕ, ◌+◌, ◌-◌, ◌≡◌, false, List, [], ◌∷◌, ◌++◌, map, length, take, drop, Result}
use Rattle.spec.specs.Choice.{pick}
use Rattle.spec.specs.Refusals.{too_large}
use Rattle.spec.specs.Lines.{line_at}
use Rattle.spec.specs.Fields.{reading, names_of, fields_of, with_colons, link_to, verdict}
use Rattle.spec.specs.Files.{Files, files, contents, file_start, file_at, line_of, find_from}
use Rattle.spec.specs.Chain.{Field, chain, walk}
use Rattle.spec.specs.Answers.{Outcome}
use Rattle.spec.specs.Questions.{flag_answer, number_answer, string_outcome}
use Rattle.spec.specs.Listing.{list_outcome, flat_outcome}
use Rattle.spec.specs.Batch.{batch_outcome}
use Rattle.spec.specs.Repair.{own_bytes, is_link}
use Rattle.spec.specs.declared.Location.{Location}
use Rattle.demands.specs.Demand3.{Accepted, HasRoom, listed, one_line, at_place_zero}
use Rattle.spec.specs.declared.Refusal.{Refusal}

-- ---- the edit

-- The parent's fields "in place of the link"; the other fields stay, ignored ones too.
unfoldable pub pasted : List (List ℕ) → List (List ℕ) → List (List ℕ)
pasted parent [] = []
pasted parent (f ∷ fs) =
    let rest = pasted parent fs in
    pick (is_link (reading f)) (parent ++ fs) (f ∷ rest)

-- "The edited line, joined and ended by a colon and a newline": its last field has that colon, and one more is not added.
unfoldable pub edited_line : List (List ℕ) → List ℕ → List ℕ
edited_line parent line = with_colons (names_of line ∷ pasted parent (fields_of line)) ++ 10 ∷ []

-- "Replaces the old one where it stood": new bytes for `old` many from a place on.
unfoldable pub replaced : ℕ → ℕ → List ℕ → List ℕ → List ℕ
replaced at old new bytes = take at bytes ++ new ++ drop (at + old) bytes

-- "The ends from its file on move by the change in length": those from the file's number k on.
unfoldable pub moved_ends : ℕ → ℕ → ℕ → List ℕ → List ℕ
moved_ends k old new ends = take k ends ++ map (λ e. e - old + new) (drop k ends)

-- The line's own bytes are replaced, its closing newline too, if it has one.
unfoldable pub edited : List (List ℕ) → Location → Files → Files
edited parent l db =
    let file = file_at (contents db) l.file in
    let old = length (own_bytes file l.at) in
    let new = edited_line parent (line_at file l.at) in
    files (replaced (file_start db l.file + l.at) old new db.bytes) (moved_ends l.file old (length new) db.ends)

-- The fields of a one-line description, as they stand in what Flat wrote.
unfoldable pub flat_fields : Outcome (Result ℕ Refusal) → List (List ℕ)
flat_fields o = fields_of (line_at (one_line o) 0)

-- ---- the statement

-- l is a description of the accepted chain of a name, and it has a link; then the premises of the Ask.
pub record Pasting (db : Files) (name : List ℕ) (l : Location) (lent : List ℕ) : Type 0 where
  pub names : List ℕ
  pub fields : List Field
  pub accepted : Accepted db name names fields
  pub before : List Location
  pub after : List Location
  pub in_chain : walk (contents db) name ≡ chain (before ++ l ∷ after)
  pub linked : List ℕ
  pub has_link : verdict (line_of (contents db) l) ≡ link_to linked
  -- "the link's name finds the same line when asked directly"
  pub same_line : find_from (contents db) 0 linked ≡ find_from (contents db) l.file linked
  -- there is room for the linked line's Flat
  pub room : HasRoom (flat_outcome db linked lent).answer
  -- "the edited buffer keeps limit 3"
  pub limit : too_large (edited (flat_fields (flat_outcome db linked lent)) l db).bytes ≡ false

-- "Every question about the asked name has the same answer. For the terminal's listing only the place byte and the file number may differ."
pub record AnswersKept (db after : Files) (name : List ℕ) : Type 0 where
  pub flag : (id : List ℕ) → flag_answer after name id ≡ flag_answer db name id
  pub number : (id : List ℕ) → number_answer after name id ≡ number_answer db name id
  pub string : (id buffer : List ℕ) → string_outcome after name id buffer ≡ string_outcome db name id buffer
  pub list : (buffer : List ℕ) → (list_outcome after name buffer).answer ≡ (list_outcome db name buffer).answer
  pub listing : (buffer : List ℕ) → HasRoom (list_outcome db name buffer).answer
      → map at_place_zero (listed (list_outcome after name buffer)) ≡ map at_place_zero (listed (list_outcome db name buffer))
  -- more than the Ask demands: a batch of questions, and Flat
  pub batch : (questions buffer : List ℕ) → batch_outcome after name questions buffer ≡ batch_outcome db name questions buffer
  pub flat : (buffer : List ℕ) → flat_outcome after name buffer ≡ flat_outcome db name buffer

-- THE STATEMENT. Its proof is proofs/Pasting.
abbrev pub PastingSound : Type 0
PastingSound = (db : Files) (name : List ℕ) (l : Location) (lent : List ℕ) (p : Pasting db name l lent)
    → AnswersKept db (edited (flat_fields (flat_outcome db p.linked lent)) l db) name
