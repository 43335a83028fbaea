-- Ask 6: "a search that tells whether an asked name is found and how many names had bytes compared".
use Rattle.std.specs.Prelude.{ℕ, ◌+◌, Bool, List, [], ◌∷◌, ◌++◌, eqb, length, Result, Ok, Err}
use Rattle.spec.specs.Choice.{pick}
use Rattle.spec.specs.Lists.{same, among}
use Rattle.spec.specs.Refusals.{good_name, too_large}
use Rattle.spec.specs.Lines.{Line, text_at, lines_from, is_ignored, first_name, later_names}
use Rattle.spec.specs.Files.{Files, good_ends, contents}
use Rattle.spec.specs.Answers.{Report, searched_report}
use Rattle.spec.specs.declared.Refusal.TheVariants.{BadName, DatabaseTooLarge, BadEnds}
use Rattle.spec.specs.declared.Refusal.{Refusal}
use Rattle.spec.specs.declared.Tally.{Tally}

-- ---- the names "in lines that aren't ignored", in the order of the search

abbrev pub split_names : List ℕ → List (List ℕ)
split_names l = first_name l ∷ later_names l

-- Those of one line: an ignored line holds none.
unfoldable pub line_names : List ℕ → List (List ℕ)
line_names l = pick (is_ignored l) [] (split_names l)

unfoldable pub names_in : List Line → List (List ℕ)
names_in [] = []
names_in (l ∷ ls) = line_names l.text ++ names_in ls

-- Those of one file, and of files one after the other.
unfoldable pub file_names : List ℕ → List (List ℕ)
file_names f = names_in (lines_from 0 (text_at f 0))

unfoldable pub all_names : List (List ℕ) → List (List ℕ)
all_names [] = []
all_names (f ∷ fs) = file_names f ++ all_names fs

-- ---- "how many names had bytes compared"

-- "Exactly those of its length".
unfoldable pub counted : List ℕ → List ℕ → ℕ
counted name m = pick (eqb (length m) (length name)) 1 0

-- "Up to and with the first equal one, or all if none is."
unfoldable pub compared : List ℕ → List (List ℕ) → ℕ
compared name [] = 0
compared name (m ∷ ms) =
    let later = pick (same name m) 0 (compared name ms) in
    counted name m + later

-- ---- the answer

abbrev pub told : Bool → ℕ → Result Tally Refusal
told found n = Ok (record { found = found; compared = n })

-- "It refuses only 16, 1 and 3": a name that is not found is an answer.
unfoldable pub search_answer : Files → List ℕ → Result Tally Refusal
search_answer db name =
    let names = all_names (contents db) in
    pick (good_ends db)
    (pick (good_name name) (pick (too_large db.bytes) (Err DatabaseTooLarge) (told (among name names) (compared name names))) (Err BadName))
    (Err BadEnds)

abbrev pub search_report : Files → List ℕ → Report
search_report db name = searched_report (search_answer db name)
