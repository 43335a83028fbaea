-- "Lines and names": the joined text of a database, its logical lines, their names, and the search for a name.
use Rattle.std.specs.Prelude.{ℕ, ◌+◌, ◌-◌, Bool, true, false, not, List, [], ◌∷◌, eqb, length, drop, Option, Some, None}
use Rattle.spec.specs.Choice.{pick, both, either}
use Rattle.spec.specs.Lists.{upto, later_pieces, among}

-- ---- the joined text: each of its bytes with the place after it in the database

pub data Text : Type 0 where
  end : Text
  byte : ℕ → ℕ → Text → Text

-- The joined text of the bytes that stand from the place `at` on. "A newline (10) whose preceding byte is a backslash (92) vanishes
-- with that backslash": the preceding byte of the database as given.
unfoldable pub join : ℕ → List ℕ → Text
join at [] = end
join at (b ∷ []) = byte b (at + 1) end
join at (b ∷ c ∷ s) =
    let vanished = join (at + 1 + 1) s in
    let kept = byte b (at + 1) (join (at + 1) (c ∷ s)) in
    pick (both (eqb b 92) (eqb c 10)) vanished kept

unfoldable pub text_at : List ℕ → ℕ → Text
text_at db at = join at (drop at db)

-- ---- logical lines: the place where each starts, and its joined text

pub record Line : Type 0 where
  pub start : ℕ
  pub text : List ℕ

-- "Every other newline ends a logical line; so does the end of the database."
unfoldable pub line_text : Text → List ℕ
line_text end = []
line_text (byte b n t) = pick (eqb b 10) [] (b ∷ line_text t)

-- The lines that start after the first newline of a text.
unfoldable pub later_lines : Text → List Line
later_lines end = []
later_lines (byte b n t) = pick (eqb b 10) (record { start = n; text = line_text t } ∷ later_lines t) (later_lines t)

abbrev pub lines_from : ℕ → Text → List Line
lines_from at t = record { start = at; text = line_text t } ∷ later_lines t

-- "Ignored: lines of only spaces (32) and tabs (9), and lines that start with `#` (35)."
unfoldable pub blank : List ℕ → Bool
blank [] = true
blank (b ∷ l) = both (either (eqb b 32) (eqb b 9)) (blank l)

unfoldable pub comment : List ℕ → Bool
comment [] = false
comment (b ∷ l) = eqb b 35

abbrev pub is_ignored : List ℕ → Bool
is_ignored l = either (comment l) (blank l)

-- "The names are the text before the first colon (58), or the whole line if there is none, split at `|` (124)."
unfoldable pub first_name : List ℕ → List ℕ
first_name l = upto 124 (upto 58 l)

unfoldable pub later_names : List ℕ → List (List ℕ)
later_names l = later_pieces 124 (upto 58 l)

abbrev pub has_name : List ℕ → List ℕ → Bool
has_name name l = among name (first_name l ∷ later_names l)

-- ---- "The search stops at the first logical line that holds the name."

unfoldable pub find : List ℕ → List Line → Option ℕ
find name [] = None
find name (l ∷ ls) = pick (both (not (is_ignored l.text)) (has_name name l.text)) (Some l.start) (find name ls)

unfoldable pub find_line : List ℕ → List ℕ → Option ℕ
find_line db name = find name (lines_from 0 (text_at db 0))

-- ---- a line by the place where it starts

-- Its joined text.
unfoldable pub line_at : List ℕ → ℕ → List ℕ
line_at db at = line_text (text_at db at)

-- The place of its closing newline, or the end of the database: the line's own bytes, unjoined, stand from its start up to there.
unfoldable pub line_end : ℕ → Text → ℕ
line_end size end = size
line_end size (byte b n t) = pick (eqb b 10) (n - 1) (line_end size t)

unfoldable pub extent : List ℕ → ℕ → ℕ
extent db at = line_end (length db) (text_at db at)
