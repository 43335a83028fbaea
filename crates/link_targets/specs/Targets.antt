-- Where links lead: for each wanted name the first line that has it, of those that are left.
use Rattle.std.specs.Prelude.{ℕ, ◌≤◌, ◌<◌, ◌≡◌, Bool, false, not, List, [], ◌∷◌, eqb, length, get_or, Option, Some, None}
use Rattle.spec.specs.Choice.{pick, both, either}
use Rattle.spec.specs.Lists.{holds}
use Rattle.spec.specs.Lines.{Line, text_at, line_text, is_ignored, first_name, later_names, find}
use Rattle.spec.specs.Repair.{left, lines_of}

-- The name at a place: up to a bar, a colon, or the line's end.
unfoldable pub name_at : List ℕ → ℕ → List ℕ
name_at db at = first_name (line_text (text_at db at))

-- A place as a number: nowhere is past every database.
unfoldable pub place_of : Option ℕ → ℕ
place_of (Some p) = p
place_of None = 1048577

-- THE TARGETS: the first `count` numbers of `tos` are where the names at the first `count` places of `names` are found, among the lines
-- that are left.
unfoldable pub Targets : List ℕ → List ℕ → List ℕ → ℕ → Type 0
Targets db names tos count = (k : ℕ) → k < count → get_or tos k 0 ≡ place_of (find (name_at db (get_or names k 0)) (left (lines_of db)))

-- Each place has a name of at most 64 bytes, as a link's name has.
unfoldable pub ShortNames : List ℕ → List ℕ → Type 0
ShortNames db names = (k : ℕ) → k < length names → length (name_at db (get_or names k 0)) ≤ 64

-- ---- the lines gone through once: names are told apart by a number, and each number is settled at the first line that has it

-- A number that is not settled yet is settled by a hit.
unfoldable pub settled : ℕ → Bool → ℕ → ℕ
settled at hit v = pick (both hit (eqb v 1048577)) at v

unfoldable pub or_else : ℕ → Option ℕ → ℕ
or_else v found = pick (eqb v 1048577) (place_of found) v

-- Whether one of the names has the number j.
unfoldable pub any_numbered : (List ℕ → ℕ) → List (List ℕ) → ℕ → Bool
any_numbered number [] j = false
any_numbered number (n ∷ ns) j = either (eqb (number n) j) (any_numbered number ns j)

abbrev pub line_names : List ℕ → List (List ℕ)
line_names l = first_name l ∷ later_names l

-- A line that is left, and has a name with the number j.
unfoldable pub numbered : (List ℕ → ℕ) → List ℕ → ℕ → Bool
numbered number l j = both (not (is_ignored l)) (both (holds 58 l) (any_numbered number (line_names l) j))

unfoldable pub first_numbered : (List ℕ → ℕ) → ℕ → List Line → Option ℕ
first_numbered number j [] = None
first_numbered number j (l ∷ ls) = pick (numbered number l.text j) (Some l.start) (first_numbered number j ls)

-- What a part of the pass makes of each number.
unfoldable pub Settles : ℕ → (ℕ → Bool) → List ℕ → List ℕ → Type 0
Settles at hit old new = (j : ℕ) → get_or new j 0 ≡ settled at (hit j) (get_or old j 0)

-- No number is settled.
unfoldable pub Unsettled : List ℕ → Type 0
Unsettled firsts = (j : ℕ) → j < length firsts → get_or firsts j 0 ≡ 1048577

-- Each number has its first line.
unfoldable pub FirstLines : List ℕ → (List ℕ → ℕ) → List ℕ → Type 0
FirstLines db number firsts = (j : ℕ) → j < length firsts → get_or firsts j 0 ≡ place_of (first_numbered number j (lines_of db))
