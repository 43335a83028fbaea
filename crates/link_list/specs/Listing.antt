-- The links that the first two passes leave, as lists: where their lines start, and their names.
use Rattle.std.specs.Prelude.{ℕ, ◌+◌, ◌≤◌, ◌<◌, ◌≡◌, true, false, List, [], ◌∷◌, length, take, drop, set, get_or, Option, Some, None}
use Rattle.spec.specs.Lines.{Line, line_at}
use Rattle.spec.specs.Fields.{split, Verdict, malformed_line, no_link, link_to, reading}
use Rattle.spec.specs.Repair.{lines_of, left, line_link, first_link, reason_at, link_removals, too_many_lines}
use Rattle.link_targets.specs.Targets.{name_at}

unfoldable pub start_of : ℕ → Verdict → List ℕ → List ℕ
start_of at malformed_line rest = rest
start_of at no_link rest = rest
start_of at (link_to name) rest = at ∷ rest

unfoldable pub link_starts : List Line → List ℕ
link_starts [] = []
link_starts (l ∷ ls) = start_of l.start (line_link l.text) (link_starts ls)

unfoldable pub name_of : Verdict → List (List ℕ) → List (List ℕ)
name_of malformed_line rest = rest
name_of no_link rest = rest
name_of (link_to name) rest = name ∷ rest

unfoldable pub link_names : List Line → List (List ℕ)
link_names [] = []
link_names (l ∷ ls) = name_of (line_link l.text) (link_names ls)

-- The names at places.
unfoldable pub names_at : List ℕ → List ℕ → List (List ℕ)
names_at db [] = []
names_at db (p ∷ ps) = name_at db p ∷ names_at db ps

-- The first link of a list of fields.
unfoldable pub link_in : List (List ℕ) → Verdict
link_in [] = no_link
link_in (f ∷ fs) = first_link (reading f) (link_in fs)

-- `first_link`: the first link of the fields of the part that starts after a line's names, with the place of its name.
abbrev pub FirstLinked : List ℕ → Option ℕ → Type 0
FirstLinked s (Some p) = (link_in (split (line_at s 0)) ≡ link_to (name_at s p)) × (p ≤ length s)
FirstLinked s None = link_in (split (line_at s 0)) ≡ no_link

-- `line_link`: the link of a line, with the place of its name in the database.
abbrev pub Linked : List ℕ → Verdict → Option ℕ → Type 0
Linked db v (Some p) = v ≡ link_to (name_at db p)
Linked db v None = v ≡ no_link

-- `put_link`: the lists with one link more, if there is one.
abbrev pub PutLink : Option ℕ → ℕ → List ℕ → List ℕ → ℕ → List ℕ → List ℕ → ℕ → Type 0
PutLink (Some p) at ats names n ats' names' m = (ats' ≡ set ats n at) × (names' ≡ set names n p) × (m ≡ n + 1)
PutLink None at ats names n ats' names' m = (ats' ≡ ats) × (names' ≡ names) × (m ≡ n)

-- THE LINKS: the starts of their lines, and places of their names. Behind them the lists are as they were.
pub record Wanted (db ats₀ names₀ ats names : List ℕ) (n : ℕ) : Type 0 where
  pub fits : n ≤ length ats
  pub few : too_many_lines db ≡ false
  pub starts : take n ats ≡ link_starts (left (lines_of db))
  pub texts : names_at db (take n names) ≡ link_names (left (lines_of db))
  pub ats_kept : drop n ats ≡ drop n ats₀
  pub names-kept : drop n names ≡ drop n names₀

-- `list_links`: the links, so many; or too many lines. Then nothing is said of the lists.
abbrev pub LinksListed : List ℕ → List ℕ → List ℕ → List ℕ → List ℕ → Option ℕ → Type 0
LinksListed db ats₀ names₀ ats names (Some n) = Wanted db ats₀ names₀ ats names n
LinksListed db ats₀ names₀ ats names None = too_many_lines db ≡ true

-- THE REASONS: why the link of each listed line is removed, or 0.
unfoldable pub Reasons : List ℕ → List ℕ → List ℕ → Type 0
Reasons db ats reasons = (i : ℕ) → i < length ats → reason_at (link_removals (lines_of db)) (get_or ats i 0) ≡ get_or reasons i 0
