-- What the functions that judge a line by its fields answer, by the cases of their answers.
use Rattle.std.specs.Prelude.{ℕ, ◌+◌, ◌≤◌, ◌≡◌, true, false, List, length, Option, Some, None}
use Rattle.spec.specs.Choice.{pick}
use Rattle.spec.specs.Lines.{line_at}
use Rattle.spec.specs.Fields.{split, size, line_size, all_ignored, judge, Verdict, verdict, malformed_line, no_link, link_to}
use Rattle.field_bounds.specs.Answers.{field_at}
use Rattle.descriptions.specs.declared.Judged.{Judged}

-- `ignored_size`: all fields from a place on are ignored, and have that size; or not all.
abbrev pub IgnoredSize : List ℕ → ℕ → Option ℕ → Type 0
IgnoredSize s at (Some n) = (all_ignored (split (line_at s at)) ≡ true) × (size (split (line_at s at)) ≡ n)
IgnoredSize s at None = all_ignored (split (line_at s at)) ≡ false

-- `judge_after_link`: the fields after a link, the place of its name, and the size of the fields up to it.
unfoldable pub linked : List (List ℕ) → ℕ → ℕ → Option Judged
linked fs name n = pick (all_ignored fs) (Some (record { size = n + size fs; link = Some name })) None

-- What a verdict says of a link: there is none, or it has its name at a place.
abbrev pub Links : List ℕ → Verdict → Option ℕ → Type 0
Links s v None = v ≡ no_link
Links s v (Some name) = (v ≡ link_to (field_at s name)) × (name ≤ length s)

-- `judge_fields`: the verdict on the fields of the part that starts after a line's names, with their size; a link has the place of its name.
abbrev pub FieldsJudged : List ℕ → Option Judged → Type 0
FieldsJudged s None = judge (split (line_at s 0)) ≡ malformed_line
FieldsJudged s (Some j) = Links s (judge (split (line_at s 0))) j.link × (size (split (line_at s 0)) ≡ j.size)

-- `judge_line`: the verdict on a line and its size; a link has the place of its name in the database.
abbrev pub LineJudged : List ℕ → ℕ → Option Judged → Type 0
LineJudged db at None = verdict (line_at db at) ≡ malformed_line
LineJudged db at (Some j) = Links db (verdict (line_at db at)) j.link × (line_size (line_at db at) ≡ j.size)
