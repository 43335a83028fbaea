-- "Fields": the fields of a line, what each is read as, and what a line's fields say together.
use Rattle.std.specs.Prelude.{ℕ, ◌+◌, Bool, true, false, List, [], ◌∷◌, ◌++◌, eqb, leb, length, Option, Some, None}
use Rattle.spec.specs.Choice.{pick, both, either, between}
use Rattle.spec.specs.Lists.{upto, past, holds}
use Rattle.spec.specs.Digits.{are_digits, value}
use Rattle.spec.specs.Refusals.{good_name, is_tc, id_bytes}
use Rattle.spec.specs.Lines.{blank}
use Rattle.spec.specs.Strings.{Decoded, bad, good, plain, decode}
use Rattle.spec.specs.declared.Kind.{Kind}
use Rattle.spec.specs.declared.Kind.TheVariants.{Flag, Number, String}

-- ---- a line: its names, a colon (58), its fields

unfoldable pub names_of : List ℕ → List ℕ
names_of l = upto 58 l

-- A byte before the first field.
unfoldable pub grow : ℕ → List (List ℕ) → List (List ℕ)
grow b [] = (b ∷ []) ∷ []
grow b (f ∷ fs) = (b ∷ f) ∷ fs

-- "Each ends at a colon, always, and text after the last colon is a field unless empty."
unfoldable pub split : List ℕ → List (List ℕ)
split [] = []
split (b ∷ l) = pick (eqb b 58) ([] ∷ split l) (grow b (split l))

-- "The fields are read from the byte after the first colon on."
unfoldable pub fields_of : List ℕ → List (List ℕ)
fields_of l = split (past 58 l)

-- Texts as they are written in a line, each with its colon.
unfoldable pub with_colons : List (List ℕ) → List ℕ
with_colons [] = []
with_colons (f ∷ fs) = f ++ 58 ∷ with_colons fs

-- "A line's size is its names plus 1, plus each field's length plus 1."
unfoldable pub size : List (List ℕ) → ℕ
size [] = 0
size (f ∷ fs) = length f + 1 + size fs

unfoldable pub line_size : List ℕ → ℕ
line_size l = length (names_of l) + 1 + size (fields_of l)

-- ---- "`#` and 1 to 6 decimal digits of at most 65,535 (number ...)"

-- Document 02, Ask 4: "a number of two or more digits starting with 0 (48) is octal ... A digit 8 or 9 in it is malformed."
unfoldable pub number_base : List ℕ → ℕ
number_base [] = 10
number_base (c ∷ []) = 10
number_base (c ∷ d ∷ digits) = pick (eqb c 48) 8 10

unfoldable pub number_value : List ℕ → ℕ
number_value digits = value (number_base digits) digits

unfoldable pub good_number : List ℕ → Bool
good_number digits = both (between 1 6 (length digits)) (both (are_digits (number_base digits) digits) (leb (number_value digits) 65535))

-- ---- what a field is read as

pub data Content : Type 0 where
  cancel : Content
  flag : Content
  number : ℕ → Content
  string : List ℕ → Content

pub data Reading : Type 0 where
  malformed : Reading
  ignored : Reading
  link : List ℕ → Reading
  capability : ℕ → ℕ → Content → Reading

unfoldable pub string_reading : ℕ → ℕ → Decoded → Reading
string_reading a b bad = malformed
string_reading a b (good l) = capability a b (string l)

-- After the two name bytes: "nothing (flag); `#` (35) and digits (number); `=` (61) and a text (string); `@` (64) and nothing (cancel)".
unfoldable pub content_reading : ℕ → ℕ → List ℕ → Reading
content_reading a b [] = capability a b flag
content_reading a b (c ∷ l) =
    let numbered = pick (good_number l) (capability a b (number (number_value l))) malformed in
    let cancelled = pick (eqb (length l) 0) (capability a b cancel) malformed in
    pick (eqb c 35) numbered (pick (eqb c 61) (string_reading a b (decode plain l)) (pick (eqb c 64) cancelled malformed))

-- After `tc`: "a link is a field that starts with the three bytes `tc=`, followed by a name as in refusal 1"; "no other field may have
-- the name `tc`".
unfoldable pub link_reading : List ℕ → Reading
link_reading [] = malformed
link_reading (c ∷ l) = pick (both (eqb c 61) (good_name l)) (link l) malformed

-- "Otherwise two name bytes as in refusal 2"; "anything else is malformed".
unfoldable pub named_reading : ℕ → List ℕ → Reading
named_reading a [] = malformed
named_reading a (b ∷ l) = pick (is_tc a b) (link_reading l) (pick (id_bytes a b) (content_reading a b l) malformed)

-- "Only spaces and tabs, or empty: ignored. First byte `.` (46): ignored."
unfoldable pub reading : List ℕ → Reading
reading [] = ignored
reading (a ∷ l) = pick (either (blank (a ∷ l)) (eqb a 46)) ignored (named_reading a l)

-- ---- what a line's fields say together

-- A line is malformed, it ends the chain, or it links to a name.
pub data Verdict : Type 0 where
  malformed_line : Verdict
  no_link : Verdict
  link_to : List ℕ → Verdict

unfoldable pub is_ignored_field : Reading → Bool
is_ignored_field malformed = false
is_ignored_field ignored = true
is_ignored_field (link n) = false
is_ignored_field (capability a b c) = false

unfoldable pub all_ignored : List (List ℕ) → Bool
all_ignored [] = true
all_ignored (f ∷ fs) = both (is_ignored_field (reading f)) (all_ignored fs)

-- A field, the fields after it, and the verdict on those. "After [a link] only ignored fields may stand."
unfoldable pub judged : Reading → List (List ℕ) → Verdict → Verdict
judged malformed fs rest = malformed_line
judged ignored fs rest = rest
judged (link name) fs rest = pick (all_ignored fs) (link_to name) malformed_line
judged (capability a b c) fs rest = rest

unfoldable pub judge : List (List ℕ) → Verdict
judge [] = no_link
judge (f ∷ fs) = judged (reading f) fs (judge fs)

-- "Anything else is malformed: ... a line without a colon."
unfoldable pub verdict : List ℕ → Verdict
verdict l = pick (holds 58 l) (judge (fields_of l)) malformed_line

-- ---- "Kinds are numbered 1 for a flag, 2 for a number, 3 for a string." A cancel is of no kind: 0 stands for it.

abbrev pub kind_number : Kind → ℕ
kind_number Flag = 1
kind_number Number = 2
kind_number String = 3

abbrev pub kind_of : ℕ → Option Kind
kind_of n = pick (eqb n 1) (Some Flag) (pick (eqb n 2) (Some Number) (pick (eqb n 3) (Some String) None))

abbrev pub content_kind : Content → ℕ
content_kind cancel = 0
content_kind flag = 1
content_kind (number n) = 2
content_kind (string l) = 3

-- The value of a record: "1, the number, or the decoded length".
abbrev pub content_value : Content → ℕ
content_value cancel = 0
content_value flag = 1
content_value (number n) = n
content_value (string l) = length l

-- The decoded bytes.
abbrev pub content_bytes : Content → List ℕ
content_bytes cancel = []
content_bytes flag = []
content_bytes (number n) = []
content_bytes (string l) = l
