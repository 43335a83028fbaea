-- Ask 13 on known bytes: edited buffers and their ends, files of which the premises hold, and files where one of them does not.
use Rattle.std.specs.Prelude.{ℕ, ◌≡◌, List, [], ◌∷◌, map, replicate, Some, None, Ok}
use Prim.Native.String.{String as Chars}
use Rattle.spec.specs.Calls.{ascii}
use Rattle.spec.specs.Files.{Files, files}
use Rattle.spec.specs.Questions.{flag_answer}
use Rattle.spec.specs.Listing.{flat_outcome}
use Rattle.demands.specs.Pasting.{flat_fields, edited, Pasting}

-- The bytes and ends of a buffer, the file and the place of one of its lines, the name that it links to; and the edited buffer.
pub record Example : Type 0 where
  pub before : Files
  pub file : ℕ
  pub at : ℕ
  pub linked : List ℕ
  pub after : Files

abbrev pub example : Chars → List ℕ → ℕ → ℕ → Chars → Chars → List ℕ → Example
example bytes ends file at linked after moved =
    record { before = files (ascii bytes) ends; file = file; at = at; linked = ascii linked; after = files (ascii after) moved }

abbrev pub lent : List ℕ
lent = replicate 64 0

abbrev pub performed : Example → Files
performed e = edited (flat_fields (flat_outcome e.before e.linked lent)) (record { file = e.file; at = e.at }) e.before

abbrev pub edits : List Example
edits =
    -- ignored fields stay; the closing newline is replaced too
    example "n:am:tc=m: :.x\nm:co:am:le=a" (27 ∷ []) 0 0 "m" "n:am:co:am:le=a: :.x:\nm:co:am:le=a" (34 ∷ [])
    -- the last line of a file without a newline; the ends from its file on move, an empty file's too
    ∷ example "x:\nn:tc=m:m:co@:li#2:tc=p:\np:co:li#3:bl:\n" (10 ∷ 10 ∷ 41 ∷ []) 0 3 "m"
    "x:\nn:li#2:bl:\nm:co@:li#2:tc=p:\np:co:li#3:bl:\n" (14 ∷ 14 ∷ 45 ∷ [])
    -- a later description; ends before its file stay, an empty file's too
    ∷ example "x:\nn:tc=m:m:co@:li#2:tc=p:\np:co:li#3:bl:\n" (10 ∷ 10 ∷ 41 ∷ []) 2 0 "p"
    "x:\nn:tc=m:m:co@:li#2:co:li#3:bl:\np:co:li#3:bl:\n" (10 ∷ 10 ∷ 47 ∷ [])
    -- a parent without fields
    ∷ example "n:tc=m:\nm:" (10 ∷ []) 0 0 "m" "n:\nm:" (5 ∷ [])
    -- a last field without its colon; a parent with a continued line, which is joined
    ∷ example "n:tc=m\nm:\\\nam\nk:" (14 ∷ 16 ∷ []) 0 0 "m" "n:am:\nm:\\\nam\nk:" (13 ∷ 15 ∷ [])
    -- a continued line: its own bytes go, and the edited line is joined
    ∷ example "n:a\\\nm:\\\ntc=m:\nm:co:" (20 ∷ []) 0 0 "m" "n:am:co:\nm:co:" (14 ∷ [])
    ∷ []

abbrev pub Edited : Type 0
Edited = map performed edits ≡ map (λ e. e.after) edits

-- ---- the premises

abbrev pub three_files : Files
three_files = files (ascii "x:\nn:tc=m:m:co@:li#2:tc=p:\np:co:li#3:bl:\n") (10 ∷ 10 ∷ 41 ∷ [])

-- They hold of an edit of these three files, of which one is empty.
abbrev pub Possible : Type 0
Possible = Pasting three_files (ascii "n") (record { file = 0; at = 3 }) lent

abbrev pub two_files : Files
two_files = files (ascii "p:am:\nn:tc=p:\np:co:\n") (6 ∷ 20 ∷ [])

-- Without "the link's name finds the same line when asked directly" an answer changes. Here the link finds the second `p`; asked directly,
-- the first one's Flat is pasted.
abbrev pub Misled : Type 0
Misled =
    (flag_answer two_files (ascii "n") (ascii "co") ≡ (Ok (Some 1)))
    × (flag_answer (edited (flat_fields (flat_outcome two_files (ascii "p") lent)) (record { file = 1; at = 0 }) two_files) (ascii "n") (ascii "co") ≡ (Ok None))
