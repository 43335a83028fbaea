-- "Lookup, List and Flat": which field answers for an id and a kind, and which fields win.
use Rattle.std.specs.Prelude.{ℕ, Bool, true, false, not, List, [], ◌∷◌, eqb}
use Rattle.spec.specs.Choice.{pick, both, either}
use Rattle.spec.specs.Lists.{same}
use Rattle.spec.specs.Fields.{Reading, malformed, ignored, link, capability, reading, content_kind, content_value, content_bytes}
use Rattle.spec.specs.Chain.{Field}

-- Whether a field, by its reading, has that name and the kind of that number (0: it is a cancel of that name).
unfoldable pub matches : List ℕ → ℕ → Reading → Bool
matches id k malformed = false
matches id k ignored = false
matches id k (link n) = false
matches id k (capability a b c) = both (same id (a ∷ b ∷ [])) (eqb k (content_kind c))

-- The field that answers, by its text, or none.
pub data Hit : Type 0 where
  none : Hit
  hit : List ℕ → Hit

-- "The first field of that name and kind, unless a cancel of that name stands earlier; a field of another kind is passed over."
unfoldable pub lookup : List ℕ → ℕ → List Field → Hit
lookup id k [] = none
lookup id k (f ∷ fs) =
    pick (matches id 0 (reading f.text)) none
    (pick (matches id k (reading f.text)) (hit f.text)
    (lookup id k fs))

-- Whether a cancel of that name is among fields.
unfoldable pub cancelled : List ℕ → List Field → Bool
cancelled id [] = false
cancelled id (f ∷ fs) = either (matches id 0 (reading f.text)) (cancelled id fs)

-- "Where the answer is present ... the pair is live."
abbrev pub is_present : Hit → Bool
is_present none = false
is_present (hit f) = true

abbrev pub is_live : List ℕ → ℕ → List Field → Bool
is_live id k fs = is_present (lookup id k fs)

-- ---- winning fields

-- Whether a field can win at all: it is a flag, a number or a string; "a cancel never does".
unfoldable pub can_win : Reading → Bool
can_win malformed = false
can_win ignored = false
can_win (link n) = false
can_win (capability a b c) = not (eqb 0 (content_kind c))

-- Whether an earlier field keeps a field from being the answer for its own name and kind: it is a cancel of that name, or it has that
-- name and kind itself.
unfoldable pub hides : Reading → Reading → Bool
hides earlier malformed = false
hides earlier ignored = false
hides earlier (link n) = false
hides earlier (capability a b c) = either (matches (a ∷ b ∷ []) 0 earlier) (matches (a ∷ b ∷ []) (content_kind c) earlier)

unfoldable pub hidden : List Reading → Reading → Bool
hidden [] r = false
hidden (q ∷ earlier) r = either (hides q r) (hidden earlier r)

-- The winning ones of the fields that stand after those that were read as `earlier`.
unfoldable pub winning_after : List Reading → List Field → List Field
winning_after earlier [] = []
winning_after earlier (f ∷ fs) =
    let rest = winning_after (reading f.text ∷ earlier) fs in
    pick (both (can_win (reading f.text)) (not (hidden earlier (reading f.text)))) (f ∷ rest) rest

-- "Where the answer is present, that first field is the winning field of the pair of name and kind, and the pair is live; no other
-- field wins." (The statement `WinningFields` of the crate demands says the same by `lookup` alone.)
unfoldable pub winning : List Field → List Field
winning fs = winning_after [] fs

-- ---- what was read before

-- The readings of fields, those of later ones first, before `earlier`.
unfoldable pub read_before : List Reading → List Field → List Reading
read_before earlier [] = earlier
read_before earlier (f ∷ fs) = read_before (reading f.text ∷ earlier) fs

-- Whether a field of that name and kind (0: a cancel of that name) is among those that were read.
unfoldable pub met : List ℕ → ℕ → List Reading → Bool
met id k [] = false
met id k (q ∷ qs) = either (matches id k q) (met id k qs)

-- ---- the value of a field, and its decoded bytes

unfoldable pub value_of : Reading → ℕ
value_of malformed = 0
value_of ignored = 0
value_of (link n) = 0
value_of (capability a b c) = content_value c

unfoldable pub bytes_of : Reading → List ℕ
bytes_of malformed = []
bytes_of ignored = []
bytes_of (link n) = []
bytes_of (capability a b c) = content_bytes c
