-- The notes of the program tcmend: where a removed thing stands in the file, and what is shown of it.
use Rattle.std.specs.Prelude.{ℕ, zero, suc, ◌+◌, ◌-◌, ◌/◌, ◌%◌, ◌≤◌, ◌≡◌, List, [], ◌∷◌, ◌++◌, eqb, ltb, length, take}
use Rattle.std.proofs.lemmas.List.Edits.{sets}
use Rattle.spec.specs.Choice.{pick, between}
use Rattle.spec.specs.Digits.{written}
use Rattle.spec.specs.Lines.{Text, end, byte, text_at}
use Rattle.removal_notes.specs.declared.Position.{Position}
use Rattle.removal_notes.specs.declared.Spot.{Spot}

-- ---- a place as an editor counts it

-- The line and the column of the byte behind a byte: a newline (10) starts a line, and both count from 1.
unfoldable pub behind : Position → ℕ → Position
behind p b = pick (eqb b 10) (record { row = p.row + 1; column = 1 }) (record { row = p.row; column = p.column + 1 })

unfoldable pub behind_all : Position → List ℕ → Position
behind_all p [] = p
behind_all p (b ∷ l) = behind_all (behind p b) l

unfoldable pub position_at : List ℕ → ℕ → Position
position_at db at = behind_all (record { row = 1; column = 1 }) (take at db)

-- ---- the joined byte that a record names

-- The text from the byte on that stands `place` bytes behind the start of the line of a number, both from 0; no further than that line's
-- closing newline.
unfoldable pub text_from : ℕ → ℕ → Text → Text
text_from zero zero t = t
text_from zero (suc k) end = end
text_from zero (suc k) (byte b n t) = pick (eqb b 10) (byte b n t) (text_from zero k t)
text_from (suc line) place end = end
text_from (suc line) place (byte b n t) = pick (eqb b 10) (text_from line place t) (text_from (suc line) place t)

-- Where the first byte of a text stands in the database, behind the pairs of backslash and newline that vanish before it.
unfoldable pub place_of : ℕ → Text → ℕ
place_of size end = size
place_of size (byte b n t) = n - 1

-- The position of what a record removes.
unfoldable pub position_of : List ℕ → ℕ → ℕ → Position
position_of db line place = position_at db (place_of (length db) (text_from line place (text_at db 0)))

-- ---- what is shown

-- A byte outside 32..126 as a backslash (92) and three octal digits.
unfoldable pub shown_byte : ℕ → List ℕ
shown_byte b = pick (between 32 126 b) (b ∷ []) (92 ∷ (48 + b / 64) ∷ (48 + b / 8 % 8) ∷ (48 + b % 8) ∷ [])

unfoldable pub shown_bytes : ℕ → Text → List ℕ
shown_bytes zero t = []
shown_bytes (suc k) end = []
shown_bytes (suc k) (byte b n t) = shown_byte b ++ shown_bytes k t

-- The first 60 bytes, and three points (46) where there are more.
unfoldable pub shown : ℕ → Text → List ℕ
shown count t = pick (ltb 60 count) (shown_bytes 60 t ++ 46 ∷ 46 ∷ 46 ∷ []) (shown_bytes count t)

-- A note: the path, the line and the column, what was removed and why, and its bytes, with colons (58) and spaces (32) between them.
unfoldable pub place_text : List ℕ → Position → List ℕ
place_text path p = path ++ 58 ∷ written 10 1 p.row ++ 58 ∷ written 10 1 p.column ++ 58 ∷ 32 ∷ []

unfoldable pub note : List ℕ → Position → List ℕ → List ℕ → List ℕ
note path p reason bytes = place_text path p ++ reason ++ 58 ∷ 32 ∷ [] ++ bytes ++ 10 ∷ []

-- ---- what the functions keep

-- A spot names the byte of its line and place: the text from there on, and the position of its place.
pub record Stands (db : List ℕ) (s : Spot) : Type 0 where
  pub inside : s.at ≤ length db
  pub text : text_at db s.at ≡ text_from s.line s.place (text_at db 0)
  pub position : s.position ≡ position_at db s.at

-- Bytes are stored in a buffer from a place on, and the place behind them is answered.
pub record Put (bytes out : List ℕ) (at : ℕ) (out' : List ℕ) (r : ℕ) : Type 0 where
  pub place : r ≡ at + length bytes
  pub stored : out' ≡ sets out at bytes
