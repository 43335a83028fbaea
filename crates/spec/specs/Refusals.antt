-- Refusal numbers (document 01, "Refusal numbers"), and the inputs that 1, 2 and 3 are about.
use Rattle.std.specs.Prelude.{ℕ, Bool, true, false, not, List, [], ◌∷◌, eqb, ltb, length}
use Rattle.spec.specs.Choice.{both, either, between}
use Rattle.spec.specs.declared.Refusal.{Refusal}
use Rattle.spec.specs.declared.Refusal.TheVariants.{
  BadName,
  BadId,
  DatabaseTooLarge,
  UnknownName,
  LostLink,
  Malformed,
  Cycle,
  ChainTooLarge,
  NoRoom,
  UnknownSequence,
  TooFewParameters,
  OutOfRange,
  BadPadding,
  TooManyLines,
  PartialQuestion,
  BadEnds,
  InvalidState,
}

abbrev pub refusal_number : Refusal → ℕ
refusal_number BadName = 1
refusal_number BadId = 2
refusal_number DatabaseTooLarge = 3
refusal_number UnknownName = 4
refusal_number LostLink = 5
refusal_number Malformed = 6
refusal_number Cycle = 7
refusal_number ChainTooLarge = 8
refusal_number NoRoom = 9
refusal_number UnknownSequence = 10
refusal_number TooFewParameters = 11
refusal_number OutOfRange = 12
refusal_number BadPadding = 13
refusal_number TooManyLines = 14
refusal_number PartialQuestion = 15
refusal_number BadEnds = 16
refusal_number InvalidState = 17

-- ---- 1: an asked name is 1 to 64 bytes of 32..126, none a bar (124), a colon (58) or a backslash (92)

unfoldable pub name_byte : ℕ → Bool
name_byte b = both (between 32 126 b) (not (either (eqb b 124) (either (eqb b 58) (eqb b 92))))

unfoldable pub name_bytes : List ℕ → Bool
name_bytes [] = true
name_bytes (b ∷ l) = both (name_byte b) (name_bytes l)

unfoldable pub good_name : List ℕ → Bool
good_name n = both (between 1 64 (length n)) (name_bytes n)

-- ---- 2: an id is two bytes 33..126, none a colon or a backslash; it does not start with a dot (46), and is not `tc` (116 99)

unfoldable pub id_byte : ℕ → Bool
id_byte b = both (between 33 126 b) (not (either (eqb b 58) (eqb b 92)))

unfoldable pub is_tc : ℕ → ℕ → Bool
is_tc a b = both (eqb a 116) (eqb b 99)

unfoldable pub id_bytes : ℕ → ℕ → Bool
id_bytes a b = both (both (id_byte a) (id_byte b)) (not (either (eqb a 46) (is_tc a b)))

unfoldable pub good_id : List ℕ → Bool
good_id [] = false
good_id (a ∷ []) = false
good_id (a ∷ b ∷ []) = id_bytes a b
good_id (a ∷ b ∷ c ∷ l) = false

-- ---- 3: a database over 1,048,576 bytes

unfoldable pub too_large : List ℕ → Bool
too_large db = ltb 1048576 (length db)
