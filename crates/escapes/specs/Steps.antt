-- What the functions on a string's text answer, by the cases of their answers.
use Rattle.std.specs.Prelude.{ℕ, ◌≤◌, ◌<◌, ◌≡◌, List, [], length, Option, Some, None}
use Rattle.std.proofs.lemmas.List.Edits.{sets}
use Rattle.spec.specs.Strings.{bad, good, emit, Mode, plain, slash, caret, one_digit, two_digits, escaped, decode}
use Rattle.field_bounds.specs.Answers.{field_at, Passed}
use Rattle.escapes.specs.declared.TextStep.{TextStep}
use Rattle.escapes.specs.declared.TextStep.TheVariants.{Byte as TextByte, End as TextEnd, Bad as TextBad}
use Rattle.escapes.specs.declared.Measured.{Measured}

-- How many bytes a mode has in hand.
abbrev pub in_hand : Mode → ℕ
in_hand plain = 0
in_hand slash = 1
in_hand caret = 1
in_hand (one_digit v) = 2
in_hand (two_digits v) = 3

-- The readers of a string's text: with a mode in hand, the text of the field at a place stands for a byte and then for what the field at
-- the place that they answer stands for, with so many bytes passed in all; or for nothing more; or it is malformed.
abbrev pub TextBegins : Mode → List ℕ → ℕ → TextStep → Type 0
TextBegins m s at (TextByte v n w) =
    (decode m (field_at s at) ≡ emit v (decode plain (field_at s n))) × (at < n) × (n ≤ length s) × ((p : ℕ) → Passed s p at (in_hand m) → Passed s p n w)
TextBegins m s at TextEnd = decode m (field_at s at) ≡ good []
TextBegins m s at TextBad = decode m (field_at s at) ≡ bad

-- `escape_of`: the byte that a letter after a backslash stands for, or there is no such escape.
abbrev pub Escapes : ℕ → Option ℕ → Type 0
Escapes b (Some v) = (escaped b ≡ v) × (v ≤ 255)
Escapes b None = 255 < escaped b

-- `decode_text`: the bytes that the text of the field at a place stands for are in the buffer from its start on, as far as there is room;
-- or the text is malformed.
abbrev pub Decodes : List ℕ → ℕ → List ℕ → List ℕ → Option ℕ → Type 0
Decodes s at out out' (Some n) = (l : List ℕ) × (decode plain (field_at s at) ≡ good l) × (length l ≡ n) × (out' ≡ sets out 0 l)
Decodes s at out out' None = (decode plain (field_at s at) ≡ bad) × (length out' ≡ length out)

-- The text of the field at a place stands for so many bytes, or it is malformed.
abbrev pub Counted : List ℕ → ℕ → Option ℕ → Type 0
Counted s at (Some n) = (l : List ℕ) × (decode plain (field_at s at) ≡ good l) × (length l ≡ n)
Counted s at None = decode plain (field_at s at) ≡ bad

-- `measure_text`: the count of a text's bytes, and so many bytes of it are passed up to the place where the reader stopped.
abbrev pub Measures : List ℕ → ℕ → Measured → Type 0
Measures s at m = Counted s at m.count × Passed s at m.stop m.passed
