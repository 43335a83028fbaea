-- "Fields": the text of a string as it is written, and the bytes that it stands for.
use Rattle.std.specs.Prelude.{ℕ, ◌+◌, ◌-◌, ◌*◌, ◌%◌, Bool, List, [], ◌∷◌, eqb, leb}
use Rattle.spec.specs.Choice.{pick, both, between}
use Rattle.spec.specs.Digits.{is_digit}

-- What a text stands for: nothing, as it is malformed, or its bytes.
pub data Decoded : Type 0 where
  bad : Decoded
  good : List ℕ → Decoded

unfoldable pub emit : ℕ → Decoded → Decoded
emit b bad = bad
emit b (good l) = good (b ∷ l)

-- "It is read from left to right": what the reader has in hand is nothing, a backslash, a caret, or a backslash and one or two octal
-- digits with their value.
pub data Mode : Type 0 where
  plain : Mode
  slash : Mode
  caret : Mode
  one_digit : ℕ → Mode
  two_digits : ℕ → Mode

-- The byte for a letter after a backslash: \E \n \r \t \b \f \^ \\; or 256, as there is no such escape.
unfoldable pub escaped : ℕ → ℕ
escaped b =
    pick (eqb b 69) 27
    (pick (eqb b 110) 10
    (pick (eqb b 114) 13
    (pick (eqb b 116) 9
    (pick (eqb b 98) 8
    (pick (eqb b 102) 12
    (pick (eqb b 94) 94
    (pick (eqb b 92) 92 256)))))))

-- The byte for a byte 63..126 after a caret: "`^?` is 127, else the byte modulo 32".
unfoldable pub control : ℕ → ℕ
control b = pick (eqb b 63) 127 (b % 32)

abbrev pub octal : ℕ → Bool
octal b = is_digit 8 b

-- "It has only bytes 32..126, a bare `\` or `^` excepted", and the escapes; "a backslash and exactly three octal digits up to 377" (255).
unfoldable pub decode : Mode → List ℕ → Decoded
decode plain [] = good []
decode slash [] = bad
decode caret [] = bad
decode (one_digit v) [] = bad
decode (two_digits v) [] = bad
decode plain (b ∷ l) =
    let escape = decode slash l in
    let hat = decode caret l in
    let itself = emit b (decode plain l) in
    pick (eqb b 92) escape (pick (eqb b 94) hat (pick (between 32 126 b) itself bad))
decode slash (b ∷ l) =
    let number = decode (one_digit (b - 48)) l in
    let letter = emit (escaped b) (decode plain l) in
    pick (octal b) number (pick (leb (escaped b) 255) letter bad)
decode caret (b ∷ l) =
    let byte = emit (control b) (decode plain l) in
    pick (between 63 126 b) byte bad
decode (one_digit v) (b ∷ l) =
    let more = decode (two_digits (v * 8 + (b - 48))) l in
    pick (octal b) more bad
decode (two_digits v) (b ∷ l) =
    let byte = emit (v * 8 + (b - 48)) (decode plain l) in
    pick (both (octal b) (leb (v * 8 + (b - 48)) 255)) byte bad
