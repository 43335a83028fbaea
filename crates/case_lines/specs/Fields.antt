-- The fields of a line, and the number or the bytes that a field stands for.
use Rattle.std.specs.Prelude.{ℕ, zero, suc, ◌+◌, ◌-◌, ◌*◌, List, [], ◌∷◌, eqb, ltb}
use Rattle.spec.specs.Choice.{pick, between}
use Rattle.spec.specs.Lists.{upto, past}

-- What stands after k bars (124).
unfoldable pub after : ℕ → List ℕ → List ℕ
after zero l = l
after (suc k) l = after k (past 124 l)

abbrev pub field_of : List ℕ → ℕ → List ℕ
field_of line k = upto 124 (after k line)

-- A byte that is no digit counts as 0.
unfoldable pub digit_of : ℕ → ℕ
digit_of b = pick (between 48 57 b) (b - 48) 0

-- The decimal number whose digits were n so far. Once it has nine digits, what follows is left.
unfoldable pub number_from : ℕ → List ℕ → ℕ
number_from n [] = n
number_from n (b ∷ l) =
    let more = number_from (n * 10 + digit_of b) l in
    pick (ltb 99999999 n) n more

abbrev pub number_of : List ℕ → ℕ → ℕ
number_of line k = number_from 0 (field_of line k)

unfoldable pub hex_digit_of : ℕ → ℕ
hex_digit_of b = pick (between 97 102 b) (b - 97 + 10) (digit_of b)

-- A backslash (92) stands with the two bytes after it, if there are two, for one byte; every other byte stands for itself.
unfoldable pub bytes_of : List ℕ → List ℕ
bytes_of [] = []
bytes_of (b ∷ []) = b ∷ []
bytes_of (b ∷ c ∷ []) = b ∷ c ∷ []
bytes_of (b ∷ c ∷ d ∷ l) =
    let pair = (16 * hex_digit_of c + hex_digit_of d) ∷ bytes_of l in
    let itself = b ∷ bytes_of (c ∷ d ∷ l) in
    pick (eqb b 92) pair itself

abbrev pub text_of : List ℕ → ℕ → List ℕ
text_of line k = bytes_of (field_of line k)
