-- The table: a byte for each name of two bytes 33..126, with a bit for a cancel (0) and for each kind by its number; and the readings
-- that were met when a table has their marks.
use Rattle.std.specs.Prelude.{ℕ, zero, suc, ◌+◌, ◌-◌, ◌*◌, ◌/◌, ◌%◌, ◌≡◌, Bool, true, false, not, List, [], ◌∷◌, eqb, leb, length, get_or, set}
use Rattle.spec.specs.Choice.{pick, both, either, between}
use Rattle.spec.specs.Fields.{Reading}
use Rattle.spec.specs.Lookup.{met}

-- ---- a byte

-- Its bits, from the lowest on.
unfoldable pub bit_of : ℕ → ℕ → ℕ
bit_of zero x = x % 2
bit_of (suc k) x = bit_of k (x / 2)

-- The byte with that bit set.
unfoldable pub with_bit : ℕ → ℕ → ℕ
with_bit zero x = x / 2 * 2 + 1
with_bit (suc k) x = with_bit k (x / 2) * 2 + x % 2

-- Neither the cancel's bit nor that of the number is set.
unfoldable pub is_open : ℕ → ℕ → Bool
is_open k x = not (either (eqb (bit_of 0 x) 1) (eqb (bit_of k x) 1))

-- ---- the table

-- Whether the table has a place for a name and the number of a kind.
unfoldable pub has_entry : ℕ → ℕ → ℕ → Bool
has_entry a b k = both (both (between 33 126 a) (between 33 126 b)) (leb k 3)

abbrev pub key_of : ℕ → ℕ → ℕ
key_of a b = (a - 33) * 94 + (b - 33)

-- `meet`: whether the capability is the first, and the table with its mark.
unfoldable pub is_first : List ℕ → ℕ → ℕ → ℕ → Bool
is_first table a b k = pick (has_entry a b k) (is_open k (get_or table (key_of a b) 0)) true

unfoldable pub marked : List ℕ → ℕ → ℕ → ℕ → List ℕ
marked table a b k = pick (has_entry a b k) (set table (key_of a b) (with_bit k (get_or table (key_of a b) 0))) table

-- ---- the readings that were met

abbrev pub bit : Bool → ℕ
bit true = 1
bit false = 0

-- The table has the marks of these readings, and no others.
pub record Marks (qs : List Reading) (table : List ℕ) : Type 0 where
  pub size : length table ≡ 8836
  pub marks : (a b k : ℕ) → has_entry a b k ≡ true → bit_of k (get_or table (key_of a b) 0) ≡ bit (met (a ∷ b ∷ []) k qs)
