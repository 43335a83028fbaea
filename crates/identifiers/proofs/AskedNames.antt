-- Asked names and ids as they are tested, byte by byte.
-- Assumes nothing.
use Prim.Native.Nat.{ℕ, ◌≤◌, ◌<◌}
use mathlib.Core.Path.{◌≡◌, refl, sym}
use mathlib.Core.Bool.{Bool, true, false, ◌&&◌}
use mathlib.Core.List.{List, [], ◌∷◌}
use native.Mathlib.Omega.{arith}
use borrow.Author.Tests.{le-leb, lt-leb}
use lib.Dec.{leb}
use lib.ListN.{length, get_or}
use Rattle.std.specs.List.{list_all}
use Rattle.spec.specs.Choice.{both}
use Rattle.spec.specs.Refusals.{name_byte, name_bytes, good_name, id_bytes, good_id}
use Rattle.laws.proofs.Tests.{clash, both_false}

-- ---- ids

pub id_other : (id : List ℕ) → (length id ≡ 2 → ⊥) → good_id id ≡ false
unfolding good_id
id_other [] h = refl
id_other (a ∷ []) h = refl
id_other (a ∷ b ∷ []) h = absurd (h refl)
id_other (a ∷ b ∷ c ∷ l) h = refl

pub id_two : (id : List ℕ) → length id ≡ 2 → good_id id ≡ id_bytes (get_or id 0 0) (get_or id 1 0)
unfolding good_id
id_two [] h = absurd (omega arith)
id_two (a ∷ []) h = absurd (omega arith)
id_two (a ∷ b ∷ []) h = refl
id_two (a ∷ b ∷ c ∷ l) h = absurd (omega arith)

pub id_is : (id : List ℕ) → good_id id ≡ true → id ≡ get_or id 0 0 ∷ get_or id 1 0 ∷ []
unfolding good_id
id_is [] h = clash (sym h)
id_is (a ∷ []) h = clash (sym h)
id_is (a ∷ b ∷ []) h = refl
id_is (a ∷ b ∷ c ∷ l) h = clash (sym h)

pub id_length : (id : List ℕ) → good_id id ≡ true → length id ≡ 2
unfolding good_id
id_length [] h = clash (sym h)
id_length (a ∷ []) h = clash (sym h)
id_length (a ∷ b ∷ []) h = refl
id_length (a ∷ b ∷ c ∷ l) h = clash (sym h)

-- ---- names

bytes_all : (l : List ℕ) → name_bytes l ≡ list_all name_byte l
unfolding name_bytes
bytes_all [] = refl
bytes_all (b ∷ l) = rw (bytes_all l) (go (name_byte b))
  where
    go : (x : Bool) → both x (list_all name_byte l) ≡ (x && list_all name_byte l)
    go true = refl
    go false = refl

module _ (n : List ℕ) where
  pub name_empty : length n < 1 → good_name n ≡ false
  unfolding good_name
  name_empty h = rw (lt-leb 1 (length n) h)

  pub name_long : 64 < length n → good_name n ≡ false
  unfolding good_name
  name_long h = rw (lt-leb (length n) 64 h, both_false (leb 1 (length n)))

  pub name_within : 1 ≤ length n → length n ≤ 64 → good_name n ≡ list_all name_byte n
  unfolding good_name
  name_within h k = rw (le-leb 1 (length n) h, le-leb (length n) 64 k) (bytes_all n)
