-- The table of what answers: marks for each name, and a value for each name and kind.
use Rattle.std.specs.Prelude.{ℕ, zero, suc, ◌+◌, ◌-◌, ◌*◌, ◌%◌, ◌≤◌, ◌≡◌, Bool, true, List, [], ◌∷◌, eqb, length, get_or, set, Option, Some, None, Result, Ok}
use Rattle.spec.specs.Choice.{pick, both}
use Rattle.spec.specs.Fields.{reading}
use Rattle.spec.specs.Chain.{Field}
use Rattle.spec.specs.Lookup.{hit, lookup, cancelled, is_live, value_of}
use Rattle.capability_table.specs.Table.{bit_of, with_bit, is_open, has_entry, key_of, bit}
use Rattle.spec.specs.declared.Refusal.{Refusal}

abbrev pub value_key : ℕ → ℕ → ℕ → ℕ
value_key a b k = (k - 1) * 8836 + key_of a b

-- `keep`: whether the capability answers, the marks with it, and the values with its own.
unfoldable pub answers_now : List ℕ → ℕ → ℕ → ℕ → Bool
answers_now marks a b k = both (has_entry a b k) (is_open k (get_or marks (key_of a b) 0))

abbrev pub kept_marks : List ℕ → ℕ → ℕ → ℕ → List ℕ
kept_marks marks a b k = pick (answers_now marks a b k) (set marks (key_of a b) (with_bit k (get_or marks (key_of a b) 0))) marks

abbrev pub kept_values : List ℕ → List ℕ → ℕ → ℕ → ℕ → ℕ → List ℕ
kept_values marks values a b k v = pick (answers_now marks a b k) (set values (value_key a b k) (v % 65536)) values

-- `kept_answer`
unfoldable pub is_kept : List ℕ → ℕ → ℕ → ℕ → Bool
is_kept marks a b k = both (has_entry a b k) (eqb (bit_of k (get_or marks (key_of a b) 0)) 1)

abbrev pub kept_answer : List ℕ → List ℕ → ℕ → ℕ → ℕ → Result (Option ℕ) Refusal
kept_answer marks values a b k = pick (is_kept marks a b k) (Ok (Some (get_or values (value_key a b k) 0))) (Ok None)

-- ---- the fields that were passed

-- What a mark says: of 0 that a cancel of the name was passed, of a kind's number that the lookup answers.
abbrev pub is_marked : List ℕ → ℕ → List Field → Bool
is_marked id zero fs = cancelled id fs
is_marked id (suc k) fs = is_live id (suc k) fs

-- The tables say what the lookup over these fields answers for each name and kind; the values are kept modulo 65,536.
pub record Answering (fs : List Field) (marks values : List ℕ) : Type 0 where
  pub marks-size : length marks ≡ 8836
  pub values-size : length values ≡ 26508
  pub marked : (a b k : ℕ) → has_entry a b k ≡ true → bit_of k (get_or marks (key_of a b) 0) ≡ bit (is_marked (a ∷ b ∷ []) k fs)
  pub kept : (a b k : ℕ) (t : List ℕ) → has_entry a b k ≡ true → 1 ≤ k → lookup (a ∷ b ∷ []) k fs ≡ hit t
      → get_or values (value_key a b k) 0 ≡ value_of (reading t) % 65536
