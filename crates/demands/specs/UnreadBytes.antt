-- Ask 5: "bytes after the last end aren't read". Two buffers of one length that agree up to there have the same answers, whatever the ends.
use Rattle.std.specs.Prelude.{ℕ, ◌≡◌, List, [], ◌∷◌, length, take}
use Rattle.spec.specs.Files.{Files, files}
use Rattle.spec.specs.Questions.{show_answer, shown_bytes, flag_answer, number_answer, string_outcome}
use Rattle.spec.specs.Search.{search_answer}
use Rattle.spec.specs.Listing.{list_outcome, flat_outcome}
use Rattle.spec.specs.Batch.{batch_outcome}

-- The last end, and 0 where there is none.
unfoldable pub last_end : List ℕ → ℕ
last_end [] = 0
last_end (e ∷ []) = e
last_end (e ∷ f ∷ es) = last_end (f ∷ es)

-- Every operation that takes ends; of Show also the bytes of its part.
pub record SameAnswers (db other : Files) : Type 0 where
  pub show : (name : List ℕ) → show_answer db name ≡ show_answer other name
  pub shown-bytes : (name : List ℕ) → shown_bytes db.bytes (show_answer db name) ≡ shown_bytes other.bytes (show_answer other name)
  pub search : (name : List ℕ) → search_answer db name ≡ search_answer other name
  pub flag : (name id : List ℕ) → flag_answer db name id ≡ flag_answer other name id
  pub number : (name id : List ℕ) → number_answer db name id ≡ number_answer other name id
  pub string : (name id buffer : List ℕ) → string_outcome db name id buffer ≡ string_outcome other name id buffer
  pub list : (name buffer : List ℕ) → list_outcome db name buffer ≡ list_outcome other name buffer
  pub flat : (name buffer : List ℕ) → flat_outcome db name buffer ≡ flat_outcome other name buffer
  pub batch : (name questions buffer : List ℕ) → batch_outcome db name questions buffer ≡ batch_outcome other name questions buffer

-- THE STATEMENT. Its proof is proofs/UnreadBytes.
abbrev pub Unread : Type 0
Unread = (bytes others ends : List ℕ) → length bytes ≡ length others → take (last_end ends) bytes ≡ take (last_end ends) others
    → SameAnswers (files bytes ends) (files others ends)
