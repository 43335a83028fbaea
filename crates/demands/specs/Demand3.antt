-- DEMAND 3, in document 01's words ("Words of demand 3"): the listing, the questions and the one-line description agree.
use Rattle.std.specs.Prelude.{ℕ, zero, suc, ◌+◌, ◌*◌, ◌≤◌, ◌≡◌, ◌↔◌, Bool, List, [], ◌∷◌, ◌++◌, map, eqb, length, take, drop, get_or, set, Option, Some, Result, Ok, Err}
use Rattle.spec.specs.Choice.{pick, both}
use Rattle.spec.specs.Lists.{same}
use Rattle.spec.specs.Fields.{kind_number}
use Rattle.spec.specs.Files.{Files, alone}
use Rattle.spec.specs.Chain.{Field, terminal}
use Rattle.spec.specs.Lookup.{winning}
use Rattle.spec.specs.Answers.{Outcome}
use Rattle.spec.specs.Questions.{terminal_of, flag_answer, number_answer, string_outcome}
use Rattle.spec.specs.Listing.{records, list_outcome, flat_outcome}
use Rattle.spec.specs.declared.Kind.{Kind}
use Rattle.spec.specs.declared.Kind.TheVariants.{Flag, Number, String}
use Rattle.spec.specs.declared.Refusal.TheVariants.{NoRoom}
use Rattle.spec.specs.declared.Refusal.{Refusal}

-- "The chain of a database and a name is accepted when none of refusals 1 and 3 to 8 applies to the two", "accepted there also means that
-- 16 doesn't apply": there is a terminal, with these names and joined fields.
abbrev pub Accepted : Files → List ℕ → List ℕ → List Field → Type 0
Accepted db name names fs = terminal_of db name ≡ terminal names fs

-- "There is room for a call when 9 doesn't apply to it."
abbrev pub HasRoom : Result ℕ Refusal → Type 0
HasRoom w = w ≡ Err NoRoom → ⊥

-- "A question is Flag, Number or String." Only String uses the lent buffer.
abbrev pub question : Kind → Files → List ℕ → List ℕ → List ℕ → Result (Option ℕ) Refusal
question Flag db name id lent = flag_answer db name id
question Number db name id lent = number_answer db name id
question String db name id lent = (string_outcome db name id lent).answer

abbrev pub QuestionHasRoom : Result (Option ℕ) Refusal → Type 0
QuestionHasRoom a = a ≡ Err NoRoom → ⊥

-- ---- what a call wrote

abbrev pub count : Result ℕ Refusal → ℕ
count (Ok n) = n
count (Err r) = 0

-- So many records of a size, cut from bytes.
unfoldable pub cut : ℕ → ℕ → List ℕ → List (List ℕ)
cut size zero l = []
cut size (suc n) l = take size l ∷ cut size n (drop size l)

-- The records of a listing.
unfoldable pub listed : Outcome (Result ℕ Refusal) → List (List ℕ)
listed o = cut 12 (count o.answer) o.buffer

-- "The one-line description is Flat; it stands alone when the bytes that Flat wrote, and no others, are the database"; "the one-line
-- description standing alone is a single file".
unfoldable pub one_line : Outcome (Result ℕ Refusal) → List ℕ
one_line o = take (count o.answer) o.buffer

-- ---- records

unfoldable pub big_endian : ℕ → List ℕ → ℕ
big_endian v [] = v
big_endian v (b ∷ l) = big_endian (v * 256 + b) l

-- Whether a record has this name and this kind, and whether it has this value too.
unfoldable pub is_of : List ℕ → ℕ → List ℕ → Bool
is_of id k r = both (same id (take 2 r)) (eqb k (get_or r 2 0))

unfoldable pub tells : List ℕ → ℕ → ℕ → List ℕ → Bool
tells id k v r = both (is_of id k r) (eqb (big_endian 0 (take 4 (drop 4 r))) v)

-- How many records have this name and kind, and how many have this value too.
unfoldable pub pairs : List ℕ → ℕ → List (List ℕ) → ℕ
pairs id k [] = 0
pairs id k (r ∷ rs) = pick (is_of id k r) 1 0 + pairs id k rs

unfoldable pub occurrences : List ℕ → ℕ → ℕ → List (List ℕ) → ℕ
occurrences id k v [] = 0
occurrences id k v (r ∷ rs) = pick (tells id k v r) 1 0 + occurrences id k v rs

-- A record with place 0 and file 0.
abbrev pub at_place_zero : List ℕ → List ℕ
at_place_zero r = set (set r 3 0) 8 0

-- ---- the demand

pub record Demand3 (db : Files) (name : List ℕ) (fs : List Field) : Type 0 where
  -- the listing is the records of the winning fields in their order, the number reported is their number, and the rest of the buffer stays
  pub listing : (buffer : List ℕ) → HasRoom (list_outcome db name buffer).answer
      → list_outcome db name buffer ≡ record {
        answer = Ok (length (winning fs));
        buffer = records (winning fs) ++ drop (length (records (winning fs)))
            buffer;
      }
  -- a name, kind and value are in the listing exactly once if and only if the question finds them
  pub found : (k : Kind) (id : List ℕ) (v : ℕ) (buffer lent : List ℕ) → HasRoom (list_outcome db name buffer).answer
      → QuestionHasRoom (question k db name id lent)
      → (occurrences id (kind_number k) v (listed (list_outcome db name buffer)) ≡ 1) ↔ (question k db name id lent ≡ (Ok (Some v)))
  -- a pair of name and kind is never there twice, whatever the values
  pub once : (k : Kind) (id buffer : List ℕ) → HasRoom (list_outcome db name buffer).answer → pairs id (kind_number k) (listed (list_outcome db name buffer)) ≤ 1
  -- Flat alone answers each question as the whole chain does, refusals and buffers included
  pub flag : (buffer : List ℕ) → HasRoom (flat_outcome db name buffer).answer → (id : List ℕ)
      → flag_answer (alone (one_line (flat_outcome db name buffer))) name id ≡ flag_answer db name id
  pub number : (buffer : List ℕ) → HasRoom (flat_outcome db name buffer).answer → (id : List ℕ)
      → number_answer (alone (one_line (flat_outcome db name buffer))) name id ≡ number_answer db name id
  pub string : (buffer : List ℕ) → HasRoom (flat_outcome db name buffer).answer → (id lent : List ℕ)
      → string_outcome (alone (one_line (flat_outcome db name buffer))) name id lent ≡ string_outcome db name id lent
  -- "listing Flat gives the same records with place 0", "listing Flat gives file 0"
  pub listing-flat : (buffer : List ℕ) → HasRoom (flat_outcome db name buffer).answer
      → (lent : List ℕ) → HasRoom (list_outcome db name lent).answer
      → ((list_outcome (alone (one_line (flat_outcome db name buffer))) name lent).answer ≡ (list_outcome db name lent).answer)
      × (listed (list_outcome (alone (one_line (flat_outcome db name buffer))) name lent) ≡ map at_place_zero (listed (list_outcome db name lent)))
  -- "Flat of Flat gives the same bytes"
  pub flat-flat : (buffer : List ℕ) → HasRoom (flat_outcome db name buffer).answer → (lent : List ℕ)
      → flat_outcome (alone (one_line (flat_outcome db name buffer))) name lent ≡ flat_outcome db name lent

-- THE STATEMENT: all this holds of every accepted chain. Its proof is proofs/Demand3.
abbrev pub EveryAccepted : Type 0
EveryAccepted = (db : Files) (name names : List ℕ) (fs : List Field) → Accepted db name names fs → Demand3 db name fs
