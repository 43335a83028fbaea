-- Document 01's limits, in its own numbers, each from both sides: 64 bytes of a name, 1,048,576 of a database, 16,384 of a chain, and 32
-- descriptions. The limit of a number, 65,535, is held by the rulings of `spec` (specs/Rulings).
use Rattle.std.specs.Prelude.{ℕ, ◌+◌, ◌≤◌, ◌<◌, ◌≡◌, true, false, List, [], ◌∷◌, ◌++◌, length, Some, Ok, Err}
use Rattle.spec.specs.Refusals.{name_bytes, good_name}
use Rattle.spec.specs.Files.{Files, alone, good_ends, contents, line_of, find_from}
use Rattle.spec.specs.Fields.{line_size, malformed_line, no_link, verdict}
use Rattle.spec.specs.Chain.{broken, chain, walk, refused, resolve}
use Rattle.spec.specs.Questions.{terminal_of, shown, show_answer, flag_answer}
use Rattle.spec.specs.Calls.{ascii}
use Rattle.spec.specs.declared.Location.{Location}
use Rattle.spec.specs.declared.Refusal.TheVariants.{DatabaseTooLarge, ChainTooLarge}

-- "The chain's size is their sum": of these lines.
unfoldable pub chain_size : List (List ℕ) → List Location → ℕ
chain_size fs [] = 0
chain_size fs (p ∷ ps) = line_size (line_of fs p) + chain_size fs ps

-- A database with a description for each letter, which links to the next; the last one has the flag `am`.
abbrev pub linked : List ℕ → List ℕ
linked [] = []
linked (a ∷ []) = a ∷ ascii ":am:\n"
linked (a ∷ b ∷ l) = a ∷ ascii ":tc=" ++ b ∷ ascii ":\n" ++ linked (b ∷ l)

-- It has 33 descriptions.
abbrev pub thirty_three : List ℕ
thirty_three = linked (ascii "ABCDEFGHIJKLMNOPQRSTUVWXYZabcdefg")

-- THE STATEMENT. Its proof is proofs/Limits.
pub record Limits : Type 0 where
  pub name-kept : (name : List ℕ) → 1 ≤ length name → length name ≤ 64 → name_bytes name ≡ true → good_name name ≡ true
  pub name-refused : (name : List ℕ) → 64 < length name → good_name name ≡ false
  -- "limit 3 is for all of it"
  pub database_kept : (db : Files) (name : List ℕ) → good_ends db ≡ true → length db.bytes ≤ 1048576 → good_name name ≡ true
      → (terminal_of db name ≡ resolve (contents db) name) × (show_answer db name ≡ shown db (find_from (contents db) 0 name))
  pub database_refused : (db : Files) (name : List ℕ) → good_ends db ≡ true → 1048576 < length db.bytes → good_name name ≡ true
      → (terminal_of db name ≡ refused DatabaseTooLarge) × (show_answer db name ≡ Err DatabaseTooLarge)
  pub size-kept : (fs : List (List ℕ)) (name : List ℕ) (p : Location) → find_from fs 0 name ≡ Some p → verdict (line_of fs p) ≡ no_link
      → line_size (line_of fs p) ≤ 16384 → walk fs name ≡ chain (p ∷ [])
  pub size-refused : (fs : List (List ℕ)) (name : List ℕ) (p : Location) → find_from fs 0 name ≡ Some p → (verdict (line_of fs p) ≡ malformed_line → ⊥)
      → 16384 < line_size (line_of fs p) → walk fs name ≡ broken ChainTooLarge
  pub accepted : (fs : List (List ℕ)) (name : List ℕ) (ps : List Location) → walk fs name ≡ chain ps → (length ps ≤ 32) × (chain_size fs ps ≤ 16384)
  pub chain_of_32 : flag_answer (alone thirty_three) (ascii "B") (ascii "am") ≡ (Ok (Some 1))
  pub chain_of_33 : flag_answer (alone thirty_three) (ascii "A") (ascii "am") ≡ Err ChainTooLarge
