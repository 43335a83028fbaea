-- Document 01's limits hold of the definitions. Assumes nothing.
use Rattle.std.specs.Prelude.{Some, Ok, Err}
use Prim.Native.Nat.{ℕ, ◌+◌, ◌≤◌, ◌<◌}
use mathlib.Core.Path.{◌≡◌, refl, ap}
use mathlib.Core.Bool.{true, false}
use mathlib.Core.List.{List, [], ◌∷◌}
use native.Mathlib.Omega.{arith}
use borrow.Author.Tests.{le-leb, lt-leb, le-ltb, lt-ltb}
use lib.ListN.{length}
use Rattle.spec.specs.Refusals.{name_bytes, good_name, too_large}
use Rattle.spec.specs.Files.{Files, alone, good_ends, contents, line_of, find_from}
use Rattle.spec.specs.Fields.{line_size, malformed_line, no_link, verdict}
use Rattle.spec.specs.Chain.{broken, chain, walk, refused, resolve}
use Rattle.spec.specs.Questions.{terminal_of, shown, show_answer, flag_answer}
use Rattle.spec.specs.Calls.{ascii}
use Rattle.spec.specs.declared.Location.{Location}
use Rattle.spec.specs.declared.Refusal.TheVariants.{DatabaseTooLarge, ChainTooLarge, UnknownName}
use Rattle.spec.proofs.Computing.{computing}
use Rattle.laws.proofs.AcceptedWalk.{sizes, walk_way, way_count, way_fits}
use Rattle.laws.proofs.WalkSteps.{visited_nil, follow_last, follow_big, walk_first}
use Rattle.demands.specs.Limits.{chain_size, thirty_three, Limits}

-- ---- names and databases

name-kept : (name : List ℕ) → 1 ≤ length name → length name ≤ 64 → name_bytes name ≡ true → good_name name ≡ true
unfolding good_name
name-kept name h k e = rw (le-leb 1 (length name) h, le-leb (length name) 64 k, e)

name-refused : (name : List ℕ) → 64 < length name → good_name name ≡ false
unfolding good_name
name-refused name h = rw (le-leb 1 (length name) (omega arith), lt-leb (length name) 64 h)

database_kept : (db : Files) (name : List ℕ) → good_ends db ≡ true → length db.bytes ≤ 1048576 → good_name name ≡ true
    → (terminal_of db name ≡ resolve (contents db) name) × (show_answer db name ≡ shown db (find_from (contents db) 0 name))
unfolding terminal_of show_answer too_large
database_kept db name g h e = (rw (g, e, le-ltb 1048576 (length db.bytes) h), rw (g, e, le-ltb 1048576 (length db.bytes) h))

database_refused : (db : Files) (name : List ℕ) → good_ends db ≡ true → 1048576 < length db.bytes → good_name name ≡ true
    → (terminal_of db name ≡ refused DatabaseTooLarge) × (show_answer db name ≡ Err DatabaseTooLarge)
unfolding terminal_of show_answer too_large
database_refused db name g h e = (rw (g, e, lt-ltb 1048576 (length db.bytes) h), rw (g, e, lt-ltb 1048576 (length db.bytes) h))

-- ---- the size of a chain

size-kept : (db : List (List ℕ)) (name : List ℕ) (p : Location) → find_from db 0 name ≡ Some p → verdict (line_of db p) ≡ no_link
    → line_size (line_of db p) ≤ 16384 → walk db name ≡ chain (p ∷ [])
size-kept db name p e v h = rw (walk_first db name, e) (follow_last db [] 0 UnknownName 0 p (omega arith) (visited_nil p) v (omega (arith, h)))

size-refused : (db : List (List ℕ)) (name : List ℕ) (p : Location) → find_from db 0 name ≡ Some p → (verdict (line_of db p) ≡ malformed_line → ⊥)
    → 16384 < line_size (line_of db p) → walk db name ≡ broken ChainTooLarge
size-refused db name p e v h = rw (walk_first db name, e) (follow_big db [] 0 UnknownName 0 p (omega arith) (visited_nil p) v (omega (arith, h)))

same_size : (db : List (List ℕ)) (ps : List Location) → chain_size db ps ≡ sizes db ps
unfolding chain_size sizes
same_size db [] = refl
same_size db (p ∷ ps) = ap (λ (n : ℕ). line_size (line_of db p) + n) (same_size db ps)

accepted : (db : List (List ℕ)) (name : List ℕ) (ps : List Location) → walk db name ≡ chain ps → (length ps ≤ 32) × (chain_size db ps ≤ 16384)
accepted db name ps w =
    let k = walk_way db name ps w in
    (way_count db k, rw (same_size db ps) (omega (arith, way_fits db k)))

-- ---- 32 descriptions

chain_of_32 : flag_answer (alone thirty_three) (ascii "B") (ascii "am") ≡ (Ok (Some 1))
unfolding computing
chain_of_32 = refl

chain_of_33 : flag_answer (alone thirty_three) (ascii "A") (ascii "am") ≡ Err ChainTooLarge
unfolding computing
chain_of_33 = refl

-- Each number of the statement follows from the definitions' own: another one would not.
pub limits : Limits
limits = record {
  name-kept = λ name h k e. name-kept name (omega (arith, h)) (omega (arith, k)) e;
  name-refused = λ name h. name-refused name (omega (arith, h));
  database_kept = λ db name g h e. database_kept db name g (omega (arith, h)) e;
  database_refused = λ db name g h e. database_refused db name g (omega (arith, h)) e;
  size-kept = λ db name p e v h. size-kept db name p e v (omega (arith, h));
  size-refused = λ db name p e v h. size-refused db name p e v (omega (arith, h));
  accepted = λ db name ps w. let k = accepted db name ps w in (omega (arith, k.0), omega (arith, k.1));
  chain_of_32 = chain_of_32;
  chain_of_33 = chain_of_33;
}
