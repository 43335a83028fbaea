-- The search that counts: it finds a name exactly where the search for a line does, it counts list by list, and there are not more names
-- than bytes and files.
-- Assumes nothing.
use Rattle.std.specs.Prelude.{Option, Some, None}
use Prim.Native.Nat.{ℕ, suc, ◌+◌, ◌-◌, ◌≤◌}
use mathlib.Core.Path.{◌≡◌, refl}
use mathlib.Core.Bool.{Bool, true, false, not}
use mathlib.Core.List.{List, [], ◌∷◌, ◌++◌}
use native.Mathlib.Omega.{arith}
use borrow.Author.Tests.{leb-true}
use lib.Dec.{eqb, leb}
use lib.ListN.{length, take, drop, length-append, length-take, length-drop}
use Rattle.spec.specs.Choice.{pick, both, either, between}
use Rattle.spec.specs.Lists.{upto, later_pieces, same, among}
use Rattle.spec.specs.Lines.{Text, end, byte, join, text_at, Line, line_text, later_lines, lines_from, is_ignored, later_names, has_name, find, find_line}
use Rattle.spec.specs.Files.{Files, rising, good_ends, cut_at, contents, or_later, locate, find_from}
use Rattle.spec.specs.Search.{split_names, line_names, names_in, file_names, all_names, counted, compared}
use Rattle.laws.proofs.Tests.{pick_all, both_true}
use Rattle.laws.proofs.FileParts.{good-rising}
use Rattle.spec.specs.declared.Location.{Location}

-- ---- found where the search finds a line

abbrev pub is_found : Option ℕ → Bool
is_found (Some p) = true
is_found None = false

abbrev pub is_located : Option Location → Bool
is_located (Some l) = true
is_located None = false

pub among-append : (n : List ℕ) (a b : List (List ℕ)) → among n (a ++ b) ≡ either (among n a) (among n b)
unfolding among
among-append n [] b = refl
among-append n (m ∷ a) b = rw (among-append n a b) (go (same n m))
  where
    go : (x : Bool) → either x (either (among n a) (among n b)) ≡ either (either x (among n a)) (among n b)
    go true = refl
    go false = refl

find-names : (name : List ℕ) (ls : List Line) → is_found (find name ls) ≡ among name (names_in ls)
unfolding find names_in line_names
find-names name [] = unfold among in refl
find-names name (l ∷ ls) =
    rw (among-append name (line_names l.text) (names_in ls)) (go (is_ignored l.text) (has_name name l.text) refl (find-names name ls))
  where
    go : (x y : Bool) → has_name name l.text ≡ y → is_found (find name ls) ≡ among name (names_in ls)
        → is_found (pick (both (not x) y) (Some l.start) (find name ls))
        ≡ either (among name (pick x [] (split_names l.text))) (among name (names_in ls))
    go true y e ih = unfold among in ih
    go false true e ih = rw e
    go false false e ih = rw e ih

locate-names : (name : List ℕ) (k : ℕ) (fs : List (List ℕ)) → is_located (locate k fs name) ≡ among name (all_names fs)
unfolding locate all_names file_names find_line
locate-names name k [] = unfold among in refl
locate-names name k (f ∷ fs) =
    rw (among-append name (names_in (lines_from 0 (text_at f 0))) (all_names fs), ← find-names name (lines_from 0 (text_at f 0)))
    (go (find name (lines_from 0 (text_at f 0))) (locate-names name (k + 1) fs))
  where
    go : (x : Option ℕ) → is_located (locate (k + 1) fs name) ≡ among name (all_names fs)
        → is_located (or_later k x (locate (k + 1) fs name)) ≡ either (is_found x) (among name (all_names fs))
    go (Some p) ih = refl
    go None ih = ih

pub search-agrees : (name : List ℕ) (fs : List (List ℕ)) → is_located (find_from fs 0 name) ≡ among name (all_names fs)
unfolding find_from
search-agrees name fs = locate-names name 0 fs

-- ---- the count of one list after another: nothing is counted behind an equal name

pub compared-append : (name : List ℕ) (a b : List (List ℕ)) → compared name (a ++ b) ≡ compared name a + pick (among name a) 0 (compared name b)
unfolding compared among
compared-append name [] b = omega arith
compared-append name (m ∷ a) b = rw (compared-append name a b) (go (counted name m) (same name m))
  where
    go : (n : ℕ) (x : Bool)
        → n + pick x 0 (compared name a + pick (among name a) 0 (compared name b))
        ≡ n + pick x 0 (compared name a) + pick (either x (among name a)) 0 (compared name b)
    go n true = omega arith
    go n false = omega arith

-- ---- not more names than bytes and files

counted-most : (name m : List ℕ) → counted name m ≤ 1
unfolding counted
counted-most name m = pick_all (λ (n : ℕ). n ≤ 1) (eqb (length m) (length name)) (omega arith) (omega arith)

compared-most : (name : List ℕ) (ms : List (List ℕ)) → compared name ms ≤ length ms
unfolding compared
compared-most name [] = omega arith
compared-most name (m ∷ ms) = go (same name m) (compared-most name ms)
  where
    go : (x : Bool) → compared name ms ≤ length ms → counted name m + pick x 0 (compared name ms) ≤ suc (length ms)
    go true h = omega (arith, counted-most name m)
    go false h = omega (arith, counted-most name m)

-- The later names of the line at a text's start, and the names of the lines after it.
abbrev later : Text → ℕ
later t = length (later_names (line_text t)) + length (names_in (later_lines t))

first_most : (at : ℕ) (t : Text) → length (names_in (lines_from at t)) ≤ suc (later t)
unfolding names_in line_names
first_most at t = rw (length-append (line_names (line_text t)) (names_in (later_lines t))) (go (is_ignored (line_text t)))
  where
    go : (x : Bool) → length (pick x [] (split_names (line_text t))) + length (names_in (later_lines t)) ≤ suc (later t)
    go true = omega arith
    go false = omega arith

later_byte : (b n : ℕ) (t : Text) → later (byte b n t) ≤ suc (later t)
unfolding later_names line_text later_lines upto later_pieces
later_byte b n t = go (eqb b 10)
  where
    colon : (x : Bool)
        → length (later_pieces 124 (pick x [] (b ∷ upto 58 (line_text t)))) + length (names_in (later_lines t)) ≤ suc (later t)
    colon true = omega arith
    colon false = bar (eqb b 124)
      where
        bar : (z : Bool)
            → length (pick z (upto 124 (upto 58 (line_text t)) ∷ later_pieces 124 (upto 58 (line_text t))) (later_pieces 124 (upto 58 (line_text t))))
            + length (names_in (later_lines t)) ≤ suc (later t)
        bar true = omega arith
        bar false = omega arith

    go : (x : Bool)
        → length (later_pieces 124 (upto 58 (pick x [] (b ∷ line_text t))))
        + length (names_in (pick x (record { start = n; text = line_text t } ∷ later_lines t) (later_lines t))) ≤ suc (later t)
    go true = omega (arith, first_most n t)
    go false = colon (eqb b 58)

later_most : (at : ℕ) (s : List ℕ) → later (join at s) ≤ length s
unfolding join
later_most at [] = unfold line_text later_lines later_names upto later_pieces names_in in omega arith
later_most at (b ∷ []) = omega (arith, later_byte b (at + 1) end, later_most (at + 1) [])
later_most at (b ∷ c ∷ s) = go (both (eqb b 92) (eqb c 10)) (later_most (at + 1 + 1) s) (later_most (at + 1) (c ∷ s))
  where
    go : (x : Bool) → later (join (at + 1 + 1) s) ≤ length s → later (join (at + 1) (c ∷ s)) ≤ suc (length s)
        → later (pick x (join (at + 1 + 1) s) (byte b (at + 1) (join (at + 1) (c ∷ s)))) ≤ suc (suc (length s))
    go true h k = omega arith
    go false h k = omega (arith, later_byte b (at + 1) (join (at + 1) (c ∷ s)))

names-most : (f : List ℕ) → length (file_names f) ≤ suc (length f)
unfolding file_names text_at
names-most f = omega (arith, first_most 0 (join 0 f), later_most 0 f)

rising-most : (bytes ends : List ℕ) (from : ℕ) → rising from (length bytes) ends ≡ true → from ≤ length bytes
    → length (all_names (cut_at from bytes ends)) + from ≤ length bytes + length ends
unfolding rising cut_at all_names
rising-most bytes [] from r h = omega arith
rising-most bytes (e ∷ es) from r h =
    let w = both_true (between from (length bytes) e) (rising e (length bytes) es) r in
    let b = both_true (leb from e) (leb e (length bytes)) w.0 in
    let n = simp (length-take, length-drop) at (names-most (take (e - from) (drop from bytes))) in
    rw (length-append (file_names (take (e - from) (drop from bytes))) (all_names (cut_at e bytes es)))
    (omega (arith, n, leb-true from e b.0, rising-most bytes es e w.1 (leb-true e (length bytes) b.1)))

pub count_most : (db : Files) (name : List ℕ) → good_ends db ≡ true → compared name (all_names (contents db)) ≤ length db.bytes + length db.ends
unfolding contents
count_most db name good =
    omega (arith, compared-most name (all_names (cut_at 0 db.bytes db.ends)), rising-most db.bytes db.ends 0 (good-rising db good) (omega arith))
