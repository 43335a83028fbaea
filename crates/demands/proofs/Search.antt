-- The search that counts tells what Show finds, and counts the names that the request names. Assumes nothing.
use Rattle.std.specs.Prelude.{Option, Some, None, Result, Ok, Err}
use Prim.Native.Nat.{ℕ, ◌+◌, ◌≤◌}
use mathlib.Core.Path.{◌≡◌, refl, ap}
use mathlib.Core.Bool.{Bool, true, false}
use mathlib.Core.Logic.{inl, inr}
use mathlib.Core.List.{List, [], ◌∷◌, ◌++◌}
use native.Mathlib.Omega.{arith}
use lib.ListN.{length}
use Rattle.spec.specs.Choice.{pick, either}
use Rattle.spec.specs.Lists.{same, among}
use Rattle.spec.specs.Refusals.{good_name, too_large}
use Rattle.spec.specs.Files.{Files, good_ends, contents, find_from}
use Rattle.spec.specs.Questions.{shown, show_answer}
use Rattle.spec.specs.Search.{all_names, counted, compared, told, search_answer}
use Rattle.spec.specs.declared.Refusal.TheVariants.{BadName, DatabaseTooLarge, BadEnds}
use Rattle.laws.proofs.Tests.{clash}
use Rattle.laws.proofs.WholeLines.{equal_same}
use Rattle.laws.proofs.CountedNames.{is_located, search-agrees, count_most}
use Rattle.demands.specs.Search.{ShownWhere, of_length, SearchCounts}
use Rattle.spec.specs.declared.Refusal.{Refusal}
use Rattle.spec.specs.declared.Location.{Location}
use Rattle.spec.specs.declared.Tally.{Tally}

agrees : (db : Files) (name : List ℕ) → ShownWhere (show_answer db name) (search_answer db name)
unfolding show_answer search_answer shown
agrees db name =
    go (good_ends db) (good_name name) (too_large db.bytes) (find_from (contents db) 0 name) (among name (all_names (contents db)))
    (search-agrees name (contents db))
  where
    n : ℕ
    n = compared name (all_names (contents db))

    go : (x y z : Bool) (f : Option Location) (b : Bool) → is_located f ≡ b
        → ShownWhere (pick x (pick y (pick z (Err DatabaseTooLarge) (shown db f)) (Err BadName)) (Err BadEnds))
        (pick x (pick y (pick z (Err DatabaseTooLarge) (told b n)) (Err BadName)) (Err BadEnds))
    go false y z f b e = (refl, inl refl)
    go true false z f b e = (refl, inr (inl refl))
    go true true true f b e = (refl, inr (inr refl))
    go true true false (Some l) true e = (_, refl)
    go true true false (Some l) false e = clash e
    go true true false None true e = let z : ◌≡◌ {A = ℕ} 0 1 = cc in absurd (omega arith)
    go true true false None false e = refl

-- ---- the names that are counted

neither : (x y : Bool) → either x y ≡ false → (x ≡ false) × (y ≡ false)
neither true y e = clash e
neither false y e = (refl, e)

not_among : (name m : List ℕ) (ms : List (List ℕ)) → among name (m ∷ ms) ≡ false → (same name m ≡ false) × (among name ms ≡ false)
unfolding among
not_among name m ms e = neither (same name m) (among name ms) e

all_others : (name : List ℕ) (names : List (List ℕ)) → among name names ≡ false → compared name names ≡ of_length (length name) names
unfolding counted compared of_length
all_others name [] e = refl
all_others name (m ∷ ms) e =
    let w = not_among name m ms e in
    rw (w.0, all_others name ms w.1)

up-to_equal : (name : List ℕ) (before after : List (List ℕ)) → among name before ≡ false
    → compared name (before ++ name ∷ after) ≡ of_length (length name) (before ++ name ∷ [])
unfolding counted compared of_length
up-to_equal name [] after e = rw (equal_same name name refl)
up-to_equal name (m ∷ ms) after e =
    let w = not_among name m ms e in
    rw (w.0, up-to_equal name ms after w.1)

bounded : (db : Files) (name : List ℕ) (t : Tally) → search_answer db name ≡ Ok t → t.compared ≤ length db.bytes + length db.ends
unfolding search_answer
bounded db name t e = go (good_ends db) refl (good_name name) (too_large db.bytes) (among name (all_names (contents db))) e
  where
    k : ℕ
    k = compared name (all_names (contents db))

    go : (x : Bool) → good_ends db ≡ x → (y z b : Bool)
        → ◌≡◌ {A = Result Tally Refusal} (pick x (pick y (pick z (Err DatabaseTooLarge) (told b k)) (Err BadName)) (Err BadEnds)) (Ok t)
        → t.compared ≤ length db.bytes + length db.ends
    go false g y z b q = let z : ◌≡◌ {A = ℕ} 0 1 = cc in absurd (omega arith)
    go true g false z b q = let z : ◌≡◌ {A = ℕ} 0 1 = cc in absurd (omega arith)
    go true g true true b q = let z : ◌≡◌ {A = ℕ} 0 1 = cc in absurd (omega arith)
    go true g true false b q =
        let all : ◌≡◌ {A = Tally} (record { found = b; compared = k }) t = cc in
        omega (arith, ap (λ (u : Tally). u.compared) all, count_most db name g)

pub search-counts : SearchCounts
search-counts = record { agrees = agrees; up-to_equal = up-to_equal; all_others = all_others; bounded = bounded }
