-- What the search that counts answers, by its tests in order.
-- Assumes nothing.
use Rattle.std.specs.Prelude.{Ok, Err}
use Prim.Native.Nat.{ℕ, ◌≤◌, ◌<◌}
use mathlib.Core.Path.{◌≡◌}
use mathlib.Core.Bool.{true, false}
use mathlib.Core.List.{List}
use native.Mathlib.Omega.{arith}
use borrow.Author.Tests.{lt-ltb, le-ltb}
use lib.ListN.{length}
use Rattle.spec.specs.Refusals.{good_name, too_large}
use Rattle.spec.specs.Files.{Files, good_ends, contents}
use Rattle.spec.specs.Search.{all_names, compared, search_answer}
use Rattle.spec.specs.declared.Refusal.TheVariants.{BadName, DatabaseTooLarge, BadEnds}
use Rattle.spec.specs.declared.Tally.{Tally}
use Rattle.name_count.specs.Tallies.{Tallied}

module _ (db : Files) (name : List ℕ) where
  pub search-ends : good_ends db ≡ false → search_answer db name ≡ Err BadEnds
  unfolding search_answer
  search-ends g = rw g

  module _ (g : good_ends db ≡ true) where
    pub search-bad : good_name name ≡ false → search_answer db name ≡ Err BadName
    unfolding search_answer
    search-bad e = rw (g, e)

    pub search_large : good_name name ≡ true → 1048576 < length db.bytes → search_answer db name ≡ Err DatabaseTooLarge
    unfolding search_answer too_large
    search_large e h = rw (g, e, lt-ltb 1048576 (length db.bytes) h)

    pub search-told : (t : Tally) → good_name name ≡ true → length db.bytes ≤ 1048576 → Tallied name (all_names (contents db)) 0 t
        → search_answer db name ≡ Ok t
    unfolding search_answer too_large
    search-told t e h w =
        let count : compared name (all_names (contents db)) ≡ t.compared = omega (arith, w.1) in
        rw (g, e, le-ltb 1048576 (length db.bytes) h, ← w.0, count)
