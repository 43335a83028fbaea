-- The terminal of a name, by its tests in order.
-- Assumes nothing.
use Rattle.std.specs.Prelude.{Result, Ok, Err}
use Prim.Native.Nat.{ℕ, ◌≤◌, ◌<◌}
use mathlib.Core.Path.{◌≡◌}
use mathlib.Core.Bool.{true, false}
use mathlib.Core.List.{List}
use borrow.Author.Tests.{lt-ltb, le-ltb}
use lib.ListN.{length}
use Rattle.spec.specs.Files.{Files, good_ends, contents}
use Rattle.spec.specs.Refusals.{good_name, too_large}
use Rattle.spec.specs.Chain.{refused, walk, described, resolve}
use Rattle.spec.specs.Questions.{terminal_of}
use Rattle.spec.specs.declared.Refusal.TheVariants.{BadName, DatabaseTooLarge, BadEnds}
use Rattle.chain.specs.Answers.{Walked}
use Rattle.chain.specs.declared.Chain.{Chain}
use Rattle.terminal.specs.Answers.{Resolved}
use Rattle.spec.specs.declared.Refusal.{Refusal}

module _ (db : Files) (name : List ℕ) where
  pub terminal-ends : good_ends db ≡ false → terminal_of db name ≡ refused BadEnds
  unfolding terminal_of
  terminal-ends g = rw g

  pub terminal-bad : good_ends db ≡ true → good_name name ≡ false → terminal_of db name ≡ refused BadName
  unfolding terminal_of
  terminal-bad g e = rw (g, e)

  pub terminal_large : good_ends db ≡ true → good_name name ≡ true → 1048576 < length db.bytes → terminal_of db name ≡ refused DatabaseTooLarge
  unfolding terminal_of too_large
  terminal_large g e h = rw (g, e, lt-ltb 1048576 (length db.bytes) h)

  module _ (g : good_ends db ≡ true) (e : good_name name ≡ true) (h : length db.bytes ≤ 1048576) where
    terminal_walked : terminal_of db name ≡ described (contents db) (walk (contents db) name)
    unfolding terminal_of too_large resolve
    terminal_walked = rw (g, e, le-ltb 1048576 (length db.bytes) h)

    -- what the walk ends with
    pub walked_resolved : (w : Result Chain Refusal) → Walked (contents db) name w → Resolved db name w
    unfolding described
    walked_resolved (Ok c) q = (rw (terminal_walked, q.0), q.1, q.2, h)
    walked_resolved (Err r) q = rw (terminal_walked, q)
