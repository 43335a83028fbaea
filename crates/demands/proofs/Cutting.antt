-- However a file is cut into blocks, the finder and the text are those after the whole file; and feeding is a run over the joined text.
-- Assumes nothing.
use Prim.Native.Nat.{ℕ, ◌+◌}
use mathlib.Core.Path.{◌≡◌, refl, sym, ◌∙◌, ap}
use mathlib.Core.Bool.{Bool, true, false}
use mathlib.Core.List.{List, [], ◌∷◌, ◌++◌, append-nil}
use borrow.Author.Tests.{eqb-true, eqb-false}
use lib.Dec.{eqb}
use Rattle.spec.specs.Choice.{pick, both}
use Rattle.spec.specs.Lines.{Text, end, byte, join}
use Rattle.spec.specs.declared.finder.Finder.{Finder}
use Rattle.spec.specs.Finder.{
  Collecting,
  line_ends,
  joined_byte,
  Feeding,
  feeding,
  unheld_byte,
  one_byte,
  fed,
  finished,
  Turn,
  turn,
  asked_name,
  place_of,
  moved,
  feed_turn,
  feed_all,
}
use Rattle.laws.proofs.TextSteps.{join-byte}
use Rattle.demands.specs.Finder.{together}

-- Feeding a, then b, is feeding a ++ b.
fed-append : (name : List ℕ) (f : Feeding) (a b : List ℕ) → fed name f (a ++ b) ≡ fed name (fed name f a) b
unfolding fed
fed-append name f [] b = refl
fed-append name f (c ∷ a) b = fed-append name (one_byte name f c) a b

pub feed_none : (f : Finder) (text : List ℕ) → ((feed_turn f text []).finder ≡ f) × ((feed_turn f text []).text ≡ text)
unfolding feed_turn fed
feed_none f text = go (eqb f.ended 0)
  where
    go : (x : Bool) → ((pick x (turn 0 f text) (turn 17 f text)).finder ≡ f) × ((pick x (turn 0 f text) (turn 17 f text)).text ≡ text)
    go true = (refl, refl)
    go false = (refl, refl)

feed_twice : (f : Finder) (text a b : List ℕ) → feed_turn (feed_turn f text a).finder (feed_turn f text a).text b ≡ feed_turn f text (a ++ b)
unfolding feed_turn
feed_twice f text a b = go (eqb f.ended 0) refl
  where
    reached : List ℕ → Turn
    reached s = let p = fed (asked_name f) (place_of f text) s in turn 0 (moved f f.ended p) p.reached.text

    no : Turn
    no = turn 17 f text

    next : Turn → Turn
    next t =
        let p = fed (asked_name t.finder) (place_of t.finder t.text) b in
        pick (eqb t.finder.ended 0) (turn 0 (moved t.finder t.finder.ended p) p.reached.text) (turn 17 t.finder t.text)

    go : (x : Bool) → eqb f.ended 0 ≡ x → next (pick x (reached a) no) ≡ pick x (reached (a ++ b)) no
    go true e = rw (e, fed-append (asked_name f) (place_of f text) a b)
    go false e = rw e

pub cut : (t : Turn) (s : List ℕ) (ss : List (List ℕ)) → feed_all t (s ∷ ss) ≡ feed_turn t.finder t.text (together (s ∷ ss))
unfolding feed_all together
cut t s [] = ap (feed_turn t.finder t.text) (sym (append-nil s))
cut t s (r ∷ ss) = cut (feed_turn t.finder t.text s) r ss ∙ feed_twice t.finder t.text s (together (r ∷ ss))

-- ---- feeding a whole file is a run over its joined text

unfoldable pub run : List ℕ → Collecting → Text → Collecting
run name x end = line_ends name x
run name x (byte b n t) = run name (joined_byte name x b) t

module _ (name : List ℕ) where
  -- what is left of the file, with a backslash held or not
  abbrev Runs : List ℕ → Type 0
  Runs s = (at : ℕ) (x : Collecting)
      → (finished name (fed name (feeding 0 x) s) ≡ run name x (join at s)) × (finished name (fed name (feeding 1 x) s) ≡ run name x (join at (92 ∷ s)))

  unheld_runs : (s : List ℕ) → Runs s → (at b : ℕ) (x : Collecting) → finished name (fed name (unheld_byte name x b) s) ≡ run name x (join at (b ∷ s))
  unfolding unheld_byte
  unheld_runs s ih at b x = go (eqb b 92) refl
    where
      go : (y : Bool) → eqb b 92 ≡ y → finished name (fed name (pick y (feeding 1 x) (feeding 0 (joined_byte name x b))) s) ≡ run name x (join at (b ∷ s))
      go true e = rw (eqb-true b 92 e) (ih at x).1
      go false e = rw (join-byte at b s (eqb-false b 92 e)) (unfold run in (ih (at + 1) (joined_byte name x b)).0)

  pub fed_runs : (s : List ℕ) → Runs s
  unfolding fed finished join run one_byte
  fed_runs [] at x = (refl, refl)
  fed_runs (b ∷ s) at x = (unheld_runs s (fed_runs s) at b x, go (fed_runs s) (eqb b 10) refl)
    where
      go : Runs s → (y : Bool) → eqb b 10 ≡ y
          → finished name (fed name (pick y (feeding 0 x) (unheld_byte name (joined_byte name x 92) b)) s)
          ≡ run name x (pick (both (eqb 92 92) y) (join (at + 1 + 1) s) (byte 92 (at + 1) (join (at + 1) (b ∷ s))))
      go ih true e = (ih (at + 1 + 1) x).0
      go ih false e = unheld_runs s ih (at + 1) b (joined_byte name x 92)
