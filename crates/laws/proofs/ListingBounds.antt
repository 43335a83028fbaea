-- How many fields of an accepted chain can win, and how long its records and its Flat can be.
-- Assumes nothing.
use Prim.Native.Nat.{ℕ, ◌*◌, ◌≤◌}
use mathlib.Core.Path.{◌≡◌, refl, ◌∙◌, sym}
use mathlib.Core.Bool.{true, false}
use mathlib.Core.List.{List, [], ◌∷◌}
use native.Mathlib.Omega.{arith}
use borrow.Author.Tests.{leb-true}
use lib.Dec.{leb}
use lib.ListN.{length, length-append}
use Rattle.spec.specs.Choice.{between}
use Rattle.spec.specs.Lists.{upto, same, among, later_pieces}
use Rattle.spec.specs.Lines.{first_name, later_names, has_name}
use Rattle.spec.specs.Refusals.{name_bytes, good_name}
use Rattle.spec.specs.Fields.{Reading, malformed, ignored, link, capability, reading, names_of, with_colons, size}
use Rattle.spec.specs.Files.{Files}
use Rattle.spec.specs.Chain.{Field, texts, terminal}
use Rattle.spec.specs.Lookup.{can_win, winning}
use Rattle.spec.specs.Questions.{terminal_of}
use Rattle.spec.specs.Listing.{flat_text, Bounded}
use Rattle.laws.proofs.Tests.{clash, both_true}
use Rattle.laws.proofs.FieldTexts.{length-closed}
use Rattle.laws.proofs.Readings.{reading-entered}
use Rattle.laws.proofs.AcceptedChain.{Sound}
use Rattle.laws.proofs.Removal.{AllWin}
use Rattle.laws.proofs.Winning.{winning-wins, winning-sound}
use Rattle.laws.proofs.Records.{records-length}
use Rattle.laws.proofs.FlatAlone.{opened-name, sound}

-- ---- a line with a good name has names

good-name-some : (n : List ℕ) → good_name n ≡ true → 1 ≤ length n
unfolding good_name
good-name-some n e = leb-true 1 (length n) (both_true (leb 1 (length n)) (leb (length n) 64) (both_true (between 1 64 (length n)) (name_bytes n) e).0).0

-- the empty text has no name but the empty one
no_names : (name l : List ℕ) → 1 ≤ length name → names_of l ≡ [] → has_name name l ≡ false
unfolding names_of first_name later_names upto later_pieces among same
no_names [] l h e = absurd (omega arith)
no_names (b ∷ name) l h e = rw e

names-some : (name names : List ℕ) (ts : List (List ℕ)) → Sound name names ts → good_name name ≡ true → 1 ≤ length names
names-some name [] ts k g = clash (sym k.held.1 ∙ no_names name k.line (good-name-some name g) k.names_are)
names-some name (b ∷ names) ts k g = omega arith

-- ---- a winning field has two bytes or more

win_long : (t : List ℕ) → can_win (reading t) ≡ true → 2 ≤ length t
unfolding can_win
win_long t w = go (reading t) refl w
  where
    go : (r : Reading) → reading t ≡ r → can_win r ≡ true → 2 ≤ length t
    go malformed e h = clash (sym h)
    go ignored e h = clash (sym h)
    go (link n) e h = clash (sym h)
    go (capability a b c) e h = let s = (reading-entered t a b c e).start in rw s.1 (omega arith)

wins_long : (fs : List Field) → AllWin (texts fs) → 3 * length fs ≤ size (texts fs)
unfolding texts size
wins_long [] w = omega arith
wins_long (f ∷ fs) w = omega (arith, win_long f.text w.0, wins_long fs w.2)

-- ---- the bounds

pub accepted-bounded : (db : Files) (name names : List ℕ) (fs : List Field) → terminal_of db name ≡ terminal names fs → Bounded names fs
unfolding flat_text size
accepted-bounded db name names fs accepted =
    let k = sound db name names fs accepted in
    let w = winning-sound fs name names k in
    let some = names-some name names (texts fs) k (opened-name db name names fs accepted) in
    let long = wins_long (winning fs) (winning-wins fs) in
    let lines = with_colons (names ∷ texts (winning fs)) in
    record {
      winning-fields = omega (arith, w.fits, some, long);
      record_bytes = omega (arith, w.fits, some, long, records-length (winning fs) (winning-wins fs));
      flat-bytes = omega (arith, w.fits, length-append lines (10 ∷ []), length-closed (names ∷ texts (winning fs)));
    }
