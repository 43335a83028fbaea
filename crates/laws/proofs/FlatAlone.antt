-- Flat as a database: the same answers, the same records at place 0, the same Flat.
-- Assumes nothing.
use Prim.Native.Nat.{ℕ}
use mathlib.Core.Path.{◌≡◌, refl}
use mathlib.Core.Bool.{Bool, true, false}
use mathlib.Core.List.{List, [], ◌∷◌}
use native.Mathlib.Omega.{arith}
use borrow.Author.Tests.{le-ltb}
use lib.Dec.{lit<}
use lib.ListN.{length, length-append}
use Rattle.spec.specs.Choice.{pick}
use Rattle.spec.specs.Refusals.{good_name, good_id, too_large}
use Rattle.spec.specs.declared.Kind.{Kind}
use Rattle.spec.specs.declared.Kind.TheVariants.{Flag, Number, String}
use Rattle.spec.specs.Fields.{with_colons, size}
use Rattle.laws.proofs.FieldTexts.{length-closed}
use Rattle.spec.specs.declared.Refusal.TheVariants.{BadName, BadId, DatabaseTooLarge, BadEnds}
use Rattle.spec.specs.Files.{Files, alone, good_ends, contents}
use Rattle.laws.proofs.FileLines.{good-alone, contents-alone}
use Rattle.spec.specs.Chain.{Field, placed, texts, refused, terminal, resolve}
use Rattle.laws.proofs.AcceptedChain.{Sound, resolved_sound, resolve-alone, texts-placed}
use Rattle.spec.specs.Questions.{terminal_of, terminal_for, answer_for, flag_answer, number_answer, string_for, string_outcome}
use Rattle.spec.specs.Lookup.{winning}
use Rattle.spec.specs.Answers.{put}
use Rattle.laws.proofs.Removal.{win_judge, lookup-placed}
use Rattle.laws.proofs.Winning.{winning-wins, winning-same, winning-sound, lookup-winning}
use Rattle.spec.specs.Listing.{records, list_for, list_outcome, flat_text, flat_for, flat_outcome}

-- ---- an accepted call

-- The ends and the name are good, and what the walk gave.
pub opened-ends : (db : Files) (name names : List ℕ) (fs : List Field) → terminal_of db name ≡ terminal names fs → good_ends db ≡ true
unfolding terminal_of
opened-ends db name names fs e = go (good_ends db) refl e
  where
    go : (x : Bool) → good_ends db ≡ x
        → pick x (pick (good_name name) (pick (too_large db.bytes) (refused DatabaseTooLarge) (resolve (contents db) name)) (refused BadName))
        (refused BadEnds) ≡ terminal names fs → good_ends db ≡ true
    go true h q = h
    go false h q = let z : ◌≡◌ {A = ℕ} 0 1 = cc in absurd (omega arith)

module _ (db : Files) (name names : List ℕ) (fs : List Field) (e : terminal_of db name ≡ terminal names fs) where
  past-ends : pick (good_name name) (pick (too_large db.bytes) (refused DatabaseTooLarge) (resolve (contents db) name)) (refused BadName) ≡ terminal names fs
  past-ends =
      let q : pick (good_ends db) (pick (good_name name) (pick (too_large db.bytes) (refused DatabaseTooLarge) (resolve (contents db) name))
      (refused BadName)) (refused BadEnds) ≡ terminal names fs =
      unfold terminal_of in e in
      rw (opened-ends db name names fs e) at q

  pub opened-name : good_name name ≡ true
  opened-name = go (good_name name) refl past-ends
    where
      go : (x : Bool) → good_name name ≡ x → pick x (pick (too_large db.bytes) (refused DatabaseTooLarge) (resolve (contents db) name)) (refused BadName)
          ≡ terminal names fs → good_name name ≡ true
      go true h q = h
      go false h q = let z : ◌≡◌ {A = ℕ} 0 1 = cc in absurd (omega arith)

  pub opened_resolved : resolve (contents db) name ≡ terminal names fs
  opened_resolved = go (good_name name) (too_large db.bytes) past-ends
    where
      go : (x y : Bool) → pick x (pick y (refused DatabaseTooLarge) (resolve (contents db) name)) (refused BadName) ≡ terminal names fs
          → resolve (contents db) name ≡ terminal names fs
      go true true q = let z : ◌≡◌ {A = ℕ} 0 1 = cc in absurd (omega arith)
      go true false q = q
      go false y q = let z : ◌≡◌ {A = ℕ} 0 1 = cc in absurd (omega arith)

  pub opened-size : too_large db.bytes ≡ false
  opened-size = go (good_name name) (too_large db.bytes) refl past-ends
    where
      go : (x y : Bool) → too_large db.bytes ≡ y → pick x (pick y (refused DatabaseTooLarge) (resolve (contents db) name)) (refused BadName)
          ≡ terminal names fs → too_large db.bytes ≡ false
      go true true h q = let z : ◌≡◌ {A = ℕ} 0 1 = cc in absurd (omega arith)
      go true false h q = h
      go false y h q = let z : ◌≡◌ {A = ℕ} 0 1 = cc in absurd (omega arith)

-- ---- answers over terminals

pub answer-flat : (id : List ℕ) (k : Kind) (names : List ℕ) (fs : List Field)
    → answer_for id k (terminal names (placed 0 0 (texts (winning fs)))) ≡ answer_for id k (terminal names fs)
unfolding answer_for
answer-flat id Flag names fs = rw (lookup-placed id 1 0 0 (winning fs), lookup-winning fs id 1 (lit< tt))
answer-flat id Number names fs = rw (lookup-placed id 2 0 0 (winning fs), lookup-winning fs id 2 (lit< tt))
answer-flat id String names fs = rw (lookup-placed id 3 0 0 (winning fs), lookup-winning fs id 3 (lit< tt))

pub string-flat : (id names buffer : List ℕ) (fs : List Field)
    → string_for id (terminal names (placed 0 0 (texts (winning fs)))) buffer ≡ string_for id (terminal names fs) buffer
unfolding string_for
string-flat id names buffer fs = rw (lookup-placed id 3 0 0 (winning fs), lookup-winning fs id 3 (lit< tt))

pub winning-flat : (fs : List Field) → winning (placed 0 0 (texts (winning fs))) ≡ placed 0 0 (texts (winning fs))
winning-flat fs = winning-same (placed 0 0 (texts (winning fs))) (rw texts-placed (winning-wins fs))

pub text-flat : (names : List ℕ) (fs : List Field) → flat_text names (placed 0 0 (texts (winning fs))) ≡ flat_text names fs
unfolding flat_text
text-flat names fs = rw (winning-flat fs, texts-placed)

-- ---- Flat alone

flat-fits : (name names : List ℕ) (fs : List Field) → Sound name names (texts fs) → too_large (flat_text names fs) ≡ false
unfolding too_large flat_text size
flat-fits name names fs k =
    let w = winning-sound fs name names k in
    le-ltb 1048576 (length (flat_text names fs))
    (omega (arith, w.fits, length-append (with_colons (names ∷ texts (winning fs))) (10 ∷ []), length-closed (names ∷ texts (winning fs))))

module _ (db : Files) (name names : List ℕ) (fs : List Field) (accepted : terminal_of db name ≡ terminal names fs) where
  pub sound : Sound name names (texts fs)
  sound = resolved_sound (contents db) name names fs (opened_resolved db name names fs accepted)

  resolve-flat : resolve (flat_text names fs ∷ []) name ≡ terminal names (placed 0 0 (texts (winning fs)))
  unfolding flat_text
  resolve-flat = resolve-alone name names (texts (winning fs)) (winning-sound fs name names sound) (win_judge (texts (winning fs)) (winning-wins fs))

  pub opened-flat : terminal_of (alone (flat_text names fs)) name ≡ terminal names (placed 0 0 (texts (winning fs)))
  unfolding terminal_of
  opened-flat = rw (good-alone (flat_text names fs), contents-alone (flat_text names fs), opened-name db name names fs accepted, flat-fits name names fs sound)
      resolve-flat

  -- A question's terminal: refused for the id alone, or what List and Flat are about.
  pub asked_is : (base : Files) (id : List ℕ) → good_ends base ≡ true → terminal_for base name id ≡ pick (good_id id) (terminal_of base name) (refused BadId)
  unfolding terminal_for
  asked_is base id h = rw (h, opened-name db name names fs accepted)

  pub flag_same : (id : List ℕ) → flag_answer (alone (flat_text names fs)) name id ≡ flag_answer db name id
  unfolding flag_answer
  flag_same id = rw (
    asked_is (alone (flat_text names fs)) id (good-alone (flat_text names fs)),
    asked_is db id (opened-ends db name names fs accepted),
    opened-flat,
    accepted,
  ) (go (good_id id))
    where
      go : (x : Bool) → answer_for id Flag (pick x (terminal names (placed 0 0 (texts (winning fs)))) (refused BadId))
          ≡ answer_for id Flag (pick x (terminal names fs) (refused BadId))
      go true = answer-flat id Flag names fs
      go false = refl

  pub number_same : (id : List ℕ) → number_answer (alone (flat_text names fs)) name id ≡ number_answer db name id
  unfolding number_answer
  number_same id = rw (
    asked_is (alone (flat_text names fs)) id (good-alone (flat_text names fs)),
    asked_is db id (opened-ends db name names fs accepted),
    opened-flat,
    accepted,
  ) (go (good_id id))
    where
      go : (x : Bool) → answer_for id Number (pick x (terminal names (placed 0 0 (texts (winning fs)))) (refused BadId))
          ≡ answer_for id Number (pick x (terminal names fs) (refused BadId))
      go true = answer-flat id Number names fs
      go false = refl

  pub string-same : (id buffer : List ℕ) → string_outcome (alone (flat_text names fs)) name id buffer ≡ string_outcome db name id buffer
  unfolding string_outcome
  string-same id buffer = rw (
    asked_is (alone (flat_text names fs)) id (good-alone (flat_text names fs)),
    asked_is db id
        (opened-ends db name names fs accepted),
    opened-flat,
    accepted,
  ) (go (good_id id))
    where
      go : (x : Bool) → string_for id (pick x (terminal names (placed 0 0 (texts (winning fs)))) (refused BadId)) buffer
          ≡ string_for id (pick x (terminal names fs) (refused BadId)) buffer
      go true = string-flat id names buffer fs
      go false = refl

  pub list_same : (buffer : List ℕ) → list_outcome (alone (flat_text names fs)) name buffer
      ≡ put (records (placed 0 0 (texts (winning fs)))) (length (placed 0 0 (texts (winning fs)))) buffer
  unfolding list_outcome list_for
  list_same buffer = rw (opened-flat, winning-flat fs)

  pub flat-same : (buffer : List ℕ) → flat_outcome (alone (flat_text names fs)) name buffer ≡ flat_outcome db name buffer
  unfolding flat_outcome flat_for
  flat-same buffer = rw (opened-flat, accepted, text-flat names fs)
