-- A question's terminal and its answer, by the tests and the lookup in order.
-- Assumes nothing.
use Rattle.std.specs.Prelude.{Option, Some, None, Ok, Err}
use Prim.Native.Nat.{ℕ}
use mathlib.Core.Path.{◌≡◌, refl}
use mathlib.Core.Bool.{Bool, true, false}
use mathlib.Core.List.{List, [], ◌∷◌}
use lib.ListN.{get_or}
use Rattle.spec.specs.Choice.{pick}
use Rattle.spec.specs.Refusals.{good_name, good_id, too_large}
use Rattle.spec.specs.Files.{Files, good_ends, contents}
use Rattle.spec.specs.Fields.{reading, kind_number}
use Rattle.spec.specs.Chain.{Field, Terminal, refused, terminal, resolve}
use Rattle.spec.specs.Lookup.{none, hit, lookup, value_of}
use Rattle.spec.specs.Answers.{keeping}
use Rattle.spec.specs.Questions.{terminal_of, terminal_for, hit_answer, answer_for, decoded_outcome, string_for}
use Rattle.spec.specs.declared.Kind.{Kind}
use Rattle.spec.specs.declared.Kind.TheVariants.{String}
use Rattle.spec.specs.declared.Refusal.{Refusal}
use Rattle.spec.specs.declared.Refusal.TheVariants.{BadName, BadId, DatabaseTooLarge, BadEnds}
use Rattle.identifiers.proofs.AskedNames.{id_is}
use Rattle.lookup.specs.Answers.{LookedUp}
use Rattle.questions.specs.Answers.{id_refusal}
use Rattle.spec.specs.declared.Location.{Location}
use Rattle.fields.specs.declared.FieldRead.{FieldRead}

-- ---- 16 comes before 1, and 1 before 2

module _ (db : Files) (name id : List ℕ) where
  pub asked-bad_id : good_id id ≡ false → terminal_for db name id ≡ refused (id_refusal db name)
  unfolding terminal_for id_refusal
  asked-bad_id h = rw h (go (good_ends db) (good_name name))
    where
      go : (w g : Bool) → pick w (pick g (refused BadId) (refused BadName)) (refused BadEnds) ≡ refused (pick w (pick g BadId BadName) BadEnds)
      go true true = refl
      go true false = refl
      go false g = refl

  pub asked-good : good_id id ≡ true → terminal_for db name id ≡ terminal_of db name
  unfolding terminal_for terminal_of
  asked-good h = rw h (go (good_ends db) (good_name name) (pick (too_large db.bytes) (refused DatabaseTooLarge) (resolve (contents db) name)))
    where
      go : (w g : Bool) (t : Terminal) → pick w (pick g (pick w (pick g t (refused BadName)) (refused BadEnds)) (refused BadName)) (refused BadEnds)
          ≡ pick w (pick g t (refused BadName)) (refused BadEnds)
      go true true t = refl
      go true false t = refl
      go false g t = refl

-- a good id is its two bytes
pub asked-bytes : (id : List ℕ) (k : ℕ) (fs : List Field) (db : List (List ℕ)) (h : Option (Location × FieldRead)) → good_id id ≡ true
    → LookedUp (get_or id 0 0 ∷ get_or id 1 0 ∷ []) k fs db h → LookedUp id k fs db h
asked-bytes id k fs db h i q = rw (id_is id i) q

-- ---- answers

module _ (id : List ℕ) (t : Terminal) where
  module _ (k : Kind) where
    pub answer-refused : (r : Refusal) → t ≡ refused r → answer_for id k t ≡ Err r
    unfolding answer_for
    answer-refused r e = rw e

    module _ (names : List ℕ) (fs : List Field) (e : t ≡ terminal names fs) where
      pub answer-absent : lookup id (kind_number k) fs ≡ none → answer_for id k t ≡ (Ok None)
      unfolding answer_for hit_answer
      answer-absent h = rw (e, h)

      pub answer-present : (f : List ℕ) → lookup id (kind_number k) fs ≡ hit f → answer_for id k t ≡ (Ok (Some (value_of (reading f))))
      unfolding answer_for hit_answer
      answer-present f h = rw (e, h)

  module _ (buffer : List ℕ) where
    pub string-refused : (r : Refusal) → t ≡ refused r → string_for id t buffer ≡ keeping (Err r) buffer
    unfolding string_for
    string-refused r e = rw e

    module _ (names : List ℕ) (fs : List Field) (e : t ≡ terminal names fs) where
      pub string-absent : lookup id (kind_number String) fs ≡ none → string_for id t buffer ≡ keeping (Ok None) buffer
      unfolding string_for decoded_outcome
      string-absent h = rw (e, h)

      pub string-present : (f : List ℕ) → lookup id (kind_number String) fs ≡ hit f → string_for id t buffer ≡ decoded_outcome (hit f) buffer
      unfolding string_for
      string-present f h = rw (e, h)
