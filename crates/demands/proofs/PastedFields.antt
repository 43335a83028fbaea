-- Pasting, the fields: the parent's winning fields in place of the link and of the parent's chain leave the winning fields' texts as they were.
-- Two terminals with the same names whose winning fields have the same texts give the same answers.
-- Assumes nothing.
use Rattle.std.specs.Prelude.{Option, Some, None}
use Prim.Native.Nat.{ℕ, ◌<◌}
use mathlib.Core.Path.{◌≡◌, refl, ◌∙◌, ap, sym}
use mathlib.Core.Bool.{Bool, true, false}
use mathlib.Core.List.{List, [], ◌∷◌, ◌++◌, map, append-nil}
use native.Mathlib.Omega.{arith}
use lib.Dec.{lit<}
use lib.ListN.{length}
use Rattle.spec.specs.Choice.{pick}
use Rattle.spec.specs.Refusals.{good_id}
use Rattle.spec.specs.Files.{Files}
use Rattle.spec.specs.Fields.{link, reading, all_ignored, kind_of}
use Rattle.spec.specs.Chain.{Field, placed, texts, Terminal, refused, terminal}
use Rattle.spec.specs.Lookup.{lookup, winning}
use Rattle.spec.specs.Questions.{terminal_for, answer_for, flag_answer, number_answer, string_for, string_outcome}
use Rattle.spec.specs.Listing.{records, list_outcome, flat_text, flat_for, flat_outcome}
use Rattle.spec.specs.Batch.{kind_answer, batch_answer, batch_answers, batch_outcome}
use Rattle.spec.specs.declared.Kind.TheVariants.{Flag, Number, String}
use Rattle.spec.specs.declared.Kind.{Kind}
use Rattle.spec.specs.declared.Refusal.TheVariants.{BadId}
use Rattle.laws.proofs.Removal.{lookup-placed}
use Rattle.laws.proofs.Winning.{winning-wins, lookup-winning}
use Rattle.laws.proofs.RemovedTexts.{winners, winners_twice, winners_append, link_first, ignored_first}
use Rattle.laws.proofs.Records.{records-length, placed-length}
use Rattle.laws.proofs.FlatAlone.{asked_is, opened-ends, opened-name, opened-size, opened_resolved}
use Rattle.demands.specs.Demand3.{Accepted, at_place_zero}
use Rattle.demands.specs.Pasting.{AnswersKept}
use Rattle.demands.proofs.Demand3.{put_like, record_list, ground_records, list_is, listed_is}

-- The fields x before a link, the link t, ignored fields i behind it, and the joined fields q of the chain that the link leads to; or q's
-- winning fields in place of the link.
pub winners_pasted : (x i : List (List ℕ)) (t n : List ℕ) (q : List Field) → reading t ≡ link n → all_ignored i ≡ true
    → winners (x ++ (texts (winning q) ++ i)) ≡ winners (x ++ (t ∷ (i ++ texts q)))
winners_pasted x i t n q e h =
    winners_append x (texts (winning q) ++ i) (t ∷ (i ++ texts q))
    (winners_append (texts (winning q)) i [] (ap winners (sym (append-nil i)) ∙ ignored_first i [] h)
    ∙ ap winners (append-nil (texts (winning q)))
    ∙ winners_twice q
    ∙ sym (link_first t n (i ++ texts q) e ∙ ignored_first i (texts q) h))

-- ---- the same texts win, so the answers are the same

module _ (names : List ℕ) (fs gs : List Field) (same : texts (winning gs) ≡ texts (winning fs)) where
  lookup-same : (id : List ℕ) (k : ℕ) → 0 < k → lookup id k gs ≡ lookup id k fs
  lookup-same id k h =
      sym (lookup-winning gs id k h) ∙ sym (lookup-placed id k 0 0 (winning gs)) ∙ ap (λ (ts : List (List ℕ)). lookup id k (placed 0 0 ts)) same
      ∙ lookup-placed id k 0 0 (winning fs) ∙ lookup-winning fs id k h

  answer-same : (id : List ℕ) (k : Kind) → answer_for id k (terminal names gs) ≡ answer_for id k (terminal names fs)
  unfolding answer_for
  answer-same id Flag = rw (lookup-same id 1 (lit< tt))
  answer-same id Number = rw (lookup-same id 2 (lit< tt))
  answer-same id String = rw (lookup-same id 3 (lit< tt))

  string-same : (id buffer : List ℕ) → string_for id (terminal names gs) buffer ≡ string_for id (terminal names fs) buffer
  unfolding string_for
  string-same id buffer = rw (lookup-same id 3 (lit< tt))

  length-same : length (winning gs) ≡ length (winning fs)
  length-same = sym (placed-length 0 0 (winning gs)) ∙ ap (λ (ts : List (List ℕ)). length (placed 0 0 ts)) same ∙ placed-length 0 0 (winning fs)

  records-same : map at_place_zero (record_list (winning gs)) ≡ map at_place_zero (record_list (winning fs))
  records-same =
      sym (ground_records (winning gs) (winning-wins gs)) ∙ ap (λ (ts : List (List ℕ)). record_list (placed 0 0 ts)) same
      ∙ ground_records (winning fs) (winning-wins fs)

  room-same : length (records (winning gs)) ≡ length (records (winning fs))
  room-same = omega (arith, records-length (winning gs) (winning-wins gs), records-length (winning fs) (winning-wins fs), length-same)

  flat-same : (buffer : List ℕ) → flat_for (terminal names gs) buffer ≡ flat_for (terminal names fs) buffer
  unfolding flat_for flat_text
  flat-same buffer = rw same

  batch-same : (questions : List ℕ) → batch_answers (terminal names gs) questions ≡ batch_answers (terminal names fs) questions
  unfolding batch_answers batch_answer
  batch-same [] = refl
  batch-same (a ∷ []) = refl
  batch-same (a ∷ b ∷ []) = refl
  batch-same (a ∷ b ∷ k ∷ []) = refl
  batch-same (a ∷ b ∷ k ∷ z ∷ qs) = rw (by_kind (kind_of k), batch-same qs)
    where
      by_kind : (n : Option Kind) → kind_answer n (a ∷ b ∷ []) (terminal names gs) ≡ kind_answer n (a ∷ b ∷ []) (terminal names fs)
      by_kind (Some k) = answer-same (a ∷ b ∷ []) k
      by_kind None = refl

  module _ (db after : Files) (name : List ℕ) (old : Accepted db name names fs) (new : Accepted after name names gs) where
    -- the terminal of a question, of an accepted chain
    asked : (of : Files) (hs : List Field) → Accepted of name names hs → (id : List ℕ)
        → terminal_for of name id ≡ pick (good_id id) (terminal names hs) (refused BadId)
    asked of hs e id = asked_is of name names hs e of id (opened-ends of name names hs e) ∙ ap (λ (t : Terminal). pick (good_id id) t (refused BadId)) e

    answers : (id : List ℕ) (k : Kind) → answer_for id k (terminal_for after name id) ≡ answer_for id k (terminal_for db name id)
    answers id k = rw (asked db fs old id, asked after gs new id) (go (good_id id))
      where
        go : (x : Bool) → answer_for id k (pick x (terminal names gs) (refused BadId)) ≡ answer_for id k (pick x (terminal names fs) (refused BadId))
        go true = answer-same id k
        go false = refl

    strings : (id buffer : List ℕ) → string_for id (terminal_for after name id) buffer ≡ string_for id (terminal_for db name id) buffer
    strings id buffer = rw (asked db fs old id, asked after gs new id) (go (good_id id))
      where
        go : (x : Bool) → string_for id (pick x (terminal names gs) (refused BadId)) buffer ≡ string_for id (pick x (terminal names fs) (refused BadId)) buffer
        go true = string-same id buffer
        go false = refl

    lists : (buffer : List ℕ) → (list_outcome after name buffer).answer ≡ (list_outcome db name buffer).answer
    lists buffer =
        rw (list_is db name names fs old buffer, list_is after name names gs new buffer, length-same)
        (put_like (records (winning gs)) (records (winning fs)) (length (winning fs)) buffer room-same)

    batches : (questions buffer : List ℕ) → batch_outcome after name questions buffer ≡ batch_outcome db name questions buffer
    unfolding batch_outcome
    batches questions buffer =
        rw (
          opened-ends db name names fs old,
          opened-ends after name names gs new,
          opened-name db name names fs old,
          opened-size db name names fs old,
          opened-size after name names gs new,
          opened_resolved db name names fs old,
          opened_resolved after name names gs new,
          batch-same questions,
        )

    flats : (buffer : List ℕ) → flat_outcome after name buffer ≡ flat_outcome db name buffer
    unfolding flat_outcome
    flats buffer = rw (old, new) (flat-same buffer)

    pub answers-kept : AnswersKept db after name
    unfolding flag_answer number_answer string_outcome
    answers-kept =
        record {
          flag = λ id. answers id Flag;
          number = λ id. answers id Number;
          string = strings;
          list = lists;
          listing = λ buffer h. rw (listed_is db name names fs old buffer h, listed_is after name names gs new buffer (rw (lists buffer) h)) records-same;
          batch = batches;
          flat = flats;
        }
