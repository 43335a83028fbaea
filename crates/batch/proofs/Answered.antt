-- The answers: of one question by the tables, and of all in the lent buffer.
-- Assumes nothing.
use Rattle.std.specs.Prelude.{Option, Some, None, Result, Ok, Err}
use Prim.Native.Nat.{ℕ, ◌+◌, ◌*◌, ◌≤◌, ◌<◌}
use mathlib.Core.Path.{◌≡◌, refl, ◌∙◌, ap, sym}
use mathlib.Core.Bool.{Bool, true, false}
use mathlib.Core.List.{List, [], ◌∷◌, ◌++◌}
use native.Mathlib.Omega.{arith}
use borrow.Author.Tests.{eq-eqb, ne_eqb, le-ltb}
use lib.Dec.{eqb}
use lib.ListN.{length, get_or}
use lib.Seq.{sets}
use Rattle.spec.specs.Choice.{pick, both}
use Rattle.spec.specs.Refusals.{id_bytes, good_name, too_large}
use Rattle.spec.specs.Files.{Files, good_ends, contents}
use Rattle.spec.specs.Fields.{kind_number, kind_of}
use Rattle.spec.specs.Chain.{Field, Terminal, refused, terminal, joined_fields, resolve}
use Rattle.spec.specs.Questions.{terminal_of, answer_for}
use Rattle.spec.specs.Batch.{kind_answer, batch_answer, answer_bytes, batch_answers}
use Rattle.spec.specs.declared.Kind.{Kind}
use Rattle.spec.specs.declared.Kind.TheVariants.{Flag, Number, String}
use Rattle.spec.specs.declared.Refusal.{Refusal}
use Rattle.spec.specs.declared.Refusal.TheVariants.{BadId}
use Rattle.laws.proofs.Tests.{both_false}
use Rattle.laws.proofs.Stores.{stored-append}
use Rattle.laws.proofs.BatchAnswers.{answer-size}
use Rattle.laws.proofs.LookupSteps.{hit-size}
use Rattle.laws.proofs.Records.{value-small}
use Rattle.laws.proofs.AcceptedChain.{resolved_sound}
use Rattle.chain.specs.Answers.{lines_of}
use Rattle.chain.specs.declared.Chain.{Chain}
use Rattle.terminal.specs.Answers.{Resolved}
use Rattle.capability_table.specs.Answers.{kept_answer, Answering}
use Rattle.capability_table.proofs.Entries.{kind_some}
use Rattle.capability_table.proofs.Marking.{id_placed}
use Rattle.capability_table.proofs.Answering.{answer-kept}
use Rattle.batch.specs.Answers.{SmallValues, Known}
use Rattle.batch.specs.declared.Tables.{Tables}

-- ---- one question

module _ (t : Terminal) (a b k z : ℕ) where
  pub bad_id : id_bytes a b ≡ false → Err BadId ≡ batch_answer t a b k z
  unfolding batch_answer
  bad_id e = rw e

  pub bad_zero : (z ≡ 0 → ⊥) → Err BadId ≡ batch_answer t a b k z
  unfolding batch_answer
  bad_zero h = rw (ne_eqb z 0 h, both_false (id_bytes a b))

  pub bad_kind : None ≡ kind_of k → Err BadId ≡ batch_answer t a b k z
  unfolding batch_answer
  bad_kind e =
      go (both (id_bytes a b) (eqb z 0)) ∙ ap (λ n. pick (both (id_bytes a b) (eqb z 0)) (kind_answer n (a ∷ b ∷ []) t) (Err BadId)) e
    where
      go : (x : Bool) → ◌≡◌ {A = Result (Option ℕ) Refusal} (Err BadId) (pick x (Err BadId) (Err BadId))
      go true = refl
      go false = refl

  module _ (good : id_bytes a b ≡ true) (zero : z ≡ 0) (kind : Kind) (is : Some kind ≡ kind_of k) where
    asked : batch_answer t a b k z ≡ answer_for (a ∷ b ∷ []) kind t
    unfolding batch_answer
    asked = rw (good, eq-eqb z 0 zero) (ap (λ n. kind_answer n (a ∷ b ∷ []) t) (sym is))

    pub answer-refused : (r : Refusal) → t ≡ refused r → Err r ≡ batch_answer t a b k z
    unfolding answer_for
    answer-refused r e = sym (asked ∙ ap (answer_for (a ∷ b ∷ []) kind) e)

    pub answer-accepted : (tables : Tables) (r : Result (Option ℕ) Refusal) → r ≡ kept_answer tables.marks tables.values a b (kind_number kind)
        → Known t (Ok tt) tables → r ≡ batch_answer t a b k z
    unfolding answer_for
    answer-accepted tables r q (names, fs, e, w, small) =
        q ∙ answer-kept fs tables.marks tables.values w a b (kind_number kind) (id_placed a b (kind_number kind) good (kind_most kind)) (kind_some kind)
        (small (a ∷ b ∷ []) (kind_number kind))
        ∙ sym (asked ∙ ap (answer_for (a ∷ b ∷ []) kind) e)
      where
        kind_most : (k : Kind) → kind_number k ≤ 3
        kind_most Flag = omega arith
        kind_most Number = omega arith
        kind_most String = omega arith

-- ---- all questions

-- a question's answer is stored, and those of the questions after it are left
pub answered_on : (t : Terminal) (q left out : List ℕ) (i : ℕ) (x : Result (Option ℕ) Refusal) → length q ≡ 4
    → x ≡ batch_answer t (get_or q 0 0) (get_or q 1 0) (get_or q 2 0) (get_or q 3 0)
    → sets out (8 * i) (batch_answers t (q ++ left)) ≡ sets (sets out (8 * i) (answer_bytes x)) (8 * (i + 1)) (batch_answers t left)
unfolding batch_answers
answered_on t (a ∷ b ∷ k ∷ z ∷ []) left out i x n h =
    let e : 8 * i + length (answer_bytes x) ≡ 8 * (i + 1) = omega (arith, answer-size x) in
    rw (← h, stored-append out (8 * i) (answer_bytes x) (batch_answers t left), e)
answered_on t [] left out i x n h = absurd (omega arith)
answered_on t (a ∷ []) left out i x n h = absurd (omega arith)
answered_on t (a ∷ b ∷ []) left out i x n h = absurd (omega arith)
answered_on t (a ∷ b ∷ k ∷ []) left out i x n h = absurd (omega arith)
answered_on t (a ∷ b ∷ k ∷ z ∷ y ∷ q) left out i x n h = absurd (omega arith)

answers-none : (t : Terminal) (l : List ℕ) → length l < 4 → batch_answers t l ≡ []
unfolding batch_answers
answers-none t [] h = refl
answers-none t (a ∷ []) h = refl
answers-none t (a ∷ b ∷ []) h = refl
answers-none t (a ∷ b ∷ k ∷ []) h = refl
answers-none t (a ∷ b ∷ k ∷ z ∷ l) h = absurd (omega arith)

pub answered-all : (t : Terminal) (left out : List ℕ) (at : ℕ) → length left < 4 → sets out at (batch_answers t left) ≡ out
answered-all t left out at h = rw (answers-none t left h)

-- ---- the terminal

module _ (db : Files) (name : List ℕ) (ends : good_ends db ≡ true) (good : good_name name ≡ true) (small : length db.bytes ≤ 1048576) where
  walked : resolve (contents db) name ≡ terminal_of db name
  unfolding terminal_of too_large
  walked = rw (ends, good, le-ltb 1048576 (length db.bytes) small)

  small-values : (names : List ℕ) (fs : List Field) → resolve (contents db) name ≡ terminal names fs → SmallValues fs
  small-values names fs e id k t h = value-small t (omega (arith, hit-size id k fs t h, (resolved_sound (contents db) name names fs e).fits))

  -- by how the walk ended
  pub known : (c : Chain) (tables : Tables) → Resolved db name (Ok c) → Answering (joined_fields (contents db) 0 (lines_of c)) tables.marks tables.values
      → Known (resolve (contents db) name) (Ok tt) tables
  known c tables q n = (_, _, walked ∙ q.0, n, small-values _ _ (walked ∙ q.0))

  pub known_refused : (r : Refusal) → Resolved db name (Err r) → resolve (contents db) name ≡ refused r
  known_refused r q = walked ∙ q
