-- Demand 1 holds of the operations with output. Assumes nothing.
use Rattle.std.specs.Prelude.{None, Result, Ok, Err}
use Prim.Native.Nat.{ℕ, ◌*◌, ◌/◌, ◌%◌, ◌≤◌}
use mathlib.Core.Path.{◌≡◌, refl, ◌∙◌}
use mathlib.Core.Bool.{Bool, true, false}
use mathlib.Core.List.{List, ◌++◌}
use native.Mathlib.Omega.{arith}
use borrow.Author.Tests.{leb-true}
use lib.Dec.{eqb, ltb, leb}
use lib.ListN.{length, take, drop, length-append, length-drop}
use lib.Seq.{drop_at, length-take-le}
use Rattle.spec.specs.Choice.{pick, both}
use Rattle.spec.specs.Refusals.{good_name, too_large}
use Rattle.spec.specs.Files.{Files, good_ends, contents}
use Rattle.spec.specs.Fields.{reading}
use Rattle.spec.specs.Chain.{Terminal, refused, terminal, resolve}
use Rattle.spec.specs.Lookup.{Hit, none, hit, lookup, winning, bytes_of}
use Rattle.spec.specs.Answers.{Outcome, keeping, put}
use Rattle.spec.specs.Questions.{terminal_of, terminal_for, presented, decoded_outcome, string_for, string_outcome}
use Rattle.spec.specs.Listing.{records, list_for, list_outcome, flat_text, flat_for, flat_outcome}
use Rattle.spec.specs.Sending.{
  Prepared,
  finished,
  refused as notPrepared,
  prepared,
  prepared_at,
  Outgoing,
  sends,
  stops,
  padded,
  delivered,
  send_outcome,
  send_at_outcome,
  filled_answer,
  filled_into,
  fill_outcome,
  handed,
  pad_outcome,
}
use Rattle.spec.specs.Batch.{batch_answers, batch_outcome}
use Rattle.spec.specs.Finder.{finder_outcome}
use Rattle.spec.specs.Repair.{mended, flattened, not_repaired, put_mended, too_many_lines, repair_outcome}
use Rattle.laws.proofs.Tests.{pick_all, pick-told, both_true}
use Rattle.laws.proofs.BatchAnswers.{answers-size}
use Rattle.laws.proofs.RecordRoom.{mended-sixteen}
use Rattle.laws.proofs.Winning.{winning-wins}
use Rattle.laws.proofs.Records.{records-length}
use Rattle.spec.specs.declared.Amounts.{Amounts}
use Rattle.spec.specs.declared.Refusal.{Refusal}
use Rattle.spec.specs.declared.Refusal.TheVariants.{
  BadName,
  DatabaseTooLarge,
  UnknownName,
  ChainTooLarge,
  NoRoom,
  TooManyLines,
  PartialQuestion,
  BadEnds,
  InvalidState,
}
use Rattle.spec.specs.declared.finder.Finder.{Finder}
use Rattle.demands.specs.Demand1.{OnlyFirst, Writes, Answers, Fills, Repairs, Demand1}

-- ---- a buffer that is kept

kept : (size : ℕ) (r : Refusal) (buffer : List ℕ) → Writes size buffer (keeping (Err r) buffer)
kept size r buffer = record { refused = λ s e. refl; accepted = λ n e. let z : ◌≡◌ {A = ℕ} 0 1 = cc in absurd (omega arith) }

-- ---- bytes that are put at a buffer's start, and reported as n things

front : (bytes buffer : List ℕ) → length bytes ≤ length buffer → OnlyFirst (length bytes) buffer (bytes ++ drop (length bytes) buffer)
front bytes buffer fits = record {
  fit = fits;
  as_long = length-append bytes (drop (length bytes) buffer) ∙ rw (length-drop (length bytes) buffer) (omega (arith, fits));
  rest = drop_at bytes (drop (length bytes) buffer) (length bytes) refl;
}

written : (size : ℕ) (bytes : List ℕ) (n : ℕ) (buffer : List ℕ) → length bytes ≡ size * n → Writes size buffer (put bytes n buffer)
unfolding put
written size bytes n buffer whole = go (leb (length bytes) (length buffer)) refl
  where
    full : Outcome (Result ℕ Refusal)
    full = record { answer = Ok n; buffer = bytes ++ drop (length bytes) buffer }

    go : (t : Bool) → leb (length bytes) (length buffer) ≡ t → Writes size buffer (pick t full (keeping (Err NoRoom) buffer))
    go true e = record {
      refused = λ r f. let z : ◌≡◌ {A = ℕ} 0 1 = cc in absurd (omega arith);
      accepted = λ m f. let same : n ≡ m = cc in rw (← same, ← whole) (front bytes buffer (leb-true (length bytes) (length buffer) e));
    }
    go false e = kept size NoRoom buffer

delivered_writes : (x : Outgoing) (buffer : List ℕ) → Writes 1 buffer (delivered x buffer)
unfolding delivered
delivered_writes (sends l) buffer = written 1 l (length l) buffer (omega arith)
delivered_writes (stops r) buffer = kept 1 r buffer

filled_fills : (p : Prepared) (buffer : List ℕ) → Fills buffer (filled_into p buffer)
filled_fills (finished f) buffer = go o.answer refl
  where
    o : Outcome (Result ℕ Refusal)
    o = put f.bytes (length f.bytes) buffer

    w : Writes 1 buffer o
    w = written 1 f.bytes (length f.bytes) buffer (omega arith)

    go : (a : Result ℕ Refusal) → o.answer ≡ a → Fills buffer (record { answer = filled_answer f.delay f.star a; buffer = o.buffer })
    go (Ok n) e = record {
      refused = λ r k. let z : ◌≡◌ {A = ℕ} 0 1 = cc in absurd (omega arith);
      accepted = λ g k.
          let same : record { delay = f.delay; star = f.star; count = n } ≡ g = cc in
          let one : 1 * n ≡ n = omega arith in
          rw (← same, ← one) (w.accepted n e);
    }
    go (Err s) e = record {
      refused = λ r k. w.refused s e;
      accepted = λ g k. let z : ◌≡◌ {A = ℕ} 0 1 = cc in absurd (omega arith);
    }
filled_fills (notPrepared r) buffer = record {
  refused = λ s e. refl;
  accepted = λ g e. let z : ◌≡◌ {A = ℕ} 0 1 = cc in absurd (omega arith);
}

-- ---- String

presented-answers : (buffer : List ℕ) (o : Outcome (Result ℕ Refusal)) → Writes 1 buffer o → Answers buffer
    (record { answer = presented o.answer; buffer = o.buffer })
presented-answers buffer o w = go o.answer refl
  where
    go : (a : Result ℕ Refusal) → o.answer ≡ a → Answers buffer (record { answer = presented a; buffer = o.buffer })
    go (Ok n) e = record {
      refused = λ r f. let z : ◌≡◌ {A = ℕ} 0 1 = cc in absurd (omega arith);
      absent = λ f. let z : ◌≡◌ {A = ℕ} 0 1 = cc in absurd (omega arith);
      present = λ m f. let same : n ≡ m = cc in let one : 1 * n ≡ m = omega (arith, same) in rw (← one) (w.accepted n e);
    }
    go (Err s) e = record {
      refused = λ r f. w.refused s e;
      absent = λ f. let z : ◌≡◌ {A = ℕ} 0 1 = cc in absurd (omega arith);
      present = λ m f. let z : ◌≡◌ {A = ℕ} 0 1 = cc in absurd (omega arith);
    }

kept-answer : (r : Refusal) (buffer : List ℕ) → Answers buffer (keeping (Err r) buffer)
kept-answer r buffer = record {
  refused = λ s e. refl;
  absent = λ e. refl;
  present = λ n e. let z : ◌≡◌ {A = ℕ} 0 1 = cc in absurd (omega arith);
}

kept-absent : (buffer : List ℕ) → Answers buffer (keeping (Ok None) buffer)
kept-absent buffer = record {
  refused = λ s e. refl;
  absent = λ e. refl;
  present = λ n e. let z : ◌≡◌ {A = ℕ} 0 1 = cc in absurd (omega arith);
}

decoded_answers : (h : Hit) (buffer : List ℕ) → Answers buffer (decoded_outcome h buffer)
unfolding decoded_outcome
decoded_answers none buffer = kept-absent buffer
decoded_answers (hit f) buffer =
    let bytes = bytes_of (reading f) in
    presented-answers buffer (put bytes (length bytes) buffer) (written 1 bytes (length bytes) buffer (omega arith))

string-answers : (id : List ℕ) (t : Terminal) (buffer : List ℕ) → Answers buffer (string_for id t buffer)
unfolding string_for
string-answers id (refused r) buffer = kept-answer r buffer
string-answers id (terminal names fs) buffer = decoded_answers (lookup id 3 fs) buffer

-- ---- List and Flat

list_writes : (t : Terminal) (buffer : List ℕ) → Writes 12 buffer (list_for t buffer)
unfolding list_for
list_writes (refused r) buffer = kept 12 r buffer
list_writes (terminal names fs) buffer = written 12 (records (winning fs)) (length (winning fs)) buffer (records-length (winning fs) (winning-wins fs))

flat_writes : (t : Terminal) (buffer : List ℕ) → Writes 1 buffer (flat_for t buffer)
unfolding flat_for
flat_writes (refused r) buffer = kept 1 r buffer
flat_writes (terminal names fs) buffer = written 1 (flat_text names fs) (length (flat_text names fs)) buffer (omega arith)

-- ---- a batch

batch_writes : (db : Files) (name questions buffer : List ℕ) → Writes 8 buffer (batch_outcome db name questions buffer)
unfolding batch_outcome
batch_writes db name questions buffer =
    let t = resolve (contents db) name in
    let answers = written 8 (batch_answers t questions) (length questions / 4) buffer (answers-size t questions) in
    pick_all (Writes 8 buffer) (good_ends db)
    (pick_all (Writes 8 buffer) (good_name name)
    (pick_all (Writes 8 buffer) (too_large db.bytes) (kept 8 DatabaseTooLarge buffer)
    (pick_all (Writes 8 buffer) (eqb (length questions % 4) 0) answers (kept 8 PartialQuestion buffer)))
    (kept 8 BadName buffer))
    (kept 8 BadEnds buffer)

-- ---- the answer of a finder

finder_writes : (f : Finder) (text buffer : List ℕ) → Writes 1 buffer (finder_outcome f text buffer)
unfolding finder_outcome
finder_writes f text buffer =
    let n = f.line.count in
    pick_all (Writes 1 buffer) (eqb f.ended 0) (kept 1 InvalidState buffer)
    (pick_all (Writes 1 buffer) (eqb f.line.stage 4)
    (pick_all (Writes 1 buffer) (ltb 16384 n) (kept 1 ChainTooLarge buffer)
    (pick-told (Writes 1 buffer) (leb n (length text))
    (λ t. written 1 (take n text) n buffer (omega (arith, length-take-le n text (leb-true n (length text) t))))
    (λ t. kept 1 NoRoom buffer)))
    (kept 1 UnknownName buffer))

-- ---- Repair

not_repaired_lem : (r : Refusal) (text records : List ℕ) → Repairs text records (not_repaired r text records)
not_repaired_lem r text records = record {
  refused = λ s e. (refl, refl);
  accepted = λ a e. let z : ◌≡◌ {A = ℕ} 0 1 = cc in absurd (omega arith);
}

mended_repairs : (db text records : List ℕ) → Repairs text records (put_mended (mended db) text records)
unfolding put_mended
mended_repairs db text records =
    let m = mended db in
    let flat = flattened m.records in
    pick-told (Repairs text records) (both (leb (length m.text) (length text)) (leb (length flat) (length records)))
    (λ t.
    let h = both_true (leb (length m.text) (length text)) (leb (length flat) (length records)) t in
    record {
      refused = λ r e. let z : ◌≡◌ {A = ℕ} 0 1 = cc in absurd (omega arith);
      accepted = λ a e.
          let all : ◌≡◌ {A = Amounts} (record { bytes = length m.text; records = length m.records }) a = cc in
          let size : length flat ≡ 16 * length m.records = omega (arith, mended-sixteen db) in
          rw (← all) (
            front m.text text (leb-true (length m.text) (length text) h.0),
            rw (← size) (front flat records (leb-true (length flat) (length records) h.1)),
          );
    })
    (λ t. not_repaired_lem NoRoom text records)

repair_repairs : (db text records : List ℕ) → Repairs text records (repair_outcome db text records)
unfolding repair_outcome
repair_repairs db text records =
    pick_all (Repairs text records) (too_large db) (not_repaired_lem DatabaseTooLarge text records)
    (pick_all (Repairs text records) (too_many_lines db) (not_repaired_lem TooManyLines text records) (mended_repairs db text records))

pub demand_1 : Demand1
unfolding string_outcome list_outcome flat_outcome send_outcome send_at_outcome fill_outcome pad_outcome
demand_1 = record {
  string = λ db name id buffer. string-answers id (terminal_for db name id) buffer;
  list = λ db name buffer. list_writes (terminal_of db name) buffer;
  flat = λ db name buffer. flat_writes (terminal_of db name) buffer;
  batch = batch_writes;
  finder = finder_writes;
  repair = repair_repairs;
  send = λ cmd lines speed pad buffer. delivered_writes (padded (prepared cmd) lines speed pad) buffer;
  send_at = λ cmd row column back up lines speed pad buffer. delivered_writes (padded (prepared_at cmd row column back up) lines speed pad) buffer;
  fill = λ cmd row column back up buffer. filled_fills (prepared_at cmd row column back up) buffer;
  pad = λ delay star bytes lines speed pad buffer. delivered_writes (padded (handed delay star bytes) lines speed pad) buffer;
}
