-- Lines mended one after the other: what is stored, with what is still to come, is all.
-- Assumes nothing.
use Prim.Native.Nat.{ℕ, ◌+◌, ◌*◌, ◌≤◌, ◌<◌}
use mathlib.Core.Path.{◌≡◌, refl, ◌∙◌, ap, sym}
use mathlib.Core.List.{List, [], ◌++◌}
use native.Mathlib.Omega.{arith}
use lib.ListN.{length, length-append}
use lib.Seq.{sets, length-sets}
use Rattle.spec.specs.Lines.{text_at, Line, later_lines, lines_from, line_at}
use Rattle.spec.specs.Repair.{lines_of, reason_at, link_removals, Mended, mend_line, mend_lines, mended, flattened}
use Rattle.laws.proofs.Stores.{stored-append}
use Rattle.laws.proofs.NoLonger.{mended-short}
use Rattle.laws.proofs.RecordRoom.{flat_append, sixteen-line, mended-few}
use Rattle.spec.specs.declared.Amounts.{Amounts}
use Rattle.mended_lines.specs.Lines.{LineMended}
use Rattle.repair.specs.declared.LineReason.{LineReason}
use Rattle.repair.specs.Answers.{Judged, ReasonFound}
use Rattle.repair.proofs.Cursor.{Cursor, Behind, cursor_first, cursor_next, reason-right}

abbrev both : Mended → Mended → Mended
both first later = record { text = first.text ++ later.text; records = first.records ++ later.records }

-- What is stored of the text and of the records, with what is still to come.
pub record Storing (db text₀ records₀ : List ℕ) (later : Mended) (text records : List ℕ) (bytes count : ℕ) : Type 0 where
  pub stored : sets text bytes later.text ≡ sets text₀ 0 (mended db).text
  pub measured : bytes + length later.text ≡ length (mended db).text
  pub recorded : sets records (count * 16) (flattened later.records) ≡ sets records₀ 0 (flattened (mended db).records)
  pub counted : count + length later.records ≡ length (mended db).records
  pub text-room : length text ≡ length text₀
  pub records-room : length records ≡ length records₀

module _ (db text₀ records₀ : List ℕ) where
  -- no database has more
  pub storing_small : (later : Mended) (text records : List ℕ) (bytes count : ℕ) → length db ≤ 1048576
      → Storing db text₀ records₀ later text records bytes count → (bytes ≤ 1048576) × (count ≤ 524288)
  storing_small later text records bytes count h s =
      (omega (arith, s.measured, mended-short db), omega (arith, s.counted, mended-few db))

  storing_next : (first later : Mended) (text records : List ℕ) (bytes count : ℕ) (text' records' : List ℕ) (r : Amounts)
      → length (flattened first.records) ≡ 16 * length first.records → Storing db text₀ records₀ (both first later) text records bytes count
      → LineMended first text bytes text' records (count * 16) records' r
      → Storing db text₀ records₀ later text' records' (bytes + r.bytes) (count + r.records)
  storing_next first later text records bytes count text' records' r sixteen s m =
      let place : (count + r.records) * 16 ≡ count * 16 + length (flattened first.records) = omega (arith, m.1, sixteen) in
      let split = stored-append records (count * 16) (flattened first.records) (flattened later.records) in
      let joined = flat_append first.records later.records in
      record {
        stored = rw (m.2, m.0) (sym (stored-append text bytes first.text later.text) ∙ s.stored);
        measured = omega (arith, s.measured, m.0, length-append first.text later.text);
        recorded = rw (m.3, place) (sym split ∙ ap (sets records (count * 16)) (sym joined) ∙ s.recorded);
        counted = omega (arith, s.counted, m.1, length-append first.records later.records);
        text-room = ap length m.2 ∙ length-sets text bytes first.text ∙ s.text-room;
        records-room = ap length m.3 ∙ length-sets records (count * 16) (flattened first.records) ∙ s.records-room;
      }

-- ---- line by line

-- What lines give, from the line of a number on.
unfoldable pub mended_from : List ℕ → ℕ → List Line → Mended
mended_from db number ls = mend_lines db (link_removals (lines_of db)) number ls

abbrev first_line : List ℕ → ℕ → Line
first_line db at = record { start = at; text = line_at db at }

mended_first : (db : List ℕ) (number at reason : ℕ) → reason ≡ reason_at (link_removals (lines_of db)) at
    → mended_from db number (lines_from at (text_at db at))
    ≡ both (mend_line db reason number (first_line db at)) (mended_from db (number + 1) (later_lines (text_at db at)))
unfolding mended_from mend_lines line_at
mended_first db number at reason e = rw e

mended-none : (db : List ℕ) (number : ℕ) → mended_from db number [] ≡ record { text = []; records = [] }
unfolding mended_from mend_lines
mended-none db number = refl

-- Before the line at a place: its number, the cursor into the links, and what is stored.
pub record Going (db ats text₀ records₀ text records : List ℕ) (at number k bytes count : ℕ) : Type 0 where
  pub inside : at ≤ length db
  pub numbered : number ≤ at
  pub cursor : Cursor db ats at k
  pub storing : Storing db text₀ records₀ (mended_from db number (lines_from at (text_at db at))) text records bytes count

-- Behind it.
pub record Gone (db ats text₀ records₀ text records : List ℕ) (at number k bytes count : ℕ) : Type 0 where
  pub numbered : number ≤ at
  pub cursor : Behind db ats at k
  pub storing : Storing db text₀ records₀ (mended_from db (number + 1) (later_lines (text_at db at))) text records bytes count

pub going_first : (db ats reasons text records : List ℕ) → Judged db ats reasons → Going db ats text records text records 0 0 0 0 0
unfolding mended_from
going_first db ats reasons text records j = record {
  inside = omega arith;
  numbered = omega arith;
  cursor = cursor_first db ats j.starts;
  storing = unfold mended lines_of in record {
    stored = refl;
    measured = omega arith;
    recorded = refl;
    counted = omega arith;
    text-room = refl;
    records-room = refl;
  };
}

module _ (db ats reasons text₀ records₀ text records : List ℕ) (judged : Judged db ats reasons) (at number k bytes count : ℕ) where
  pub line-passed : Going db ats text₀ records₀ text records at number k bytes count → (line : LineReason) → ReasonFound ats reasons k at line
      → (text' records' : List ℕ) (r : Amounts)
      → LineMended (mend_line db line.reason number (first_line db at)) text bytes text' records (count * 16) records' r
      → Gone db ats text₀ records₀ text' records' at number line.next (bytes + r.bytes) (count + r.records)
  line-passed g line f text' records' r m =
      let found = reason-right db ats reasons judged at k g.cursor line f in
      let first = mend_line db line.reason number (first_line db at) in
      let later = mended_from db (number + 1) (later_lines (text_at db at)) in
      record {
        numbered = g.numbered;
        cursor = found.1;
        storing = storing_next db text₀ records₀ first later text records bytes count text' records' r
            (sixteen-line db line.reason number (first_line db at)) (rw (mended_first db number at line.reason found.0) at g.storing) m;
      }

  pub next_going : Gone db ats text₀ records₀ text records at number k bytes count → (n : ℕ)
      → later_lines (text_at db at) ≡ lines_from n (text_at db n) → at < n → n ≤ length db
      → Going db ats text₀ records₀ text records n (number + 1) k bytes count
  next_going g n e h i = record {
    inside = i;
    numbered = omega (arith, g.numbered);
    cursor = cursor_next db ats at k n g.cursor e h;
    storing = rw e at g.storing;
  }

  pub last_gone : Gone db ats text₀ records₀ text records at number k bytes count → later_lines (text_at db at) ≡ []
      → LineMended (mended db) text₀ 0 text records₀ 0 records (record { bytes = bytes; records = count })
  unfolding flattened
  last_gone g e =
      let none : mended_from db (number + 1) (later_lines (text_at db at)) ≡ record { text = []; records = [] } =
      ap (mended_from db (number + 1)) e ∙ mended-none db (number + 1) in
      let s = rw none at g.storing in
      (omega (arith, s.measured), omega (arith, s.counted), s.stored, s.recorded)
