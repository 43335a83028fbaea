-- Ask 2's promises hold of every repair that is not refused.
-- Assumes nothing.
use Rattle.spec.specs.declared.Refusal.{Refusal}
use Rattle.spec.specs.declared.Amounts.{Amounts}
use Rattle.std.specs.Prelude.{Ok, Err, Result}
use Prim.Native.Nat.{ℕ, ◌+◌, ◌≤◌}
use mathlib.Core.Path.{◌≡◌, refl, ◌∙◌, ap}
use mathlib.Core.Bool.{Bool, true, false}
use mathlib.Core.List.{List, [], ◌∷◌, ◌++◌}
use native.Mathlib.Omega.{arith}
use borrow.Author.Tests.{le-leb, le-ltb, leb-true, ltb-false}
use lib.Dec.{leb, ltb}
use lib.ListN.{length, take, drop}
use lib.Seq.{take_at}
use Rattle.spec.specs.Choice.{pick, both}
use Rattle.laws.proofs.Tests.{both_true}
use Rattle.spec.specs.Refusals.{too_large}
use Rattle.spec.specs.Lines.{Line, is_ignored}
use Rattle.spec.specs.Repair.{
  lines_of,
  is_dropped,
  left,
  link_removals,
  Removed,
  Mended,
  mended,
  descriptions,
  too_many_lines,
  flattened,
  RepairOutcome,
  put_mended,
  repair_outcome,
}
use Rattle.spec.specs.declared.Refusal.TheVariants.{DatabaseTooLarge, TooManyLines, NoRoom}
use Rattle.demands.specs.RepairPromises.{Repairs, RepairPromises, Promised}
use Rattle.demands.proofs.MendedLines.{Parallel}
use Rattle.demands.proofs.RepairSound.{mended-sound, parallel}
use Rattle.demands.proofs.SoundWalks.{terminal-sound}
use Rattle.demands.proofs.SoundUnchanged.{mended-unchanged}
use Rattle.laws.proofs.NoLonger.{mended-short}

-- ---- what a repair that is not refused wrote

abbrev done : Mended → List ℕ → List ℕ → RepairOutcome
done m text records = record {
  answer = (Ok (record { bytes = (length m.text); records = (length m.records) }));
  text = m.text ++ drop (length m.text) text;
  records = flattened m.records ++ drop (length (flattened m.records)) records;
}

-- it is neither 3 nor 14 nor 9
abbrev Accepted : List ℕ → List ℕ → List ℕ → Type 0
Accepted db text records = (length db ≤ 1048576) × (descriptions (lines_of db) ≤ 4096)
    × (length (mended db).text ≤ length text) × (length (flattened (mended db).records) ≤ length records)

accepted_done : (db text records : List ℕ) → Accepted db text records → repair_outcome db text records ≡ done (mended db) text records
unfolding repair_outcome put_mended too_large too_many_lines
accepted_done db text records h = rw (le-ltb 1048576 (length db) h.0, le-ltb 4096 (descriptions (lines_of db)) h.1, le-leb _ _ h.2, le-leb _ _ h.3)

accepted : (db text records : List ℕ) (bytes count : ℕ) → Repairs (repair_outcome db text records) bytes count → Accepted db text records
unfolding repair_outcome put_mended too_large too_many_lines
accepted db text records bytes count e =
    go (ltb 1048576 (length db)) refl (ltb 4096 (descriptions (lines_of db))) refl
    (both (leb (length (mended db).text) (length text)) (leb (length (flattened (mended db).records)) (length records))) refl e
  where
    go : (x : Bool) → ltb 1048576 (length db) ≡ x → (y : Bool) → ltb 4096 (descriptions (lines_of db)) ≡ y
        → (z : Bool) → both (leb (length (mended db).text) (length text)) (leb (length (flattened (mended db).records)) (length records)) ≡ z
        → (pick x (record { answer = Err DatabaseTooLarge; text = text; records = records })
        (pick y (record { answer = Err TooManyLines; text = text; records = records })
        (pick z (done (mended db) text records) (record { answer = Err NoRoom; text = text; records = records })))).answer ≡ (Ok (record { bytes = bytes; records = count }))
        → Accepted db text records
    go true a y b z c q = let w : ◌≡◌ {A = ℕ} 0 1 = cc in absurd (omega arith)
    go false a true b z c q = let w : ◌≡◌ {A = ℕ} 0 1 = cc in absurd (omega arith)
    go false a false b false c q = let w : ◌≡◌ {A = ℕ} 0 1 = cc in absurd (omega arith)
    go false a false b true c q =
        let w = both_true (leb (length (mended db).text) (length text)) (leb (length (flattened (mended db).records)) (length records)) c in
        (ltb-false 1048576 (length db) a, ltb-false 4096 (descriptions (lines_of db)) b, leb-true _ _ w.0, leb-true _ _ w.1)

-- ---- a second repair is not refused for the number of lines

left_fewer : (ls : List Line) → descriptions (left ls) ≤ descriptions ls
unfolding descriptions left
left_fewer [] = omega arith
left_fewer (l ∷ ls) = go (is_dropped l.text) (is_ignored l.text) refl (left_fewer ls)
  where
    go : (x y : Bool) → is_ignored l.text ≡ y → descriptions (left ls) ≤ descriptions ls
        → descriptions (pick x (left ls) (l ∷ left ls)) ≤ pick y (descriptions ls) (descriptions ls + 1)
    go true true e h = h
    go true false e h = omega arith
    go false true e h = rw e h
    go false false e h = rw e (omega arith)

parallel_same : (removed : List Removed) (ds ms : List Line) → Parallel removed ds ms → descriptions ms ≡ descriptions ds
unfolding descriptions
parallel_same removed [] [] h = refl
parallel_same removed [] (m ∷ []) h = rw h.0
parallel_same removed [] (m ∷ n ∷ ms) h = let z : ◌≡◌ {A = ℕ} 0 1 = cc in absurd (omega arith)
parallel_same removed (d ∷ ds) [] h = elim h [ ]
parallel_same removed (d ∷ ds) (m ∷ ms) h = rw (h.0.0, parallel_same removed ds ms h.1)

-- ---- the promises

module _ (db text records : List ℕ) (bytes count : ℕ) (e : Repairs (repair_outcome db text records) bytes count) where
  ok : Accepted db text records
  ok = accepted db text records bytes count e

  outcome : repair_outcome db text records ≡ done (mended db) text records
  outcome = accepted_done db text records ok

  size : length (mended db).text ≡ bytes
  size =
      let q : ◌≡◌ {A = Result Amounts Refusal} (Ok (record { bytes = length (mended db).text; records = length (mended db).records }))
      (Ok (record { bytes = bytes; records = count })) = rw outcome at e in
      let all : ◌≡◌ {A = Amounts} (record { bytes = length (mended db).text; records = length (mended db).records })
      (record { bytes = bytes; records = count }) = cc in
      ap (λ (a : Amounts). a.bytes) all

  written : take bytes (repair_outcome db text records).text ≡ (mended db).text
  written = rw outcome (take_at (mended db).text (drop (length (mended db).text) text) bytes size)

  second : (more : List ℕ) → repair_outcome (mended db).text text more
      ≡ record { answer = Ok (record { bytes = length (mended db).text; records = 0 }); text = (mended db).text ++ drop (length (mended db).text) text; records = more }
  second more =
      let m = (mended db).text in
      let same : mended m ≡ record { text = m; records = [] } = mended-unchanged m (mended-sound db) in
      let same_lines = parallel_same (link_removals (lines_of db)) (left (lines_of db)) (lines_of m) (parallel db) in
      let few : descriptions (lines_of m) ≤ 4096 = omega (arith, same_lines, left_fewer (lines_of db), ok.1) in
      let room : length (mended m).text ≤ length text = rw same ok.2 in
      let none : length (flattened (mended m).records) ≤ length more = rw same (unfold flattened in omega arith) in
      accepted_done m text more (omega (arith, mended-short db, ok.0), few, room, none) ∙ rw same (unfold flattened in refl)

  promises : RepairPromises db text records bytes
  promises = record {
    sound = rw written (mended-sound db);
    followed = rw written (terminal-sound (mended db).text (mended-sound db));
    unchanged = λ s. outcome ∙ (rw (mended-unchanged db s) (unfold flattened in refl));
    no_longer = omega (arith, mended-short db, size);
    again = λ more. rw (written, outcome, ← size) (second more);
  }

-- THE STATEMENT OF ASK 2.
pub promised : Promised
promised db text records bytes count e = promises db text records bytes count e
