-- ASK 8: a finder that was fed a whole file answers with the line that the search finds in it; and the other promises of its calls.
-- Assumes nothing.
use Rattle.std.specs.Prelude.{Option, Some, None, Result, Ok, Err}
use Prim.Native.Nat.{ℕ, ◌+◌, ◌-◌, ◌≤◌, ◌<◌}
use mathlib.Core.Path.{◌≡◌, refl, ◌∙◌, ap}
use mathlib.Core.Bool.{Bool, true, false, not}
use mathlib.Core.List.{List, [], ◌∷◌, ◌++◌}
use native.Mathlib.Numerals.{add-one}
use native.Mathlib.Omega.{arith}
use borrow.Author.Tests.{ne_eqb, ltb-true, ltb-false, leb-true, leb-false, lt-ltb, le-ltb}
use lib.Dec.{eqb, ltb, leb}
use lib.ListN.{length, take, drop, set, replicate}
use lib.Seq.{sets, length-sets, take-append_seam, length-take-le}
use Rattle.spec.specs.Choice.{pick, both}
use Rattle.spec.specs.Refusals.{good_name}
use Rattle.spec.specs.Lines.{Text, end, byte, join, text_at, Line, line_text, later_lines, lines_from, is_ignored, has_name, find, find_line, line_at}
use Rattle.spec.specs.Lookup.{Hit, none, hit}
use Rattle.spec.specs.Answers.{Outcome, keeping, put}
use Rattle.spec.specs.declared.Refusal.TheVariants.{UnknownName, ChainTooLarge, NoRoom, InvalidState}
use Rattle.spec.specs.declared.finder.Finder.{Finder}
use Rattle.spec.specs.Finder.{Collecting, collecting, line_start, feeding, fed, finished, turn, opened_finder, feed_turn, end_turn, finder_outcome}
use Rattle.laws.proofs.Judging.{good-name-short}
use Rattle.laws.proofs.Stores.{stored_taken}
use Rattle.laws.proofs.WholeLines.{drop_on}
use Rattle.demands.specs.Finder.{whole, line_outcome, Finds}
use Rattle.demands.proofs.Cutting.{run, fed_runs, feed_none, cut}
use Rattle.demands.proofs.Collected.{gathered, after_line, Reached, line_run}
use Rattle.spec.specs.declared.Refusal.{Refusal}

-- ---- the lines of a file, by their texts

unfoldable first_text : List ℕ → List Line → Hit
first_text name [] = none
first_text name (l ∷ ls) = pick (both (not (is_ignored l.text)) (has_name name l.text)) (hit l.text) (first_text name ls)

-- how a run ends, in a buffer of m bytes
abbrev Ends : Hit → ℕ → Collecting → Type 0
Ends none m z = (t : List ℕ) × (z ≡ line_start t)
Ends (hit l) m z = (t : List ℕ) × (length t ≡ m) × (z ≡ gathered 0 t l)

module _ (name : List ℕ) (short : length name ≤ 64) where
  lines_end : (at : ℕ) (u : Text) (t : List ℕ) → ((t' : List ℕ) → Ends (first_text name (later_lines u)) (length t') (after_line name t' u))
      → Ends (first_text name (lines_from at u)) (length t) (run name (line_start t) u)
  unfolding first_text
  lines_end at u t ih = go (both (not (is_ignored (line_text u))) (has_name name (line_text u))) (line_run name short u t)
    where
      go : (x : Bool) → Reached name short x 0 t u (run name (line_start t) u)
          → Ends (pick x (hit (line_text u)) (first_text name (later_lines u))) (length t) (run name (line_start t) u)
      go true r = (t, refl, r)
      go false r = rw (r.2, ← r.1) (ih r.0)

  later_end : (u : Text) (t : List ℕ) → Ends (first_text name (later_lines u)) (length t) (after_line name t u)
  unfolding first_text later_lines after_line
  later_end end t = (t, refl)
  later_end (byte b n u) t = go (eqb b 10) (λ t'. later_end u t')
    where
      go : (x : Bool) → ((t' : List ℕ) → Ends (first_text name (later_lines u)) (length t') (after_line name t' u))
          → Ends (first_text name (pick x (lines_from n u) (later_lines u))) (length t) (pick x (run name (line_start t) u) (after_line name t u))
      go true ih = lines_end n u t ih
      go false ih = ih t

  file-end : (at : ℕ) (u : Text) (t : List ℕ) → Ends (first_text name (lines_from at u)) (length t) (run name (line_start t) u)
  file-end at u t = lines_end at u t (λ t'. later_end u t')

-- ---- the line that the search finds

abbrev AllAt : List ℕ → List Line → Type 0
AllAt db [] = Unit {0}
AllAt db (l ∷ ls) = (l.text ≡ line_at db l.start) × AllAt db ls

module _ (db : List ℕ) where
  at_byte : (b at : ℕ) (u : Text) → line_text u ≡ line_at db at → AllAt db (later_lines u) → AllAt db (later_lines (byte b at u))
  unfolding later_lines
  at_byte b at u e h = go (eqb b 10)
    where
      go : (x : Bool) → AllAt db (pick x (lines_from at u) (later_lines u))
      go true = (e, h)
      go false = h

  lines_at : (at : ℕ) (s : List ℕ) → s ≡ drop at db → AllAt db (later_lines (join at s))
  unfolding join later_lines line_at text_at
  lines_at at [] d = tt
  lines_at at (b ∷ []) d = at_byte b (at + 1) end (rw (← drop_on b [] at db d)) tt
  lines_at at (b ∷ c ∷ s) d =
      let d₁ : c ∷ s ≡ drop (at + 1) db = drop_on b (c ∷ s) at db d in
      go (both (eqb b 92) (eqb c 10)) d₁ (lines_at (at + 1 + 1) s (drop_on c s (at + 1) db d₁)) (lines_at (at + 1) (c ∷ s) d₁)
    where
      go : (x : Bool) → c ∷ s ≡ drop (at + 1) db → AllAt db (later_lines (join (at + 1 + 1) s)) → AllAt db (later_lines (join (at + 1) (c ∷ s)))
          → AllAt db (later_lines (pick x (join (at + 1 + 1) s) (byte b (at + 1) (join (at + 1) (c ∷ s)))))
      go true d₁ h k = h
      go false d₁ h k = at_byte b (at + 1) (join (at + 1) (c ∷ s)) (rw (← d₁)) k

  abbrev text_found : Option ℕ → Hit
  text_found None = none
  text_found (Some p) = hit (line_at db p)

  found-text : (name : List ℕ) (ls : List Line) → AllAt db ls → first_text name ls ≡ text_found (find name ls)
  unfolding first_text find
  found-text name [] h = refl
  found-text name (l ∷ ls) h = go (both (not (is_ignored l.text)) (has_name name l.text)) (found-text name ls h.1)
    where
      go : (x : Bool) → first_text name ls ≡ text_found (find name ls)
          → pick x (hit l.text) (first_text name ls) ≡ text_found (pick x (Some l.start) (find name ls))
      go true e = ap hit h.0
      go false e = e

  file-text : (name : List ℕ) → first_text name (lines_from 0 (join 0 db)) ≡ text_found (find_line db name)
  unfolding find_line text_at
  file-text name = found-text name (lines_from 0 (join 0 db)) (unfold line_at text_at in refl, lines_at 0 db refl)

-- ---- what is gathered of a line

gathered_short : (l : List ℕ) (c : ℕ) (t : List ℕ) → c + length l ≤ 16385 → gathered c t l ≡ collecting 4 0 (c + length l) (sets t c l)
unfolding gathered
gathered_short [] c t h = let e : c ≡ c + 0 = omega arith in ap (λ (n : ℕ). collecting 4 0 n t) e
gathered_short (b ∷ l) c t h =
    let i : c < 16385 = omega (arith, h) in
    let j : c + 1 + length l ≤ 16385 = omega (arith, h) in
    let e : c + 1 + length l ≡ c + length (b ∷ l) = omega arith in
    rw (lt-ltb c 16385 i, gathered_short l (c + 1) (set t c b) j, e, add-one)

-- a line of at most 16,384 bytes, from its start
gathered_line : (l t : List ℕ) → length l ≤ 16384 → gathered 0 t l ≡ collecting 4 0 (length l) (sets t 0 l)
gathered_line l t h =
    let z : 0 + length l ≡ length l = omega arith in
    gathered_short l 0 t (omega (arith, h)) ∙ ap (λ (n : ℕ). collecting 4 0 n (sets t 0 l)) z

gathered_long : (l : List ℕ) (c : ℕ) (t : List ℕ) → c ≤ 16385 → 16385 ≤ c + length l → ((gathered c t l).line.count ≡ 16385) × ((gathered c t l).line.stage ≡ 4)
unfolding gathered
gathered_long [] c t h k = (omega (arith, h, k), refl)
gathered_long (b ∷ l) c t h k = go (ltb c 16385) refl (λ i. gathered_long l (c + 1) (set t c b) (omega (arith, i)) (omega (arith, k)))
    (λ i. gathered_long l c t h (omega (arith, i)))
  where
    go : (x : Bool) → ltb c 16385 ≡ x
        → (c < 16385 → ((gathered (c + 1) (set t c b) l).line.count ≡ 16385) × ((gathered (c + 1) (set t c b) l).line.stage ≡ 4))
        → (16385 ≤ c → ((gathered c t l).line.count ≡ 16385) × ((gathered c t l).line.stage ≡ 4))
        → ((pick x (gathered (c + 1) (set t c b) l) (gathered c t l)).line.count ≡ 16385) × ((pick x (gathered (c + 1) (set t c b) l)
        (gathered c t l)).line.stage ≡ 4)
    go true e more full = more (ltb-true c 16385 e)
    go false e more full = full (ltb-false c 16385 e)

-- ---- the answer

abbrev outcome_at : Collecting → List ℕ → Outcome (Result ℕ Refusal)
outcome_at z buffer =
    let n = z.line.count in
    let copied = pick (leb n (length z.text)) (put (take n z.text) n buffer) (keeping (Err NoRoom) buffer) in
    let collected = pick (ltb 16384 n) (keeping (Err ChainTooLarge) buffer) copied in
    pick (eqb z.line.stage 4) collected (keeping (Err UnknownName) buffer)

ends_outcome : (db : List ℕ) (m : ℕ) (f : Option ℕ) (z : Collecting) (buffer : List ℕ) → Ends (text_found db f) m z
    → outcome_at z buffer ≡ line_outcome db m f buffer
unfolding line_outcome
ends_outcome db m None z buffer (t, e) = rw e
ends_outcome db m (Some p) z buffer (t, n, e) = go (ltb 16384 (length l)) refl
  where
    l : List ℕ
    l = line_at db p

    no : Outcome (Result ℕ Refusal)
    no = keeping (Err NoRoom) buffer

    copied : (y : Bool) → leb (length l) m ≡ y → pick y (put (take (length l) (sets t 0 l)) (length l) buffer) no ≡ pick y (put l (length l) buffer) no
    copied true h =
        let i : length l ≤ length t = rw (← n) at (leb-true (length l) m h) in
        ap (λ (s : List ℕ). put s (length l) buffer) (stored_taken t l i (length l) refl)
    copied false h = refl

    go : (x : Bool) → ltb 16384 (length l) ≡ x
        → outcome_at z buffer ≡ pick x (keeping (Err ChainTooLarge) buffer) (pick (leb (length l) m) (put l (length l) buffer) no)
    go true h =
        let i : 16384 < length l = ltb-true 16384 (length l) h in
        let g = gathered_long l 0 t (omega arith) (omega (arith, i)) in
        rw (e, g.1, g.0)
    go false h =
        let i : length l ≤ 16384 = ltb-false 16384 (length l) h in
        rw (e, gathered_line l t i, le-ltb 16384 (length l) i, length-sets t 0 l, n) (copied (leb (length l) m) refl)

-- ---- the whole file

module _ (name : List ℕ) (good : good_name name ≡ true) (text db : List ℕ) where
  asked : take (length name) (name ++ replicate (64 - length name) 0) ≡ name
  asked = take-append_seam name (replicate (64 - length name) 0)

  abbrev reached : Collecting
  reached = finished name (fed name (feeding 0 (line_start text)) db)

  whole_outcome : (buffer : List ℕ) → finder_outcome (whole name text db).finder (whole name text db).text buffer ≡ outcome_at reached buffer
  unfolding opened_finder feed_turn end_turn finder_outcome
  whole_outcome buffer = rw (good, asked)

  ends : Ends (text_found db (find_line db name)) (length text) reached
  ends = rw ((fed_runs name db 0 (line_start text)).0, ← file-text db name) (file-end name (good-name-short name good) 0 (join 0 db) text)

  answer : (buffer : List ℕ)
      → finder_outcome (whole name text db).finder (whole name text db).text buffer ≡ line_outcome db (length text) (find_line db name) buffer
  answer buffer = whole_outcome buffer ∙ ends_outcome db (length text) (find_line db name) reached buffer ends

-- ---- 17, and the room for the text

too_late : (f : Finder) (text block : List ℕ) → (f.ended ≡ 0 → ⊥) → (feed_turn f text block ≡ turn 17 f text) × (end_turn f text ≡ turn 17 f text)
unfolding feed_turn end_turn
too_late f text block h = rw (ne_eqb f.ended 0 h) (refl, refl)

too_early : (f : Finder) (text buffer : List ℕ) → f.ended ≡ 0 → finder_outcome f text buffer ≡ keeping (Err InvalidState) buffer
unfolding finder_outcome
too_early f text buffer e = rw e

text_enough : (f : Finder) (text buffer : List ℕ) → 16384 ≤ length text → (finder_outcome f text buffer).answer ≡ Err NoRoom → length buffer < f.line.count
unfolding finder_outcome put
text_enough f text buffer h =
    go (eqb f.ended 0) (eqb f.line.stage 4) (ltb 16384 n) refl (leb n (length text)) refl (leb (length line) (length buffer)) refl
  where
    n : ℕ
    n = f.line.count

    line : List ℕ
    line = take n text

    no : Outcome (Result ℕ Refusal)
    no = keeping (Err NoRoom) buffer

    written : Outcome (Result ℕ Refusal)
    written = record { answer = Ok n; buffer = line ++ drop (length line) buffer }

    found : Bool → Bool → Bool → Outcome (Result ℕ Refusal)
    found z u v = pick z (keeping (Err ChainTooLarge) buffer) (pick u (pick v written no) no)

    go : (x y z : Bool) → ltb 16384 n ≡ z → (u : Bool) → leb n (length text) ≡ u → (v : Bool) → leb (length line) (length buffer) ≡ v
        → (pick x (keeping (Err InvalidState) buffer) (pick y (found z u v) (keeping (Err UnknownName) buffer))).answer ≡ Err NoRoom
        → length buffer < n
    go true y z p u q v w e = let c : ◌≡◌ {A = ℕ} 0 1 = cc in absurd (omega arith)
    go false false z p u q v w e = let c : ◌≡◌ {A = ℕ} 0 1 = cc in absurd (omega arith)
    go false true true p u q v w e = let c : ◌≡◌ {A = ℕ} 0 1 = cc in absurd (omega arith)
    go false true false p false q v w e =
        let i : n ≤ 16384 = ltb-false 16384 n p in
        let j : length text < n = leb-false n (length text) q in
        absurd (omega (arith, h, i, j))
    go false true false p true q true w e = let c : ◌≡◌ {A = ℕ} 0 1 = cc in absurd (omega arith)
    go false true false p true q false w e =
        let i : length line ≡ n = length-take-le n text (leb-true n (length text) q) in
        let j : length buffer < length line = leb-false (length line) (length buffer) w in
        omega (arith, i, j)

pub finds : Finds
finds =
    record {
      cut = cut;
      no_bytes = feed_none;
      answer = λ name text file buffer good. answer name good text file buffer;
      too_late = too_late;
      too_early = too_early;
      text_enough = text_enough;
    }
