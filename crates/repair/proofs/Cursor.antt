-- The cursor into the links that goes along with the lines: the links from the cursor on are those of the lines from a place on, so the link
-- of the line at that place, if it has one, is the cursor's.
-- Assumes nothing.
use Prim.Native.Nat.{ℕ, zero, suc, ◌+◌, ◌-◌, ◌≤◌, ◌<◌}
use mathlib.Core.Path.{◌≡◌, refl, ◌∙◌, ap, sym}
use mathlib.Core.Logic.{◌⊎◌, inl, inr, ⊎_elim}
use mathlib.Core.Bool.{Bool, true, false}
use mathlib.Core.List.{List, [], ◌∷◌, ◌++◌}
use native.Mathlib.Numerals.{add-one}
use native.Mathlib.Omega.{arith}
use borrow.Author.Count.{below_more}
use borrow.Author.Tests.{ne_eqb, leb-true, leb-false}
use lib.Dec.{eqb, leb}
use lib.ListN.{length, drop, get_or, length-drop}
use lib.Seq.{get_or-drop}
use Rattle.spec.specs.Choice.{pick}
use Rattle.spec.specs.Lines.{text_at, Line, line_text, later_lines, lines_from}
use Rattle.spec.specs.Fields.{Verdict, malformed_line, no_link, link_to}
use Rattle.spec.specs.Repair.{lines_of, is_dropped, left, line_link, Link, with_link, links_among, link_reason, removed_links, reason_at, link_removals}
use Rattle.laws.proofs.LinkRings.{Fresh}
use Rattle.laws.proofs.RisingLines.{Rising, rising-from, rising-left, rising-after}
use Rattle.link_list.specs.Listing.{start_of, link_starts, Reasons}
use Rattle.repair.specs.declared.LineReason.{LineReason}
use Rattle.repair.specs.Answers.{Judged, ReasonFound}

-- ---- a line whose place is not listed has no reason

abbrev Absent : ℕ → List ℕ → Type 0
Absent p l = (i : ℕ) → i < length l → get_or l i 0 ≡ p → ⊥

start_fresh : (among : List Line) (p at : ℕ) (v : Verdict) (starts : List ℕ) (ks : List Link) → (Absent p starts → Fresh p ks)
    → Absent p (start_of at v starts) → Fresh p (with_link among at v ks)
unfolding start_of with_link
start_fresh among p at malformed_line starts ks ih a = ih a
start_fresh among p at no_link starts ks ih a = ih a
start_fresh among p at (link_to n) starts ks ih a = (a 0 (omega arith), ih (λ i h e. a (suc i) (omega arith) e))

starts_fresh : (among : List Line) (p : ℕ) (ls : List Line) → Absent p (link_starts ls) → Fresh p (links_among among ls)
unfolding link_starts links_among
starts_fresh among p [] a = tt
starts_fresh among p (l ∷ ls) a = start_fresh among p l.start (line_link l.text) (link_starts ls) (links_among among ls) (starts_fresh among p ls) a

fresh_kept : (p : ℕ) (passed ks : List Link) → Fresh p ks → reason_at (removed_links passed ks) p ≡ 0
unfolding removed_links reason_at
fresh_kept p passed [] f = refl
fresh_kept p passed (k ∷ ks) f =
    let reason = link_reason (passed ++ k ∷ ks) k.at k.to in
    go reason (eqb reason 0) (fresh_kept p (passed ++ k ∷ []) ks f.1) (fresh_kept p passed ks f.1)
  where
    go : (reason : ℕ) (x : Bool) → reason_at (removed_links (passed ++ k ∷ []) ks) p ≡ 0 → reason_at (removed_links passed ks) p ≡ 0
        → reason_at (pick x (removed_links (passed ++ k ∷ []) ks) (record { at = k.at; reason = reason } ∷ removed_links passed ks)) p ≡ 0
    go reason true h g = h
    go reason false h g = rw (ne_eqb k.at p f.0) g

others_kept : (db : List ℕ) (p : ℕ) → Absent p (link_starts (left (lines_of db))) → reason_at (link_removals (lines_of db)) p ≡ 0
unfolding link_removals
others_kept db p a = fresh_kept p [] (links_among (left (lines_of db)) (left (lines_of db))) (starts_fresh (left (lines_of db)) p (left (lines_of db)) a)

-- ---- the links of lines start where the lines do

above_start : (a at : ℕ) (v : Verdict) (l : List ℕ) → a ≤ at → ((i : ℕ) → i < length l → a ≤ get_or l i 0)
    → (i : ℕ) → i < length (start_of at v l) → a ≤ get_or (start_of at v l) i 0
unfolding start_of
above_start a at malformed_line l h b i g = b i g
above_start a at no_link l h b i g = b i g
above_start a at (link_to n) l h b zero g = h
above_start a at (link_to n) l h b (suc i) g = b i (omega arith)

starts_above : (a : ℕ) (ls : List Line) → Rising a ls → (i : ℕ) → i < length (link_starts ls) → a ≤ get_or (link_starts ls) i 0
unfolding link_starts
starts_above a [] r i h = absurd (omega arith)
starts_above a (l ∷ ls) r i h =
    above_start a l.start (line_link l.text) (link_starts ls) r.0
    (starts_above a ls (rising-from a (suc l.start) ls (omega (arith, r.0)) r.1)) i h

-- The first line has the first link, or none.
first_start : (l : Line) (ls : List Line)
    → (link_starts (left (l ∷ ls)) ≡ l.start ∷ link_starts (left ls)) ⊎ (link_starts (left (l ∷ ls)) ≡ link_starts (left ls))
unfolding left
first_start l ls = go (is_dropped l.text)
  where
    verdict : (v : Verdict)
        → (start_of l.start v (link_starts (left ls)) ≡ l.start ∷ link_starts (left ls))
        ⊎ (start_of l.start v (link_starts (left ls)) ≡ link_starts (left ls))
    verdict malformed_line = unfold start_of in inr refl
    verdict no_link = unfold start_of in inr refl
    verdict (link_to n) = unfold start_of in inl refl

    go : (x : Bool)
        → (link_starts (pick x (left ls) (l ∷ left ls)) ≡ l.start ∷ link_starts (left ls))
        ⊎ (link_starts (pick x (left ls) (l ∷ left ls)) ≡ link_starts (left ls))
    go true = inr refl
    go false = unfold link_starts in verdict (line_link l.text)

-- ---- the cursor

drop_first : (l : List ℕ) (k x : ℕ) (xs : List ℕ) → drop k l ≡ x ∷ xs → (k < length l) × (get_or l k 0 ≡ x) × (drop (suc k) l ≡ xs)
drop_first [] zero x xs e = let z : ◌≡◌ {A = ℕ} 0 1 = cc in absurd (omega arith)
drop_first [] (suc k) x xs e = let z : ◌≡◌ {A = ℕ} 0 1 = cc in absurd (omega arith)
drop_first (a ∷ l) zero x xs e = (omega arith, cc, cc)
drop_first (a ∷ l) (suc k) x xs e = let w = drop_first l k x xs e in (omega (arith, w.0), w.1, w.2)

-- Before the line at a place.
pub record Cursor (db ats : List ℕ) (at k : ℕ) : Type 0 where
  pub coming : drop k ats ≡ link_starts (left (lines_from at (text_at db at)))
  pub passed : (i : ℕ) → i < k → get_or ats i 0 < at

-- Behind it.
pub record Behind (db ats : List ℕ) (at k : ℕ) : Type 0 where
  pub coming : drop k ats ≡ link_starts (left (later_lines (text_at db at)))
  pub passed : (i : ℕ) → i < k → get_or ats i 0 < suc at

pub cursor_first : (db ats : List ℕ) → ats ≡ link_starts (left (lines_of db)) → Cursor db ats 0 0
unfolding lines_of
cursor_first db ats e = record { coming = e; passed = λ i h. absurd (omega arith) }

pub cursor_next : (db ats : List ℕ) (at k n : ℕ) → Behind db ats at k → later_lines (text_at db at) ≡ lines_from n (text_at db n) → at < n
    → Cursor db ats n k
cursor_next db ats at k n b e h =
    record { coming = b.coming ∙ ap (λ (ls : List Line). link_starts (left ls)) e; passed = λ i g. let p = b.passed i g in omega (arith, p) }

module _ (db ats reasons : List ℕ) (judged : Judged db ats reasons) (at k : ℕ) (cursor : Cursor db ats at k) where
  abbrev Reason : LineReason → Type 0
  Reason r = (r.reason ≡ reason_at (link_removals (lines_of db)) at) × Behind db ats at r.next

  -- the line has the link k
  linked : (r : LineReason) → drop k ats ≡ at ∷ link_starts (left (later_lines (text_at db at))) → ReasonFound ats reasons k at r → Reason r
  unfolding Reasons
  linked r e (inl f) =
      let d = drop_first ats k at (link_starts (left (later_lines (text_at db at)))) e in (
        f.2 ∙ sym (judged.right k f.0) ∙ ap (reason_at (link_removals (lines_of db))) f.1,
        record {
          coming = rw (f.3, add-one k) d.2;
          passed = rw f.3 (below_more _ k (λ i h. let p = cursor.passed i h in omega (arith, p)) (omega (arith, f.1)));
        },
      )
  linked r e (inr f) = let d = drop_first ats k at (link_starts (left (later_lines (text_at db at)))) e in absurd (f.0 d.0 d.1)

  -- it has none: the coming links are of later lines
  module _ (e : drop k ats ≡ link_starts (left (later_lines (text_at db at)))) where
    later : (i : ℕ) → k ≤ i → i < length ats → at < get_or ats i 0
    later i g h =
        let ls = later_lines (text_at db at) in
        let there : k + (i - k) ≡ i = omega arith in
        let same : get_or ats i 0 ≡ get_or (link_starts (left ls)) (i - k) 0 =
        ap (λ (j : ℕ). get_or ats j 0) (sym there) ∙ sym (get_or-drop k ats (i - k) 0) ∙ ap (λ (l : List ℕ). get_or l (i - k) 0) e in
        let inside : i - k < length (link_starts (left ls)) = omega (arith, length-drop k ats, ap length e) in
        omega (arith, same, starts_above (suc at) (left ls) (rising-left (suc at) ls (rising-after db at)) (i - k) inside)

    unlinked : (r : LineReason) → ReasonFound ats reasons k at r → Reason r
    unlinked r (inl f) = let w = later k (omega arith) f.0 in absurd (omega (arith, w, f.1))
    unlinked r (inr f) = (
      f.1 ∙ sym (others_kept db at absent),
      record { coming = rw f.2 e; passed = rw f.2 (λ i h. let p = cursor.passed i h in omega (arith, p)) },
    )
      where
        not_listed : Absent at ats
        not_listed i h q = go (leb k i) refl
          where
            go : (x : Bool) → leb k i ≡ x → ⊥
            go true s = let w = later i (leb-true k i s) h in omega (arith, w, q)
            go false s = let p = cursor.passed i (leb-false k i s) in omega (arith, p, q)

        absent : Absent at (link_starts (left (lines_of db)))
        absent = rw judged.starts at not_listed

  pub reason-right : (r : LineReason) → ReasonFound ats reasons k at r → Reason r
  reason-right r f =
      ⊎_elim (λ e. linked r (cursor.coming ∙ e) f) (λ e. unlinked (cursor.coming ∙ e) r f)
      (first_start (record { start = at; text = line_text (text_at db at) }) (later_lines (text_at db at)))
