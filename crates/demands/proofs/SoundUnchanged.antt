-- A sound database comes back unchanged, with no records.
-- Assumes nothing.
use Rattle.std.specs.Prelude.{Option, Some, None}
use Prim.Native.Nat.{ℕ, zero, suc, ◌+◌}
use mathlib.Core.Path.{◌≡◌, refl, ◌∙◌, ap, sym}
use mathlib.Core.Bool.{Bool, true, false, not}
use mathlib.Core.List.{List, [], ◌∷◌, ◌++◌, append_assoc, append-nil}
use native.Mathlib.Omega.{arith}
use borrow.Author.Tests.{eqb-true}
use lib.Dec.{eqb}
use lib.ListN.{length}
use Rattle.spec.specs.Choice.{pick, both, either}
use Rattle.laws.proofs.Tests.{clash, both_true}
use Rattle.spec.specs.Lists.{upto, past, holds}
use Rattle.spec.specs.Lines.{text_at, join, Line, lines_from, is_ignored, find, find_line, line_at}
use Rattle.spec.specs.Fields.{
  split,
  fields_of,
  Reading,
  malformed,
  ignored,
  link,
  capability,
  reading,
  Verdict,
  malformed_line,
  no_link,
  link_to,
  is_ignored_field,
  all_ignored,
  judge,
  verdict,
}
use Rattle.laws.proofs.Judging.{judge_nil, judge-malformed, judge-ignored, judge_entry, judge-link, judge-after, verdict-colon, verdict-none}
use Rattle.spec.specs.Repair.{
  lines_of,
  is_dropped,
  left,
  field_reason,
  is_link,
  first_link,
  link_of,
  field_pieces,
  line_link,
  Link,
  with_link,
  links_among,
  leads,
  comes_back,
  link_reason,
  removed_links,
  reason_at,
  link_removals,
  Part,
  parts_from,
  parts_of,
  all_kept,
  mended_line,
  part_records,
  Mended,
  mend_line,
  mend_lines,
  mended,
  own_bytes,
}
use Rattle.demands.specs.OneFile.{target}
use Rattle.demands.specs.RepairPromises.{along, EachDescription, Sound}
use Rattle.laws.proofs.Chunks.{LineByLine, last, more, line_of, line-by-line}
use Rattle.laws.proofs.KeptFields.{cut_texts, split_pieced, pieces_pieced, pieces-flat}
use Rattle.demands.proofs.RepairSound.{EachText, each_text}

-- ---- a line that is not malformed keeps all its fields, and its link is the one of its verdict

ignored-kept : (place : ℕ) (ps : List (List ℕ)) → all_ignored (cut_texts ps) ≡ true → all_kept (parts_from true 0 place ps) ≡ true
unfolding all_kept parts_from cut_texts all_ignored field_reason is_ignored_field
ignored-kept place [] h = refl
ignored-kept place (p ∷ ps) h =
    let w = both_true (is_ignored_field (reading (upto 58 p))) (all_ignored (cut_texts ps)) h in
    go (reading (upto 58 p)) w.0 (ignored-kept (place + length p) ps w.1)
  where
    go : (x : Reading) → is_ignored_field x ≡ true → all_kept (parts_from true 0 (place + length p) ps) ≡ true
        → both (eqb (field_reason true 0 x) 0) (all_kept (parts_from true 0 (place + length p) ps)) ≡ true
    go malformed e ih = clash (sym e)
    go ignored e ih = ih
    go (link n) e ih = clash (sym e)
    go (capability a b c) e ih = clash (sym e)

clean_fields : (place : ℕ) (ps : List (List ℕ)) → (judge (cut_texts ps) ≡ malformed_line → ⊥)
    → (all_kept (parts_from false 0 place ps) ≡ true) × (link_of ps ≡ judge (cut_texts ps))
unfolding all_kept parts_from cut_texts field_reason link_of first_link is_link
clean_fields place [] n = (refl, sym judge_nil)
clean_fields place (p ∷ ps) n = go (reading (upto 58 p)) refl (clean_fields (place + length p) ps)
  where
    linked : (name : List ℕ) → reading (upto 58 p) ≡ link name → (x : Bool) → all_ignored (cut_texts ps) ≡ x
        → (all_kept (parts_from true 0 (place + length p) ps) ≡ true) × (link_to name ≡ judge (upto 58 p ∷ cut_texts ps))
    linked name e true s = (ignored-kept (place + length p) ps s, sym (judge-link (upto 58 p) (cut_texts ps) name e s))
    linked name e false s = absurd (n (judge-after (upto 58 p) (cut_texts ps) name e s))

    go : (x : Reading) → reading (upto 58 p) ≡ x
        → ((judge (cut_texts ps) ≡ malformed_line → ⊥) → (all_kept (parts_from false 0 (place + length p) ps) ≡ true) × (link_of ps ≡ judge (cut_texts ps)))
        → (both (eqb (field_reason false 0 x) 0) (all_kept (parts_from (is_link x) 0 (place + length p) ps)) ≡ true)
        × (first_link x (link_of ps) ≡ judge (upto 58 p ∷ cut_texts ps))
    go malformed e ih = absurd (n (judge-malformed (upto 58 p) (cut_texts ps) e))
    go ignored e ih =
        let w = ih (λ q. n (judge-ignored (upto 58 p) (cut_texts ps) e ∙ q)) in
        (w.0, w.1 ∙ sym (judge-ignored (upto 58 p) (cut_texts ps) e))
    go (link name) e ih = linked name e (all_ignored (cut_texts ps)) refl
    go (capability a b c) e ih =
        let w = ih (λ q. n (judge_entry (upto 58 p) (cut_texts ps) a b c e ∙ q)) in
        (w.0, w.1 ∙ sym (judge_entry (upto 58 p) (cut_texts ps) a b c e))

module _ (l : List ℕ) (good : verdict l ≡ malformed_line → ⊥) where
  clean_colon : holds 58 l ≡ true
  clean_colon = go (holds 58 l) refl
    where
      go : (x : Bool) → holds 58 l ≡ x → x ≡ true
      go true e = refl
      go false e = absurd (good (verdict-none l e))

  clean_verdict : verdict l ≡ judge (cut_texts (field_pieces l))
  unfolding fields_of field_pieces
  clean_verdict = verdict-colon l clean_colon ∙ ap judge (ap split (sym (pieces-flat (past 58 l))) ∙ split_pieced _ (pieces_pieced (past 58 l)))

  -- LAW: a line that is not malformed has nothing to be removed by the second pass, and its link is that of its verdict
  pub clean : (all_kept (parts_of 0 l) ≡ true) × (link_of (field_pieces l) ≡ verdict l)
  unfolding parts_of
  clean =
      let w : (all_kept (parts_of 0 l) ≡ true) × (link_of (field_pieces l) ≡ judge (cut_texts (field_pieces l))) =
      clean_fields _ (field_pieces l) (λ e. good (clean_verdict ∙ e)) in
      (w.0, w.1 ∙ sym clean_verdict)

no_records : (n : ℕ) (fs : List Part) → all_kept fs ≡ true → part_records n fs ≡ []
unfolding part_records all_kept
no_records n [] h = refl
no_records n (f ∷ fs) h =
    let w = both_true (eqb f.reason 0) (all_kept fs) h in
    rw w.0 (no_records n fs w.1)

-- ---- with no link removed, each line is written as it was

abbrev Plain : List Line → Type 0
Plain [] = Unit {0}
Plain (l ∷ ls) = (is_ignored l.text ≡ false → verdict l.text ≡ malformed_line → ⊥) × Plain ls

plain-line : (db : List ℕ) (n : ℕ) (l : Line) → (is_ignored l.text ≡ false → verdict l.text ≡ malformed_line → ⊥)
    → mend_line db 0 n l ≡ record { text = own_bytes db l.start; records = [] }
unfolding mend_line mended_line
plain-line db n l h = go (is_ignored l.text) refl
  where
    go : (x : Bool) → is_ignored l.text ≡ x → mend_line db 0 n l ≡ record { text = own_bytes db l.start; records = [] }
    go true e = rw e
    go false e =
        let c = clean l.text (h e) in
        rw (e, clean_colon l.text (h e), no_records n (parts_of 0 l.text) c.0, c.0)

plain-from : (db : List ℕ) {at : ℕ} {s : List ℕ} → LineByLine db at s → Plain (lines_from at (join at s)) → (n : ℕ)
    → mend_lines db [] n (lines_from at (join at s)) ≡ record { text = s; records = [] }
unfolding mend_lines reason_at
plain-from db (last at s o own) h n =
    rw ((o at 0).0, plain-line db n (line_of at s) h.0, own) (ap (λ (x : List ℕ). record { text = x; records = [] }) (append-nil s))
plain-from db (more at c t r chunk own rest) h n =
    rw ((chunk at r).1, plain-line db n (line_of at (c ++ r)) h.0, own)
    (ap (λ (m : Mended). record { text = c ++ m.text; records = m.records }) (plain-from db rest (rw (chunk at r).1 at h.1) (n + 1)))

-- ---- a sound database: nothing is dropped, and no link removed

each_plain : (db : List ℕ) (ls : List Line) → EachText db ls → EachDescription (λ p. verdict (line_at db p) ≡ malformed_line → ⊥) ls → Plain ls
each_plain db [] t h = tt
each_plain db (l ∷ ls) t h = ((λ i e. h.0 i (rw t.0 at e)), each_plain db ls t.1 h.1)

left-all : (ls : List Line) → Plain ls → left ls ≡ ls
unfolding left is_dropped
left-all [] h = refl
left-all (l ∷ ls) h = go (is_ignored l.text) refl (left-all ls h.1)
  where
    go : (x : Bool) → is_ignored l.text ≡ x → left ls ≡ ls
        → pick (both (not (is_ignored l.text)) (not (holds 58 l.text))) (left ls) (l ∷ left ls) ≡ l ∷ ls
    go true e ih = rw e (ap (λ (k : List Line). l ∷ k) ih)
    go false e ih = rw (e, clean_colon l.text (h.0 e)) (ap (λ (k : List Line). l ∷ k) ih)

link-ignored : (l : List ℕ) → is_ignored l ≡ true → line_link l ≡ no_link
unfolding line_link
link-ignored l i = rw i

link-plain : (l : List ℕ) → is_ignored l ≡ false → line_link l ≡ link_of (field_pieces l)
unfolding line_link
link-plain l i = rw i

target_is : (db : List ℕ) (p : ℕ) (name : List ℕ) → verdict (line_at db p) ≡ link_to name → target db (verdict (line_at db p)) ≡ find_line db name
unfolding target
target_is db p name v = rw v

searched : (db name : List ℕ) → find name (lines_of db) ≡ find_line db name
unfolding find_line lines_of
searched db name = refl

module _ (db : List ℕ) (sound : Sound db) where
  abbrev ls : List Line
  ls = lines_of db

  -- where the link of a line leads in document 01's walk
  abbrev onward : ℕ → Option ℕ
  onward p = target db (verdict (line_at db p))

  -- the links of the third pass lead there, and are found, and do not come back
  abbrev Fine : List Link → Type 0
  Fine [] = Unit {0}
  Fine (k ∷ ks) = ((k.to ≡ onward k.at) × (k.to ≡ None → ⊥) × ((n : ℕ) → along db (suc n) (Some k.at) ≡ Some k.at → ⊥)) × Fine ks

  fine_with : (l : Line) (ks : List Link) → (is_ignored l.text ≡ false → (line_link l.text ≡ verdict (line_at db l.start))
      × ((name : List ℕ) → verdict (line_at db l.start) ≡ link_to name → find_line db name ≡ None → ⊥)
      × ((n : ℕ) → along db (suc n) (Some l.start) ≡ Some l.start → ⊥))
      → (v : Verdict) → line_link l.text ≡ v → Fine ks → Fine (with_link ls l.start v ks)
  unfolding with_link
  fine_with l ks h malformed_line e f = f
  fine_with l ks h no_link e f = f
  fine_with l ks h (link_to name) e f = go (is_ignored l.text) refl
    where
      go : (x : Bool) → is_ignored l.text ≡ x → Fine (record { at = l.start; to = find name ls } ∷ ks)
      go true i = let z : no_link ≡ link_to name = sym (link-ignored l.text i) ∙ e in let w : ◌≡◌ {A = ℕ} 0 1 = cc in absurd (omega arith)
      go false i =
          let w = h i in
          let v : verdict (line_at db l.start) ≡ link_to name = sym w.0 ∙ e in
          ((searched db name ∙ sym (target_is db l.start name v), (λ q. w.1 name v (sym (searched db name) ∙ q)), w.2), f)

  fine_links : (es : List Line) → EachText db es → Plain es
      → EachDescription (λ p. (name : List ℕ) → verdict (line_at db p) ≡ link_to name → find_line db name ≡ None → ⊥) es
      → EachDescription (λ p. (n : ℕ) → along db (suc n) (Some p) ≡ Some p → ⊥) es → Fine (links_among ls es)
  unfolding links_among
  fine_links [] t p a c = tt
  fine_links (l ∷ es) t p a c = fine_with l (links_among ls es) here (line_link l.text) refl (fine_links es t.1 p.1 a.1 c.1)
    where
      here : is_ignored l.text ≡ false → (line_link l.text ≡ verdict (line_at db l.start))
          × ((name : List ℕ) → verdict (line_at db l.start) ≡ link_to name → find_line db name ≡ None → ⊥)
          × ((n : ℕ) → along db (suc n) (Some l.start) ≡ Some l.start → ⊥)
      here i = (link-plain l.text i ∙ (clean l.text (p.0 i)).1 ∙ ap verdict t.0, a.0 i, c.0 i)

  leads-target : (ks : List Link) → Fine ks → (p q : ℕ) → leads ks p ≡ Some q → onward p ≡ Some q
  unfolding leads
  leads-target [] f p q e = let z : ◌≡◌ {A = ℕ} 0 1 = cc in absurd (omega arith)
  leads-target (k ∷ ks) f p q e = go (eqb k.at p) refl e (leads-target ks f.1 p q)
    where
      go : (x : Bool) → eqb k.at p ≡ x → pick x k.to (leads ks p) ≡ Some q → (leads ks p ≡ Some q → onward p ≡ Some q) → onward p ≡ Some q
      go true s w ih = rw (← eqb-true k.at p s) (sym f.0.0 ∙ w)
      go false s w ih = ih w

  -- links that come back are a cycle of the database
  back-along : (ks : List Link) → Fine ks → (home n p : ℕ) → comes_back ks n home (Some p) ≡ true → (m : ℕ) × (along db m (Some p) ≡ Some home)
  unfolding comes_back along
  back-along ks f home zero p e = clash (sym e)
  back-along ks f home (suc n) p e = go (eqb p home) refl e (back-along ks f home n)
    where
      on : (g : Option ℕ) → leads ks p ≡ g → comes_back ks n home g ≡ true → ((q : ℕ) → comes_back ks n home (Some q) ≡ true → (m : ℕ) × (along db m (Some q) ≡ Some home))
          → (m : ℕ) × (along db m (Some p) ≡ Some home)
      on None s w ih = lost n w
        where
          lost : (n : ℕ) → comes_back ks n home None ≡ true → (m : ℕ) × (along db m (Some p) ≡ Some home)
          lost zero w = clash (sym w)
          lost (suc n) w = clash (sym w)
      on (Some q) s w ih =
          let r = ih q w in
          (suc r.0, ap (along db r.0) (leads-target ks f p q s) ∙ r.1)

      go : (x : Bool) → eqb p home ≡ x → either x (comes_back ks n home (leads ks p)) ≡ true
          → ((q : ℕ) → comes_back ks n home (Some q) ≡ true → (m : ℕ) × (along db m (Some q) ≡ Some home))
          → (m : ℕ) × (along db m (Some p) ≡ Some home)
      go true s w ih = (0, ap Some (eqb-true p home s))
      go false s w ih = on (leads ks p) refl w ih

  kept-reason : (ks : List Link) → Fine ks → (k : Link)
      → (k.to ≡ onward k.at) × (k.to ≡ None → ⊥) × ((n : ℕ) → along db (suc n) (Some k.at) ≡ Some k.at → ⊥)
      → link_reason ks k.at k.to ≡ 0
  unfolding link_reason along
  kept-reason ks f k h = go k.to refl
    where
      go : (g : Option ℕ) → k.to ≡ g → link_reason ks k.at g ≡ 0
      go None e = absurd (h.1 e)
      go (Some p) e = cyclic (comes_back ks (length ks) k.at (Some p)) refl
        where
          cyclic : (x : Bool) → comes_back ks (length ks) k.at (Some p) ≡ x → ◌≡◌ {A = ℕ} (pick x 5 0) 0
          cyclic true s =
              let r = back-along ks f k.at (length ks) p s in
              absurd (h.2 r.0 (ap (along db r.0) (sym h.0 ∙ e) ∙ r.1))
          cyclic false s = refl

  none_removed : (passed ks : List Link) → Fine (passed ++ ks) → Fine ks → removed_links passed ks ≡ []
  unfolding removed_links
  none_removed passed [] f g = refl
  none_removed passed (k ∷ ks) f g =
      let e : link_reason (passed ++ k ∷ ks) k.at k.to ≡ 0 = kept-reason (passed ++ k ∷ ks) f k g.0 in
      rw e (none_removed (passed ++ k ∷ []) ks (rw (append_assoc passed (k ∷ []) ks) f) g.1)

  plain : Plain ls
  plain = each_plain db ls (each_text db) sound.well_formed

  nothing_removed : link_removals (lines_of db) ≡ []
  unfolding link_removals
  nothing_removed =
      let f = fine_links ls (each_text db) plain sound.no_lost_link sound.no_cycle in
      rw (left-all ls plain) (none_removed [] (links_among ls ls) f f)

  -- "COMES BACK UNCHANGED WITH NO RECORDS"
  pub mended-unchanged : mended db ≡ record { text = db; records = [] }
  unfolding mended
  mended-unchanged = rw nothing_removed (whole plain)
    where
      whole : Plain (lines_of db) → mend_lines db [] 0 (lines_of db) ≡ record { text = db; records = [] }
      whole h = unfold lines_of text_at in plain-from db (line-by-line db) (unfold lines_of text_at in h) 0
