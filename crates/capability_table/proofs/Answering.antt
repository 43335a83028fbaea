-- The tables of what answers: over no field, over one field more, and the answer that they have for a question.
-- Assumes nothing.
use Rattle.std.specs.Prelude.{Some, None, Ok}
use Prim.Native.Nat.{ℕ, zero, suc, ◌%◌, ◌≤◌, ◌<◌}
use mathlib.Core.Path.{◌≡◌, refl, ◌∙◌, ap, sym}
use mathlib.Core.Bool.{Bool, true, false, not}
use mathlib.Core.List.{List, [], ◌∷◌, ◌++◌}
use native.Mathlib.Omega.{arith}
use borrow.Author.Tests.{eqb-true, ne_eqb}
use lib.Dec.{eqb}
use lib.ListN.{length, get_or, set, replicate, length-set, length-replicate}
use Rattle.spec.specs.Choice.{pick, both, either}
use Rattle.spec.specs.Lists.{same}
use Rattle.spec.specs.Fields.{Content, cancel, capability, reading, content_kind, content_value}
use Rattle.spec.specs.Chain.{Field}
use Rattle.spec.specs.Lookup.{Hit, none, hit, matches, lookup, cancelled, is_present, is_live, value_of}
use Rattle.spec.specs.Questions.{hit_answer}
use Rattle.laws.proofs.Tests.{both_false, both_true}
use Rattle.laws.proofs.WholeLines.{same_equal}
use Rattle.laws.proofs.LookupSteps.{lookup-passed, lookup_taken, cancelled_one_more}
use Rattle.capability_table.specs.Table.{has_entry, key_of, bit_of, with_bit, is_open, marked, bit}
use Rattle.capability_table.specs.Answers.{value_key, answers_now, kept_marks, kept_values, is_kept, kept_answer, is_marked, Answering}
use Rattle.capability_table.proofs.Entries.{Entry, entry, value-inside, same-value, other-value, stored_at, bit-after}
use Rattle.capability_table.proofs.Marking.{zeros, zero_bit, kind_small, placed}

no_hit : {A : Type 0} (t : List ℕ) → none ≡ hit t → A
no_hit t e = let z : ◌≡◌ {A = ℕ} 0 1 = cc in absurd (omega arith)

bit_is : (x : Bool) → eqb (bit x) 1 ≡ x
bit_is true = refl
bit_is false = refl

mark_live : (id : List ℕ) (k : ℕ) (fs : List Field) → 1 ≤ k → is_marked id k fs ≡ is_live id k fs
mark_live id zero fs h = absurd (omega arith)
mark_live id (suc k) fs h = refl

-- ---- no field

no_mark : (id : List ℕ) (k : ℕ) → is_marked id k [] ≡ false
unfolding lookup cancelled
no_mark id zero = refl
no_mark id (suc k) = refl

pub no_answers : Answering [] (replicate 8836 0) (replicate 26508 0)
unfolding lookup
no_answers = record {
  marks-size = length-replicate {A = ℕ} 8836 0;
  values-size = length-replicate {A = ℕ} 26508 0;
  marked = λ a b k h. rw (zeros 8836 (key_of a b), no_mark (a ∷ b ∷ []) k) (zero_bit k);
  kept = λ a b k t h i e. no_hit t e;
}

-- ---- one field more

module _ (fs : List Field) (f : Field) (marks values : List ℕ) (w : Answering fs marks values) where
  -- a mark stays where the field has neither the name and kind, nor cancels the name
  mark_stays : (id : List ℕ) (k : ℕ) → matches id k (reading f.text) ≡ false → is_marked id k (fs ++ f ∷ []) ≡ is_marked id k fs
  mark_stays id zero e = cancelled_one_more id fs f ∙ rw e (go (cancelled id fs))
    where
      go : (x : Bool) → either x false ≡ x
      go true = refl
      go false = refl
  mark_stays id (suc k) e = ap is_present (lookup-passed id (suc k) fs f e)

  -- a field that is no capability
  pub other-answers : ((id : List ℕ) (k : ℕ) → matches id k (reading f.text) ≡ false) → Answering (fs ++ f ∷ []) marks values
  other-answers h = record {
    marks-size = w.marks-size;
    values-size = w.values-size;
    marked = λ a b k p. rw (mark_stays (a ∷ b ∷ []) k (h (a ∷ b ∷ []) k)) (w.marked a b k p);
    kept = λ a b k t p i e. w.kept a b k t p i (sym (lookup-passed (a ∷ b ∷ []) k fs f (h (a ∷ b ∷ []) k)) ∙ e);
  }

  module _ (a b : ℕ) (c : Content) (reads : reading f.text ≡ capability a b c) where
    has : (k : ℕ) → k ≤ 3 → Entry a b k
    has k h = entry a b k (placed f.text a b c reads k h)

    -- whether the field has a name and the kind of a number
    abbrev here : ℕ → ℕ → ℕ → Bool
    here x y k = both (same (x ∷ y ∷ []) (a ∷ b ∷ [])) (eqb k (content_kind c))

    here_matches : (x y k : ℕ) → matches (x ∷ y ∷ []) k (reading f.text) ≡ here x y k
    unfolding matches
    here_matches x y k = rw reads

    elsewhere : (x y k : ℕ) → (k ≡ content_kind c → ⊥) → here x y k ≡ false
    elsewhere x y k h = rw (ne_eqb k (content_kind c) h) (both_false (same (x ∷ y ∷ []) (a ∷ b ∷ [])))

  module _ (a b : ℕ) (reads : reading f.text ≡ capability a b cancel) where
    cancel-marked : (x y k : ℕ) → pick (here a b cancel reads x y k) 1 (bit (is_marked (x ∷ y ∷ []) k fs)) ≡ bit (is_marked (x ∷ y ∷ []) k (fs ++ f ∷ []))
    cancel-marked x y zero =
        rw (cancelled_one_more (x ∷ y ∷ []) fs f, here_matches a b cancel reads x y 0) (go (here a b cancel reads x y 0) (cancelled (x ∷ y ∷ []) fs))
      where
        go : (s m : Bool) → pick s 1 (bit m) ≡ bit (either m s)
        go true true = refl
        go true false = refl
        go false true = refl
        go false false = refl
    cancel-marked x y (suc k) =
        let e = elsewhere a b cancel reads x y (suc k) (λ q. absurd (omega arith)) in
        rw (e, mark_stays (x ∷ y ∷ []) (suc k) (here_matches a b cancel reads x y (suc k) ∙ e))

    pub cancel-answers : Answering (fs ++ f ∷ []) (marked marks a b 0) values
    unfolding marked
    cancel-answers = rw (placed f.text a b cancel reads 0 (omega arith)) (record {
      marks-size = simp length-set w.marks-size;
      values-size = w.values-size;
      marked = λ x y k p. bit-after marks a b 0 x y k w.marks-size (has a b cancel reads 0 (omega arith)) (entry x y k p)
          ∙ rw (w.marked x y k p) (cancel-marked x y k);
      kept = λ x y k t p i e.
          let z = elsewhere a b cancel reads x y k (λ q. absurd (omega arith)) in
          w.kept x y k t p i (sym (lookup-passed (x ∷ y ∷ []) k fs f (here_matches a b cancel reads x y k ∙ z)) ∙ e);
    })

  -- a flag, a number or a string
  module _ (a b : ℕ) (c : Content) (reads : reading f.text ≡ capability a b c) (some : 1 ≤ content_kind c) where
    abbrev answers : Bool
    answers = answers_now marks a b (content_kind c)

    answers_is : answers ≡ not (either (cancelled (a ∷ b ∷ []) fs) (is_live (a ∷ b ∷ []) (content_kind c) fs))
    unfolding answers_now is_open
    answers_is =
        let p = placed f.text a b c reads (content_kind c) (kind_small c) in
        let z = placed f.text a b c reads 0 (omega arith) in
        rw (p, w.marked a b 0 z, w.marked a b (content_kind c) p, mark_live (a ∷ b ∷ []) (content_kind c) fs some)
        (rw (bit_is (cancelled (a ∷ b ∷ []) fs), bit_is (is_live (a ∷ b ∷ []) (content_kind c) fs)))

    nowhere : (x y : ℕ) → here a b c reads x y 0 ≡ false
    nowhere x y = elsewhere a b c reads x y 0 (λ q. absurd (omega arith))

    lookup-after : (x y k : ℕ) → lookup (x ∷ y ∷ []) k (fs ++ f ∷ []) ≡ pick (both answers (here a b c reads x y k)) (hit f.text) (lookup (x ∷ y ∷ []) k fs)
    lookup-after x y k = go (here a b c reads x y k) refl
      where
        opened : (t : Bool) (h : Hit) → pick t h (hit f.text) ≡ pick (both (not t) true) (hit f.text) h
        opened true h = refl
        opened false h = refl

        go : (s : Bool) → here a b c reads x y k ≡ s → lookup (x ∷ y ∷ []) k (fs ++ f ∷ []) ≡ pick (both answers s) (hit f.text) (lookup (x ∷ y ∷ []) k fs)
        go false e = lookup-passed (x ∷ y ∷ []) k fs f (here_matches a b c reads x y k ∙ e) ∙ rw (both_false answers)
        go true e =
            let u = both_true (same (x ∷ y ∷ []) (a ∷ b ∷ [])) (eqb k (content_kind c)) e in
            let n = same_equal (x ∷ y ∷ []) (a ∷ b ∷ []) u.0 in
            let j = eqb-true k (content_kind c) u.1 in
            lookup_taken (x ∷ y ∷ []) k fs f (here_matches a b c reads x y 0 ∙ nowhere x y) (here_matches a b c reads x y k ∙ e)
            ∙ rw (answers_is, ← n, ← j) (opened (either (cancelled (x ∷ y ∷ []) fs) (is_live (x ∷ y ∷ []) k fs)) (lookup (x ∷ y ∷ []) k fs))

    -- the marks and the values, by whether it answers
    bits_after : (x y k : ℕ) → has_entry x y k ≡ true
        → bit_of k (get_or (kept_marks marks a b (content_kind c)) (key_of x y) 0)
        ≡ pick (both answers (here a b c reads x y k)) 1 (bit_of k (get_or marks (key_of x y) 0))
    bits_after x y k p = go answers
      where
        go : (o : Bool) → bit_of k (get_or (pick o (set marks (key_of a b) (with_bit (content_kind c) (get_or marks (key_of a b) 0))) marks) (key_of x y) 0)
            ≡ pick (both o (here a b c reads x y k)) 1 (bit_of k (get_or marks (key_of x y) 0))
        go true = bit-after marks a b (content_kind c) x y k w.marks-size (has a b c reads (content_kind c) (kind_small c)) (entry x y k p)
        go false = refl

    values-after : (x y k : ℕ) → has_entry x y k ≡ true → 1 ≤ k
        → get_or (kept_values marks values a b (content_kind c) (content_value c)) (value_key x y k) 0
        ≡ pick (both answers (here a b c reads x y k)) (content_value c % 65536) (get_or values (value_key x y k) 0)
    values-after x y k p h = go answers
      where
        go : (o : Bool) → get_or (pick o (set values (value_key a b (content_kind c)) (content_value c % 65536)) values) (value_key x y k) 0
            ≡ pick (both o (here a b c reads x y k)) (content_value c % 65536) (get_or values (value_key x y k) 0)
        go true =
            let n = has a b c reads (content_kind c) (kind_small c) in
            let m = entry x y k p in
            stored_at values (value_key a b (content_kind c)) (value_key x y k) (content_value c % 65536) (here a b c reads x y k)
            (omega (arith, value-inside a b (content_kind c) n, w.values-size)) (same-value a b (content_kind c) x y k n m)
            (other-value a b (content_kind c) x y k n m some h)
        go false = refl

    kept-marked : (x y k : ℕ) → pick (both answers (here a b c reads x y k)) 1 (bit (is_marked (x ∷ y ∷ []) k fs))
        ≡ bit (is_marked (x ∷ y ∷ []) k (fs ++ f ∷ []))
    kept-marked x y zero =
        rw (nowhere x y, both_false answers, mark_stays (x ∷ y ∷ []) 0 (here_matches a b c reads x y 0 ∙ nowhere x y))
    kept-marked x y (suc k) = rw (lookup-after x y (suc k)) (go (both answers (here a b c reads x y (suc k))) (lookup (x ∷ y ∷ []) (suc k) fs))
      where
        go : (s : Bool) (h : Hit) → pick s 1 (bit (is_present h)) ≡ bit (is_present (pick s (hit f.text) h))
        go true h = refl
        go false h = refl

    own : value_of (reading f.text) ≡ content_value c
    unfolding value_of
    own = rw reads

    pub kept-answers : Answering (fs ++ f ∷ []) (kept_marks marks a b (content_kind c)) (kept_values marks values a b (content_kind c) (content_value c))
    kept-answers = record {
      marks-size = length_pick answers marks (key_of a b) _ 8836 w.marks-size;
      values-size = length_pick answers values (value_key a b (content_kind c)) _ 26508 w.values-size;
      marked = λ x y k p. bits_after x y k p ∙ rw (w.marked x y k p) (kept-marked x y k);
      kept = λ x y k t p i e. values-after x y k p i ∙ go x y k t p i (both answers (here a b c reads x y k)) (sym (lookup-after x y k) ∙ e);
    }
      where
        length_pick : (o : Bool) (l : List ℕ) (i v n : ℕ) → length l ≡ n → length (pick o (set l i v) l) ≡ n
        length_pick true l i v n h = simp length-set h
        length_pick false l i v n h = h

        go : (x y k : ℕ) (t : List ℕ) → has_entry x y k ≡ true → 1 ≤ k → (s : Bool) → pick s (hit f.text) (lookup (x ∷ y ∷ []) k fs) ≡ hit t
            → pick s (content_value c % 65536) (get_or values (value_key x y k) 0) ≡ value_of (reading t) % 65536
        go x y k t p i true e = let q : t ≡ f.text = cc in rw (q, own)
        go x y k t p i false e = w.kept x y k t p i e

-- ---- the answer to a question

pub answer-kept : (fs : List Field) (marks values : List ℕ) → Answering fs marks values → (a b k : ℕ) → has_entry a b k ≡ true → 1 ≤ k
    → ((t : List ℕ) → lookup (a ∷ b ∷ []) k fs ≡ hit t → value_of (reading t) < 65536)
    → kept_answer marks values a b k ≡ hit_answer (lookup (a ∷ b ∷ []) k fs)
unfolding is_kept hit_answer
answer-kept fs marks values w a b k p i small =
    rw (p, w.marked a b k p, mark_live (a ∷ b ∷ []) k fs i, bit_is (is_live (a ∷ b ∷ []) k fs)) (go (lookup (a ∷ b ∷ []) k fs) refl)
  where
    go : (h : Hit) → lookup (a ∷ b ∷ []) k fs ≡ h → pick (is_present h) (Ok (Some (get_or values (value_key a b k) 0))) (Ok None) ≡ hit_answer h
    go none e = refl
    go (hit t) e =
        let v : get_or values (value_key a b k) 0 ≡ value_of (reading t) = omega (arith, w.kept a b k t p i e, small t e) in
        rw v
