-- What a mended line says: none of its fields is malformed, and its link is the first one, if that stands.
-- Assumes nothing.
use Prim.Native.Nat.{ℕ, ◌+◌, ◌<◌}
use mathlib.Core.Path.{◌≡◌, refl, ◌∙◌, ap, sym}
use mathlib.Core.Logic.{◌⊎◌, inl, inr}
use mathlib.Core.Bool.{Bool, true, false}
use mathlib.Core.List.{List, [], ◌∷◌, ◌++◌, append_assoc, append-nil}
use native.Mathlib.Omega.{arith}
use borrow.Author.Tests.{eqb-true, eqb-false, ne_eqb}
use lib.Dec.{eqb}
use lib.ListN.{length}
use Rattle.spec.specs.Choice.{pick, either}
use Rattle.laws.proofs.Tests.{clash, both_true}
use Rattle.spec.specs.Lists.{upto, past, holds}
use Rattle.spec.specs.Fields.{
  names_of,
  grow,
  split,
  fields_of,
  Reading,
  malformed,
  ignored,
  link,
  capability,
  reading,
  Verdict,
  malformed_line,
  no_link,
  link_to,
  is_ignored_field,
  all_ignored,
  judge,
  verdict,
}
use Rattle.laws.proofs.WholeLines.{Free, AllFree}
use Rattle.laws.proofs.FieldTexts.{past_free, names_free, names_stop, upto-colon, past-colon, split-colon, holds-colon}
use Rattle.laws.proofs.Judging.{judge_nil, judge-ignored, judge_entry, judge-link, ignored_nil, verdict-colon}
use Rattle.spec.specs.Repair.{
  pieces,
  field_pieces,
  field_reason,
  is_link,
  first_link,
  link_of,
  Part,
  parts_from,
  parts_of,
  kept_bytes,
  all_kept,
  ends_in_backslash,
  closed,
  flattened,
}

-- ---- pieces: a text without a colon, and then one; only the last may be without it

abbrev pub Pieced : List (List ℕ) → Type 0
Pieced [] = Unit {0}
Pieced (p ∷ ps) = (((f : List ℕ) × Free 58 f × (p ≡ f ++ 58 ∷ [])) × Pieced ps) ⊎ (Free 58 p × (0 < length p) × (ps ≡ []))

unfoldable pub cut_texts : List (List ℕ) → List (List ℕ)
cut_texts [] = []
cut_texts (f ∷ fs) = upto 58 f ∷ cut_texts fs

grow_pieced : (b : ℕ) (ps : List (List ℕ)) → (b ≡ 58 → ⊥) → Pieced ps → Pieced (grow b ps)
unfolding grow
grow_pieced b [] n h = inr ((n, tt), omega arith, refl)
grow_pieced b (p ∷ ps) n (inl h) = inl ((b ∷ h.0.0, (n, h.0.1), ap (λ (l : List ℕ). b ∷ l) h.0.2), h.1)
grow_pieced b (p ∷ ps) n (inr h) = inr ((n, h.0), omega arith, h.2)

pub pieces_pieced : (l : List ℕ) → Pieced (pieces l)
unfolding pieces
pieces_pieced [] = tt
pieces_pieced (b ∷ l) = go (eqb b 58) refl (pieces_pieced l)
  where
    go : (x : Bool) → eqb b 58 ≡ x → Pieced (pieces l) → Pieced (pick x ((b ∷ []) ∷ pieces l) (grow b (pieces l)))
    go true e h = inl (([], tt, ap (λ (c : ℕ). c ∷ []) (eqb-true b 58 e)), h)
    go false e h = grow_pieced b (pieces l) (eqb-false b 58 e) h

grow-flat : (b : ℕ) (ps : List (List ℕ)) → flattened (grow b ps) ≡ b ∷ flattened ps
unfolding grow flattened
grow-flat b [] = refl
grow-flat b (p ∷ ps) = refl

-- put together again they are the text
pub pieces-flat : (l : List ℕ) → flattened (pieces l) ≡ l
unfolding pieces flattened
pieces-flat [] = refl
pieces-flat (b ∷ l) = go (eqb b 58) (pieces-flat l)
  where
    go : (x : Bool) → flattened (pieces l) ≡ l → flattened (pick x ((b ∷ []) ∷ pieces l) (grow b (pieces l))) ≡ b ∷ l
    go true h = ap (λ (k : List ℕ). b ∷ k) h
    go false h = grow-flat b (pieces l) ∙ ap (λ (k : List ℕ). b ∷ k) h

upto_all : (p : List ℕ) → Free 58 p → upto 58 p ≡ p
unfolding upto
upto_all [] h = refl
upto_all (b ∷ p) h = rw (ne_eqb b 58 h.0) (ap (λ (l : List ℕ). b ∷ l) (upto_all p h.1))

split-all : (p : List ℕ) → Free 58 p → 0 < length p → split p ≡ p ∷ []
unfolding split grow
split-all [] h l = absurd (omega arith)
split-all (b ∷ []) h l = rw (ne_eqb b 58 h.0)
split-all (b ∷ c ∷ p) h l = rw (ne_eqb b 58 h.0, split-all (c ∷ p) h.1 (omega arith))

pub split_pieced : (ps : List (List ℕ)) → Pieced ps → split (flattened ps) ≡ cut_texts ps
unfolding flattened cut_texts
split_pieced [] h = split-none
  where
    split-none : split [] ≡ []
    split-none = unfold split in refl
split_pieced (p ∷ ps) (inl h) =
    let f = h.0.0 in
    let e : p ++ flattened ps ≡ f ++ 58 ∷ flattened ps = ap (λ (q : List ℕ). q ++ flattened ps) h.0.2 ∙ append_assoc f (58 ∷ []) (flattened ps) in
    let u : upto 58 p ≡ f = ap (upto 58) h.0.2 ∙ upto-colon [] f h.0.1 in
    ap split e ∙ split-colon (flattened ps) f h.0.1 ∙ rw (u, split_pieced ps h.1)
split_pieced (p ∷ ps) (inr h) =
    rw (h.2, append-nil p, upto_all p h.0) (split-all p h.0 h.1)

-- Whether a link stands before what follows a field.
abbrev pub linked_by : Bool → List ℕ → Bool
linked_by linked p = either linked (is_link (reading (upto 58 p)))

-- ---- the pieces that are kept

unfoldable pub kept_pieces : List Part → List (List ℕ)
kept_pieces [] = []
kept_pieces (f ∷ fs) = pick (eqb f.reason 0) (f.bytes ∷ kept_pieces fs) (kept_pieces fs)

kept-flat : (fs : List Part) → kept_bytes fs ≡ flattened (kept_pieces fs)
unfolding kept_bytes kept_pieces flattened
kept-flat [] = refl
kept-flat (f ∷ fs) = go (eqb f.reason 0) (kept-flat fs)
  where
    go : (x : Bool) → kept_bytes fs ≡ flattened (kept_pieces fs)
        → pick x (f.bytes ++ kept_bytes fs) (kept_bytes fs) ≡ flattened (pick x (f.bytes ∷ kept_pieces fs) (kept_pieces fs))
    go true h = ap (λ (l : List ℕ). f.bytes ++ l) h
    go false h = h

kept_pieced : (linked : Bool) (r place : ℕ) (ps : List (List ℕ)) → Pieced ps → Pieced (kept_pieces (parts_from linked r place ps))
unfolding kept_pieces parts_from
kept_pieced linked r place [] h = tt
kept_pieced linked r place (p ∷ ps) (inl h) =
    go (eqb (field_reason linked r (reading (upto 58 p))) 0) (kept_pieces (parts_from (linked_by linked p) r (place + length p) ps))
    (kept_pieced (linked_by linked p) r (place + length p) ps h.1)
  where
    go : (x : Bool) (qs : List (List ℕ)) → Pieced qs → Pieced (pick x (p ∷ qs) qs)
    go true qs k = inl (h.0, k)
    go false qs k = k
kept_pieced linked r place (p ∷ []) (inr h) = go (eqb (field_reason linked r (reading (upto 58 p))) 0)
  where
    go : (x : Bool) → Pieced (pick x (p ∷ []) [])
    go true = inr (h.0, h.1, refl)
    go false = tt
kept_pieced linked r place (p ∷ q ∷ ps) (inr h) = let z : ◌≡◌ {A = ℕ} 0 1 = cc in absurd (omega arith)

all-kept : (linked : Bool) (r place : ℕ) (ps : List (List ℕ)) → all_kept (parts_from linked r place ps) ≡ true → kept_pieces (parts_from linked r place ps) ≡ ps
unfolding kept_pieces parts_from all_kept
all-kept linked r place [] h = refl
all-kept linked r place (p ∷ ps) h =
    let w = both_true (eqb (field_reason linked r (reading (upto 58 p))) 0) (all_kept (parts_from (linked_by linked p) r (place + length p) ps)) h in
    rw w.0 (ap (λ (l : List (List ℕ)). p ∷ l) (all-kept (linked_by linked p) r (place + length p) ps w.1))

-- ---- what they say together

ignored-judge : (fs : List (List ℕ)) → all_ignored fs ≡ true → judge fs ≡ no_link
unfolding all_ignored
ignored-judge [] h = judge_nil
ignored-judge (f ∷ fs) h = go (reading f) refl (both_true _ _ h) (ignored-judge fs)
  where
    go : (x : Reading) → reading f ≡ x → (is_ignored_field (reading f) ≡ true) × (all_ignored fs ≡ true) → (all_ignored fs ≡ true → judge fs ≡ no_link)
        → judge (f ∷ fs) ≡ no_link
    go malformed e w ih = clash (sym w.0 ∙ rw e (unfold is_ignored_field in refl))
    go ignored e w ih = judge-ignored f fs e ∙ ih w.1
    go (link n) e w ih = clash (sym w.0 ∙ rw e (unfold is_ignored_field in refl))
    go (capability a b c) e w ih = clash (sym w.0 ∙ rw e (unfold is_ignored_field in refl))

-- after a link only ignored fields are kept
kept-after : (r place : ℕ) (ps : List (List ℕ)) → all_ignored (cut_texts (kept_pieces (parts_from true r place ps))) ≡ true
unfolding kept_pieces parts_from cut_texts field_reason
kept-after r place [] = ignored_nil
kept-after r place (p ∷ ps) = go (reading (upto 58 p)) refl (kept-after r (place + length p) ps)
  where
    go : (x : Reading) → reading (upto 58 p) ≡ x → all_ignored (cut_texts (kept_pieces (parts_from true r (place + length p) ps))) ≡ true
        → all_ignored (cut_texts (kept_pieces (record { place = place; bytes = p; reason = field_reason true r x } ∷ parts_from true r (place + length p) ps)))
        ≡ true
    go malformed e ih = ih
    go ignored e ih = unfold all_ignored is_ignored_field in rw e ih
    go (link n) e ih = ih
    go (capability a b c) e ih = ih

-- The verdict that a link leaves: it stands if its reason is 0.
abbrev pub stands : ℕ → Verdict → Verdict
stands r malformed_line = malformed_line
stands r no_link = no_link
stands r (link_to name) = pick (eqb r 0) (link_to name) no_link

kept-verdict : (r place : ℕ) (ps : List (List ℕ)) → judge (cut_texts (kept_pieces (parts_from false r place ps))) ≡ stands r (link_of ps)
unfolding kept_pieces parts_from cut_texts field_reason link_of first_link is_link
kept-verdict r place [] = judge_nil
kept-verdict r place (p ∷ ps) = go (reading (upto 58 p)) refl (kept-verdict r (place + length p) ps)
  where
    linked : (n : List ℕ) → reading (upto 58 p) ≡ link n → (x : Bool)
        → judge (cut_texts (pick x (p ∷ kept_pieces (parts_from true r (place + length p) ps)) (kept_pieces (parts_from true r (place + length p) ps))))
        ≡ pick x (link_to n) no_link
    linked n e true = judge-link (upto 58 p) _ n e (kept-after r (place + length p) ps)
    linked n e false = ignored-judge _ (kept-after r (place + length p) ps)

    go : (x : Reading) → reading (upto 58 p) ≡ x → judge (cut_texts (kept_pieces (parts_from false r (place + length p) ps))) ≡ stands r (link_of ps)
        → judge (cut_texts (kept_pieces (record { place = place; bytes = p; reason = field_reason false r x }
        ∷ parts_from (is_link x) r (place + length p) ps)))
        ≡ stands r (first_link x (link_of ps))
    go malformed e ih = ih
    go ignored e ih = judge-ignored (upto 58 p) _ e ∙ ih
    go (link n) e ih = linked n e (eqb r 0)
    go (capability a b c) e ih = judge_entry (upto 58 p) _ a b c e ∙ ih

-- ---- the verdict on a line, unchanged or mended

module _ (r : ℕ) (l : List ℕ) where
  kept-split : split (kept_bytes (parts_of r l)) ≡ cut_texts (kept_pieces (parts_of r l))
  unfolding parts_of field_pieces
  kept-split =
      ap split (kept-flat (parts_of r l))
      ∙ split_pieced _ (kept_pieced false r _ (pieces (past 58 l)) (pieces_pieced (past 58 l)))

  judged_parts : judge (cut_texts (kept_pieces (parts_of r l))) ≡ stands r (link_of (field_pieces l))
  unfolding parts_of
  judged_parts = kept-verdict r _ (field_pieces l)

  -- "an unchanged one"
  pub verdict-kept : holds 58 l ≡ true → all_kept (parts_of r l) ≡ true → verdict l ≡ stands r (link_of (field_pieces l))
  unfolding fields_of field_pieces
  verdict-kept h k =
      let same : kept_pieces (parts_of r l) ≡ pieces (past 58 l) = unfold parts_of in all-kept false r _ (pieces (past 58 l)) k in
      let cut : split (past 58 l) ≡ cut_texts (kept_pieces (parts_of r l)) =
      ap split (sym (pieces-flat (past 58 l))) ∙ split_pieced _ (pieces_pieced (past 58 l)) ∙ ap cut_texts (sym same) in
      verdict-colon l h ∙ ap judge cut ∙ judged_parts

  -- "a changed line is written joined"
  pub verdict-changed : verdict (names_of l ++ 58 ∷ kept_bytes (parts_of r l)) ≡ stands r (link_of (field_pieces l))
  unfolding fields_of
  verdict-changed =
      let fs = kept_bytes (parts_of r l) in
      verdict-colon (names_of l ++ 58 ∷ fs) (holds-colon fs (names_of l))
      ∙ ap (λ (k : List ℕ). judge (split k)) (past-colon fs (names_of l) (names_stop l)) ∙ ap judge kept-split ∙ judged_parts

-- ---- "and a colon before that newline if it would end in a backslash": it changes no verdict

pub ends-past : (a k : List ℕ) → ends_in_backslash (a ++ 58 ∷ k) ≡ ends_in_backslash k
unfolding ends_in_backslash
ends-past [] [] = refl
ends-past [] (c ∷ k) = refl
ends-past (b ∷ []) k = ends-past [] k
ends-past (b ∷ c ∷ a) k = ends-past (c ∷ a) k

split_more : (k : List ℕ) → ends_in_backslash k ≡ true → split (k ++ 58 ∷ []) ≡ split k
unfolding ends_in_backslash split grow
split_more [] e = clash (sym e)
split_more (b ∷ []) e = let z : b ≡ 92 = eqb-true b 92 e in rw (ne_eqb b 58 (omega arith))
split_more (b ∷ c ∷ k) e = rw (split_more (c ∷ k) e)

-- The text of a changed line.
abbrev pub closed_text : List ℕ → List ℕ
closed_text u = pick (ends_in_backslash u) (u ++ 58 ∷ []) u

pub closed_is : (u : List ℕ) → closed u ≡ closed_text u ++ 10 ∷ []
unfolding closed
closed_is u = go (ends_in_backslash u)
  where
    go : (x : Bool) → u ++ pick x (58 ∷ 10 ∷ []) (10 ∷ []) ≡ pick x (u ++ 58 ∷ []) u ++ 10 ∷ []
    go true = sym (append_assoc u (58 ∷ []) (10 ∷ []))
    go false = refl

pub closed-ends : (u : List ℕ) → ends_in_backslash (closed_text u) ≡ false
closed-ends u = go (ends_in_backslash u) refl
  where
    go : (x : Bool) → ends_in_backslash u ≡ x → ends_in_backslash (pick x (u ++ 58 ∷ []) u) ≡ false
    go true e = ends-past u [] ∙ unfold ends_in_backslash in refl
    go false e = e

-- it is still the names, a colon and something
pub closed_tail : (n k : List ℕ) → (j : List ℕ) × (closed_text (n ++ 58 ∷ k) ≡ n ++ 58 ∷ j)
closed_tail n k = go (ends_in_backslash (n ++ 58 ∷ k))
  where
    go : (x : Bool) → (j : List ℕ) × (pick x ((n ++ 58 ∷ k) ++ 58 ∷ []) (n ++ 58 ∷ k) ≡ n ++ 58 ∷ j)
    go true = (k ++ 58 ∷ [], append_assoc n (58 ∷ k) (58 ∷ []))
    go false = (k, refl)

closed-verdict : (n k : List ℕ) → Free 58 n → verdict (closed_text (n ++ 58 ∷ k)) ≡ verdict (n ++ 58 ∷ k)
unfolding fields_of
closed-verdict n k h = go (ends_in_backslash (n ++ 58 ∷ k)) refl
  where
    fields : (j : List ℕ) → verdict (n ++ 58 ∷ j) ≡ judge (split j)
    fields j = verdict-colon (n ++ 58 ∷ j) (holds-colon j n) ∙ ap (λ (i : List ℕ). judge (split i)) (past-colon j n h)

    go : (x : Bool) → ends_in_backslash (n ++ 58 ∷ k) ≡ x → verdict (pick x ((n ++ 58 ∷ k) ++ 58 ∷ []) (n ++ 58 ∷ k)) ≡ verdict (n ++ 58 ∷ k)
    go true e =
        ap verdict (append_assoc n (58 ∷ k) (58 ∷ [])) ∙ fields (k ++ 58 ∷ []) ∙ ap judge (split_more k (sym (ends-past n k) ∙ e)) ∙ sym (fields k)
    go false e = refl

pub verdict-mended : (r : ℕ) (l : List ℕ) → verdict (closed_text (names_of l ++ 58 ∷ kept_bytes (parts_of r l))) ≡ stands r (link_of (field_pieces l))
verdict-mended r l = closed-verdict (names_of l) (kept_bytes (parts_of r l)) (names_stop l) ∙ verdict-changed r l

-- ---- no newline in it

free_append : (c : ℕ) (a b : List ℕ) → Free c a → Free c b → Free c (a ++ b)
free_append c [] b h k = k
free_append c (x ∷ a) b h k = (h.0, free_append c a b h.1 k)

grow_free : (c b : ℕ) (ps : List (List ℕ)) → (b ≡ c → ⊥) → AllFree c ps → AllFree c (grow b ps)
unfolding grow
grow_free c b [] n h = ((n, tt), tt)
grow_free c b (p ∷ ps) n h = ((n, h.0), h.1)

pieces_free : (c : ℕ) (l : List ℕ) → Free c l → AllFree c (pieces l)
unfolding pieces
pieces_free c [] h = tt
pieces_free c (b ∷ l) h = go (eqb b 58) (pieces_free c l h.1)
  where
    go : (x : Bool) → AllFree c (pieces l) → AllFree c (pick x ((b ∷ []) ∷ pieces l) (grow b (pieces l)))
    go true k = ((h.0, tt), k)
    go false k = grow_free c b (pieces l) h.0 k

kept_free : (c : ℕ) (linked : Bool) (r place : ℕ) (ps : List (List ℕ)) → AllFree c ps → Free c (kept_bytes (parts_from linked r place ps))
unfolding kept_bytes parts_from
kept_free c linked r place [] h = tt
kept_free c linked r place (p ∷ ps) h =
    go (eqb (field_reason linked r (reading (upto 58 p))) 0) (kept_bytes (parts_from (linked_by linked p) r (place + length p) ps))
    (kept_free c (linked_by linked p) r (place + length p) ps h.1)
  where
    go : (x : Bool) (k : List ℕ) → Free c k → Free c (pick x (p ++ k) k)
    go true k f = free_append c p k h.0 f
    go false k f = f

pub mended_free : (r : ℕ) (l : List ℕ) → Free 10 l → Free 10 (closed_text (names_of l ++ 58 ∷ kept_bytes (parts_of r l)))
unfolding parts_of field_pieces
mended_free r l h = go (ends_in_backslash (names_of l ++ 58 ∷ kept_bytes (parts_of r l)))
  where
    plain : Free 10 (names_of l ++ 58 ∷ kept_bytes (parts_of r l))
    plain =
        let k : Free 10 (kept_bytes (parts_of r l)) = kept_free 10 false r _ (pieces (past 58 l)) (pieces_free 10 (past 58 l) (past_free 10 58 l h)) in
        free_append 10 (names_of l) (58 ∷ kept_bytes (parts_of r l)) (names_free 10 l h) ((λ e. omega arith), k)

    go : (x : Bool) → Free 10 (pick x ((names_of l ++ 58 ∷ kept_bytes (parts_of r l)) ++ 58 ∷ []) (names_of l ++ 58 ∷ kept_bytes (parts_of r l)))
    go true = free_append 10 (names_of l ++ 58 ∷ kept_bytes (parts_of r l)) (58 ∷ []) plain ((λ e. omega arith), tt)
    go false = plain
