-- THE MENDED DATABASE IS SOUND: none of its lines is malformed, each link is found, and no links come back.
-- Assumes nothing.
use Rattle.std.specs.Prelude.{Option, Some, None}
use Prim.Native.Nat.{ℕ, zero, suc, ◌+◌, ◌≤◌}
use mathlib.Core.Path.{◌≡◌, refl, ◌∙◌, sym}
use mathlib.Core.Logic.{◌⊎◌, inl, inr}
use mathlib.Core.Bool.{Bool, true, false, not}
use mathlib.Core.List.{List, [], ◌∷◌, ◌++◌, append_assoc, append-nil}
use native.Mathlib.Numerals.{add-one}
use native.Mathlib.Omega.{arith}
use borrow.Author.Tests.{eqb-true, eqb-false, eq-eqb, ne_eqb}
use lib.Dec.{eqb}
use lib.ListN.{drop}
use Rattle.spec.specs.Choice.{pick, both}
use Rattle.laws.proofs.Tests.{clash}
use Rattle.spec.specs.Lines.{Text, end, byte, join, text_at, Line, line_text, later_lines, is_ignored, has_name, find, find_line, line_at}
use Rattle.spec.specs.Fields.{Reading, malformed, ignored, link, capability, reading, Verdict, malformed_line, no_link, link_to, verdict}
use Rattle.spec.specs.Lists.{upto}
use Rattle.spec.specs.Repair.{
  lines_of,
  left,
  first_link,
  link_of,
  field_pieces,
  line_link,
  Link,
  with_link,
  links_among,
  leads,
  comes_back,
  link_reason,
  Removed,
  removed_links,
  reason_at,
  link_removals,
  mended,
}
use Rattle.demands.specs.OneFile.{target}
use Rattle.demands.specs.RepairPromises.{along, EachDescription, Sound}
use Rattle.laws.proofs.LinkRings.{Fresh, Distinct, distinct_mid, leads_own, standing, back_here, back_on, standing_acyclic}
use Rattle.laws.proofs.RisingLines.{Rising, rising-left, rising_lines, links_distinct}
use Rattle.laws.proofs.KeptFields.{stands}
use Rattle.demands.proofs.MendedLines.{left-verdict, Parallel, mend_parallel}

-- ---- the links that are not removed stand, and are found

abbrev pub Has : ℕ → Option ℕ → List Link → Type 0
Has p f [] = ⊥
Has p f (k ∷ ks) = ((k.at ≡ p) × (k.to ≡ f)) ⊎ Has p f ks

fresh_has : (p : ℕ) (f : Option ℕ) (ks : List Link) → Fresh p ks → Has p f ks → ⊥
fresh_has p f [] h impossible = elim impossible [ ]
fresh_has p f (k ∷ ks) h (inl e) = h.0 e.0
fresh_has p f (k ∷ ks) h (inr e) = fresh_has p f ks h.1 e

fresh_left : (p : ℕ) (a b : List Link) → Fresh p (a ++ b) → Fresh p a
fresh_left p [] b h = tt
fresh_left p (k ∷ a) b h = (h.0, fresh_left p a b h.1)

leads_more : (a b : List Link) (p q : ℕ) → leads a p ≡ Some q → leads (a ++ b) p ≡ Some q
unfolding leads
leads_more [] b p q e = let z : ◌≡◌ {A = ℕ} 0 1 = cc in absurd (omega arith)
leads_more (k ∷ a) b p q e = go (eqb k.at p) e (leads_more a b p q)
  where
    go : (x : Bool) → pick x k.to (leads a p) ≡ Some q → (leads a p ≡ Some q → leads (a ++ b) p ≡ Some q) → pick x k.to (leads (a ++ b) p) ≡ Some q
    go true h ih = h
    go false h ih = ih h

standing_keeps : (passed ks : List Link) (p q : ℕ) → leads passed p ≡ Some q → leads (standing passed ks) p ≡ Some q
unfolding standing
standing_keeps passed [] p q e = e
standing_keeps passed (k ∷ ks) p q e =
    go (eqb (link_reason (passed ++ k ∷ ks) k.at k.to) 0) (standing_keeps (passed ++ k ∷ []) ks p q (leads_more passed (k ∷ []) p q e))
    (standing_keeps passed ks p q e)
  where
    go : (x : Bool) → leads (standing (passed ++ k ∷ []) ks) p ≡ Some q → leads (standing passed ks) p ≡ Some q
        → leads (pick x (standing (passed ++ k ∷ []) ks) (standing passed ks)) p ≡ Some q
    go true m n = m
    go false m n = n

reason-found : (ks : List Link) (p : ℕ) (f : Option ℕ) → link_reason ks p f ≡ 0 → (q : ℕ) × (f ≡ Some q)
unfolding link_reason
reason-found ks p None e = let z : ◌≡◌ {A = ℕ} 4 0 = e in absurd (omega arith)
reason-found ks p (Some q) e = (q, refl)

stands_link : (passed ks : List Link) → Distinct (passed ++ ks) → (p : ℕ) (f : Option ℕ) → Has p f ks → reason_at (removed_links passed ks) p ≡ 0
    → (q : ℕ) × (f ≡ Some q) × (leads (standing passed ks) p ≡ Some q)
unfolding standing removed_links reason_at
stands_link passed [] d p f h e = elim h [ ]
stands_link passed (k ∷ ks) d p f h e =
    go (eqb (link_reason (passed ++ k ∷ ks) k.at k.to) 0) refl h e (stands_link (passed ++ k ∷ []) ks) (stands_link passed ks)
  where
    m : Fresh k.at (passed ++ ks) × Distinct (passed ++ ks)
    m = distinct_mid passed k ks d

    own : Fresh k.at (passed ++ [])
    own = rw (append-nil passed) (fresh_left k.at passed ks m.0)

    fresh_right : (a : List Link) → Fresh k.at (a ++ ks) → Fresh k.at ks
    fresh_right [] w = w
    fresh_right (j ∷ a) w = fresh_right a w.1

    go : (x : Bool) → eqb (link_reason (passed ++ k ∷ ks) k.at k.to) 0 ≡ x → ((k.at ≡ p) × (k.to ≡ f)) ⊎ Has p f ks
        → reason_at
        (pick x (removed_links (passed ++ k ∷ []) ks) (record { at = k.at; reason = link_reason (passed ++ k ∷ ks) k.at k.to } ∷ removed_links passed ks))
        p ≡ 0
        → (Distinct ((passed ++ k ∷ []) ++ ks) → (p : ℕ) (f : Option ℕ) → Has p f ks → reason_at (removed_links (passed ++ k ∷ []) ks) p ≡ 0
        → (q : ℕ) × (f ≡ Some q) × (leads (standing (passed ++ k ∷ []) ks) p ≡ Some q))
        → (Distinct (passed ++ ks) → (p : ℕ) (f : Option ℕ) → Has p f ks → reason_at (removed_links passed ks) p ≡ 0
        → (q : ℕ) × (f ≡ Some q) × (leads (standing passed ks) p ≡ Some q))
        → (q : ℕ) × (f ≡ Some q) × (leads (pick x (standing (passed ++ k ∷ []) ks) (standing passed ks)) p ≡ Some q)
    go true s (inl w) e with-k without-k =
        let t = reason-found (passed ++ k ∷ ks) k.at k.to (eqb-true _ _ s) in
        let here : leads (passed ++ k ∷ []) k.at ≡ Some t.0 = leads_own k.at passed k [] refl own ∙ t.1 in
        (t.0, sym w.1 ∙ t.1, rw (← w.0) (standing_keeps (passed ++ k ∷ []) ks k.at t.0 here))
    go true s (inr w) e with-k without-k = with-k (rw (append_assoc passed (k ∷ []) ks) d) p f w e
    go false s (inl w) e with-k without-k = absurd (eqb-false _ _ s (rw (eq-eqb k.at p w.0) at e))
    go false s (inr w) e with-k without-k =
        let ne : k.at ≡ p → ⊥ = λ q. fresh_has k.at f ks (fresh_right passed m.0) (rw q w) in
        without-k m.1 p f w (rw (ne_eqb k.at p ne) at e)

-- ---- the links of the lines

module _ (among : List Line) where
  -- each line with a link has one
  abbrev Links : List Link → List Line → Type 0
  Links ks [] = Unit {0}
  Links ks (l ∷ ls) = ((name : List ℕ) → line_link l.text ≡ link_to name → Has l.start (find name among) ks) × Links ks ls

  has_behind : (p a : ℕ) (f : Option ℕ) (v : Verdict) (ks : List Link) → Has p f ks → Has p f (with_link among a v ks)
  unfolding with_link
  has_behind p a f malformed_line ks h = h
  has_behind p a f no_link ks h = h
  has_behind p a f (link_to n) ks h = inr h

  has_here : (a : ℕ) (v : Verdict) (name : List ℕ) (ks : List Link) → v ≡ link_to name → Has a (find name among) (with_link among a v ks)
  unfolding with_link
  has_here a v name ks e = rw e (inl (refl, refl))

  links_more : (ls : List Line) (ks js : List Link) → ((p : ℕ) (f : Option ℕ) → Has p f ks → Has p f js) → Links ks ls → Links js ls
  links_more [] ks js w h = tt
  links_more (l ∷ ls) ks js w h = ((λ name e. w l.start (find name among) (h.0 name e)), links_more ls ks js w h.1)

  links_of_lem : (ls : List Line) → Links (links_among among ls) ls
  unfolding links_among
  links_of_lem [] = tt
  links_of_lem (l ∷ ls) = (
    (λ name e. has_here l.start (line_link l.text) name (links_among among ls) e),
    links_more ls (links_among among ls) (with_link among l.start (line_link l.text) (links_among among ls))
        (λ p f h. has_behind p l.start f (line_link l.text) (links_among among ls) h) (links_of_lem ls),
  )

-- a line's link is never the verdict of a malformed line
link_of_not : (ps : List (List ℕ)) → link_of ps ≡ malformed_line → ⊥
unfolding link_of first_link
link_of_not [] e = let z : ◌≡◌ {A = ℕ} 0 1 = cc in omega arith
link_of_not (p ∷ ps) e = go (reading (upto 58 p)) e (link_of_not ps)
  where
    go : (x : Reading) → first_link x (link_of ps) ≡ malformed_line → (link_of ps ≡ malformed_line → ⊥) → ⊥
    go malformed q ih = ih q
    go ignored q ih = ih q
    go (link n) q ih = let z : ◌≡◌ {A = ℕ} 0 1 = cc in omega arith
    go (capability a b c) q ih = ih q

-- ---- each line's text is the one at its place

abbrev pub EachText : List ℕ → List Line → Type 0
EachText db [] = Unit {0}
EachText db (l ∷ ls) = (l.text ≡ line_at db l.start) × EachText db ls

drop_tail : (b : ℕ) (s : List ℕ) (at : ℕ) (l : List ℕ) → b ∷ s ≡ drop at l → s ≡ drop (at + 1) l
drop_tail b s at l e = rw add-one (go at l e)
  where
    go : (at : ℕ) (l : List ℕ) → b ∷ s ≡ drop at l → s ≡ drop (suc at) l
    go zero [] e = let z : ◌≡◌ {A = ℕ} 0 1 = cc in absurd (omega arith)
    go zero (x ∷ l) e = cc
    go (suc at) [] e = let z : ◌≡◌ {A = ℕ} 0 1 = cc in absurd (omega arith)
    go (suc at) (x ∷ l) e = go at l e

text-byte : (db : List ℕ) (b at : ℕ) (t : Text) → line_text t ≡ line_at db at → EachText db (later_lines t) → EachText db (later_lines (byte b at t))
unfolding later_lines
text-byte db b at t e h = go (eqb b 10)
  where
    go : (x : Bool) → EachText db (pick x (record { start = at; text = line_text t } ∷ later_lines t) (later_lines t))
    go true = (e, h)
    go false = h

text_later : (db : List ℕ) (at : ℕ) (s : List ℕ) → s ≡ drop at db → EachText db (later_lines (join at s))
unfolding join line_at text_at
text_later db at [] d = unfold later_lines in tt
text_later db at (b ∷ []) d = text-byte db b (at + 1) end (rw (← drop_tail b [] at db d)) (unfold later_lines in tt)
text_later db at (b ∷ c ∷ s) d =
    let d₁ : c ∷ s ≡ drop (at + 1) db = drop_tail b (c ∷ s) at db d in
    go (both (eqb b 92) (eqb c 10)) d₁ (text_later db (at + 1 + 1) s (drop_tail c s (at + 1) db d₁)) (text_later db (at + 1) (c ∷ s) d₁)
  where
    go : (x : Bool) → c ∷ s ≡ drop (at + 1) db → EachText db (later_lines (join (at + 1 + 1) s)) → EachText db (later_lines (join (at + 1) (c ∷ s)))
        → EachText db (later_lines (pick x (join (at + 1 + 1) s) (byte b (at + 1) (join (at + 1) (c ∷ s)))))
    go true d₁ h k = h
    go false d₁ h k = text-byte db b (at + 1) (join (at + 1) (c ∷ s)) (rw (← d₁)) k

pub each_text : (db : List ℕ) → EachText db (lines_of db)
unfolding lines_of text_at line_at
each_text db = (refl, text_later db 0 db refl)

-- ---- pairs of lines

-- Something of the places of each pair that is not ignored.
abbrev Pairs : (ℕ → ℕ → Type 0) → List Line → List Line → Type 0
Pairs P [] ms = Unit {0}
Pairs P (d ∷ ds) [] = Unit {0}
Pairs P (d ∷ ds) (m ∷ ms) = (is_ignored d.text ≡ false → P d.start m.start) × Pairs P ds ms

abbrev In : ℕ → ℕ → List Line → List Line → Type 0
In p q [] ms = ⊥
In p q (d ∷ ds) [] = ⊥
In p q (d ∷ ds) (m ∷ ms) = ((d.start ≡ p) × (m.start ≡ q) × (is_ignored d.text ≡ false)) ⊎ In p q ds ms

pairs_in : (P : ℕ → ℕ → Type 0) (ds ms : List Line) (p q : ℕ) → Pairs P ds ms → In p q ds ms → P p q
pairs_in P [] ms p q h impossible = elim impossible [ ]
pairs_in P (d ∷ ds) [] p q h impossible = elim impossible [ ]
pairs_in P (d ∷ ds) (m ∷ ms) p q h (inl e) = rw (← e.0, ← e.1) (h.0 e.2)
pairs_in P (d ∷ ds) (m ∷ ms) p q h (inr i) = pairs_in P ds ms p q h.1 i

-- each pair is one of them
all_in : (ds ms es ns : List Line) → ((p q : ℕ) → In p q ds ms → In p q es ns) → Pairs (λ p q. In p q es ns) ds ms
all_in [] ms es ns w = tt
all_in (d ∷ ds) [] es ns w = tt
all_in (d ∷ ds) (m ∷ ms) es ns w = ((λ i. w d.start m.start (inl (refl, refl, i))), all_in ds ms es ns (λ p q h. w p q (inr h)))

in_above : (a : ℕ) (ds ms : List Line) (p q : ℕ) → Rising a ms → In p q ds ms → a ≤ q
in_above a [] ms p q r impossible = elim impossible [ ]
in_above a (d ∷ ds) [] p q r impossible = elim impossible [ ]
in_above a (d ∷ ds) (m ∷ ms) p q r (inl e) = omega (arith, r.0, e.1)
in_above a (d ∷ ds) (m ∷ ms) p q r (inr i) = omega (arith, r.0, in_above (suc m.start) ds ms p q r.1 i)

-- a mended line comes from one line
in_one : (a : ℕ) (ds ms : List Line) (p h q : ℕ) → Rising a ms → In p q ds ms → In h q ds ms → p ≡ h
in_one a [] ms p h q r impossible _ = elim impossible [ ]
in_one a (d ∷ ds) [] p h q r impossible _ = elim impossible [ ]
in_one a (d ∷ ds) (m ∷ ms) p h q r (inl e) (inl f) = sym e.0 ∙ f.0
in_one a (d ∷ ds) (m ∷ ms) p h q r (inl e) (inr i) = absurd (omega (arith, e.1, in_above (suc m.start) ds ms h q r.1 i))
in_one a (d ∷ ds) (m ∷ ms) p h q r (inr i) (inl e) = absurd (omega (arith, e.1, in_above (suc m.start) ds ms p q r.1 i))
in_one a (d ∷ ds) (m ∷ ms) p h q r (inr i) (inr j) = in_one (suc m.start) ds ms p h q r.1 i j

module _ (removed : List Removed) where
  -- a name finds the same pair in both
  find-same : (name : List ℕ) (ds ms : List Line) → Parallel removed ds ms
      → ((find name ds ≡ None) × (find name ms ≡ None)) ⊎ ((p q : ℕ) × (find name ds ≡ Some p) × (find name ms ≡ Some q) × In p q ds ms)
  unfolding find
  find-same name [] [] h = inl (refl, refl)
  find-same name [] (m ∷ []) h = inl (refl, rw h.0)
  find-same name [] (m ∷ n ∷ ms) h = let z : ◌≡◌ {A = ℕ} 0 1 = cc in absurd (omega arith)
  find-same name (d ∷ ds) [] h = elim h [ ]
  find-same name (d ∷ ds) (m ∷ ms) h = go (is_ignored d.text) refl (has_name name d.text) refl (find-same name ds ms h.1)
    where
      go : (x : Bool) → is_ignored d.text ≡ x → (y : Bool) → has_name name d.text ≡ y
          → ((find name ds ≡ None) × (find name ms ≡ None)) ⊎ ((p q : ℕ) × (find name ds ≡ Some p) × (find name ms ≡ Some q) × In p q ds ms)
          → ((pick (both (not (is_ignored d.text)) (has_name name d.text)) (Some d.start) (find name ds) ≡ None)
          × (pick (both (not (is_ignored m.text)) (has_name name m.text)) (Some m.start) (find name ms) ≡ None))
          ⊎ ((p q : ℕ) × (pick (both (not (is_ignored d.text)) (has_name name d.text)) (Some d.start) (find name ds) ≡ Some p)
          × (pick (both (not (is_ignored m.text)) (has_name name m.text)) (Some m.start) (find name ms) ≡ Some q) × In p q (d ∷ ds) (m ∷ ms))
      go true e y f (inl w) = rw (← h.0.0, e) (inl w)
      go true e y f (inr w) = rw (← h.0.0, e) (inr (w.0, w.1, w.2, w.3, inr w.4))
      go false e true f w = rw (← h.0.0, e, (h.0.1 e).0 name, f) (inr (d.start, m.start, refl, refl, inl (refl, refl, refl)))
      go false e false f (inl w) = rw (← h.0.0, e, (h.0.1 e).0 name, f) (inl w)
      go false e false f (inr w) = rw (← h.0.0, e, (h.0.1 e).0 name, f) (inr (w.0, w.1, w.2, w.3, inr w.4))

  -- what holds of each pair holds of each description of the mended database
  each_of : (P : ℕ → Type 0) (ds ms : List Line) → Parallel removed ds ms → Pairs (λ p q. P q) ds ms → EachDescription P ms
  each_of P [] [] h w = tt
  each_of P [] (m ∷ []) h w = ((λ i. clash (sym h.0 ∙ i)), tt)
  each_of P [] (m ∷ n ∷ ms) h w = let z : ◌≡◌ {A = ℕ} 0 1 = cc in absurd (omega arith)
  each_of P (d ∷ ds) [] h w = elim h [ ]
  each_of P (d ∷ ds) (m ∷ ms) h w = ((λ i. w.0 (h.0.0 ∙ i)), each_of P ds ms h.1 w.1)

pairs-map : (P Q : ℕ → ℕ → Type 0) (ds ms : List Line) → ((p q : ℕ) → P p q → Q p q) → Pairs P ds ms → Pairs Q ds ms
pairs-map P Q [] ms f h = tt
pairs-map P Q (d ∷ ds) [] f h = tt
pairs-map P Q (d ∷ ds) (m ∷ ms) f h = ((λ i. f d.start m.start (h.0 i)), pairs-map P Q ds ms f h.1)

-- ---- the repair of a database

module _ (db : List ℕ) where
  abbrev pub gone : List Removed
  gone = link_removals (lines_of db)

  -- the lines that are left, and the lines of the mended database
  abbrev pub ds : List Line
  ds = left (lines_of db)

  abbrev pub text : List ℕ
  text = (mended db).text

  abbrev pub ms : List Line
  ms = lines_of text

  abbrev links : List Link
  links = links_among ds ds

  abbrev stand : List Link
  stand = standing [] links

  pub parallel : Parallel gone ds ms
  unfolding mended
  parallel = mend_parallel gone db

  distinct : Distinct links
  distinct = links_distinct ds 0 ds (rising-left 0 (lines_of db) (rising_lines db))

  -- of a pair: the mended line is not malformed, and its link is found, where the links that stand lead
  abbrev Good : ℕ → ℕ → Type 0
  Good p q = (verdict (line_at text q) ≡ malformed_line → ⊥)
      × ((name : List ℕ) → verdict (line_at text q) ≡ link_to name → (r : ℕ) × (find name ds ≡ Some r) × (leads stand p ≡ Some r))

  good-verdict : (p : ℕ) (v : Verdict) → (v ≡ malformed_line → ⊥) → ((name : List ℕ) → v ≡ link_to name → Has p (find name ds) links)
      → (stands (reason_at gone p) v ≡ malformed_line → ⊥)
      × ((name : List ℕ) → stands (reason_at gone p) v ≡ link_to name → (r : ℕ) × (find name ds ≡ Some r) × (leads stand p ≡ Some r))
  good-verdict p malformed_line n h = absurd (n refl)
  good-verdict p no_link n h = ((λ e. n e), λ name e. let z : ◌≡◌ {A = ℕ} 0 1 = cc in absurd (omega arith))
  good-verdict p (link_to l) n h = go (eqb (reason_at gone p) 0) refl
    where
      same : (name : List ℕ) → link_to l ≡ link_to name → l ≡ name
      same name e = cc

      go : (x : Bool) → eqb (reason_at gone p) 0 ≡ x → (pick x (link_to l) no_link ≡ malformed_line → ⊥)
          × ((name : List ℕ) → pick x (link_to l) no_link ≡ link_to name → (r : ℕ) × (find name ds ≡ Some r) × (leads stand p ≡ Some r))
      go true z = ((λ e. n e), λ name e. rw (← same name e) (stands_link [] links distinct p (find l ds) (h l refl) (unfold link_removals in eqb-true _ _ z)))
      go false z = ((λ e. let w : ◌≡◌ {A = ℕ} 0 1 = cc in omega arith), λ name e. let w : ◌≡◌ {A = ℕ} 0 1 = cc in absurd (omega arith))

  good_pair : (d m : Line) → is_ignored d.text ≡ false → verdict m.text ≡ left-verdict gone d → m.text ≡ line_at text m.start
      → ((name : List ℕ) → line_link d.text ≡ link_to name → Has d.start (find name ds) links) → Good d.start m.start
  unfolding line_link
  good_pair d m i v t h =
      let e : verdict (line_at text m.start) ≡ stands (reason_at gone d.start) (link_of (field_pieces d.text)) = rw (← t) v in
      rw e (good-verdict d.start (link_of (field_pieces d.text)) (link_of_not (field_pieces d.text)) (λ name k. h name (rw (i, k))))

  good-from : (es ns : List Line) → Parallel gone es ns → EachText text ns → Links ds links es → Pairs Good es ns
  good-from [] ns h t k = tt
  good-from (d ∷ es) [] h t k = tt
  good-from (d ∷ es) (m ∷ ns) h t k = ((λ i. good_pair d m i (h.0.1 i).1 t.0 k.0), good-from es ns h.1 t.1 k.1)

  good : Pairs Good ds ms
  good = good-from ds ms parallel (each_text text) (links_of_lem ds ds)

  -- the search in the mended database
  search_lines : (name : List ℕ) → find_line text name ≡ find name ms
  unfolding find_line lines_of
  search_lines name = refl

  -- a link of the mended database leads to a pair, as the link that stands does
  leads_on : (p q : ℕ) → In p q ds ms → (name : List ℕ) → verdict (line_at text q) ≡ link_to name
      → (r s : ℕ) × (find_line text name ≡ Some s) × (leads stand p ≡ Some r) × In r s ds ms
  leads_on p q i name v =
      let g = (pairs_in Good ds ms p q good i).1 name v in
      go g (find-same gone name ds ms parallel)
    where
      go : ((r : ℕ) × (find name ds ≡ Some r) × (leads stand p ≡ Some r))
          → ((find name ds ≡ None) × (find name ms ≡ None)) ⊎ ((r s : ℕ) × (find name ds ≡ Some r) × (find name ms ≡ Some s) × In r s ds ms)
          → (r s : ℕ) × (find_line text name ≡ Some s) × (leads stand p ≡ Some r) × In r s ds ms
      go g (inl w) = let e : Some g.0 ≡ None = sym g.1 ∙ w.0 in let z : ◌≡◌ {A = ℕ} 0 1 = cc in absurd (omega arith)
      go g (inr w) =
          let e : Some g.0 ≡ Some w.0 = sym g.1 ∙ w.2 in
          (w.0, w.1, search_lines name ∙ w.3, g.2 ∙ e, w.4)

  along_nothing : (n q : ℕ) → along text n None ≡ Some q → ⊥
  unfolding along
  along_nothing zero q e = let z : ◌≡◌ {A = ℕ} 0 1 = cc in omega arith
  along_nothing (suc n) q e = let z : ◌≡◌ {A = ℕ} 0 1 = cc in omega arith

  -- along the mended database, and along the links that stand
  along-back : (h k : ℕ) → In h k ds ms → (n p q : ℕ) → In p q ds ms → along text n (Some q) ≡ Some k → comes_back stand (suc n) h (Some p) ≡ true
  unfolding along target
  along-back h k j zero p q i e =
      let s : q ≡ k = cc in
      back_here h stand 0 p (in_one 0 ds ms p h q (rising_lines text) i (rw s j))
  along-back h k j (suc n) p q i e = go (verdict (line_at text q)) refl e (along-back h k j n)
    where
      go : (v : Verdict) → verdict (line_at text q) ≡ v → along text n (target text v) ≡ Some k
          → ((p q : ℕ) → In p q ds ms → along text n (Some q) ≡ Some k → comes_back stand (suc n) h (Some p) ≡ true) → comes_back stand (suc (suc n)) h (Some p) ≡ true
      go malformed_line v w ih = absurd (along_nothing n k w)
      go no_link v w ih = absurd (along_nothing n k w)
      go (link_to name) v w ih =
          let o = leads_on p q i name v in
          back_on h stand (suc n) p (rw o.3 (ih o.0 o.1 o.4 (rw o.2 at w)))

  no_ring : (p q : ℕ) → In p q ds ms → (n : ℕ) → along text (suc n) (Some q) ≡ Some q → ⊥
  unfolding along target
  no_ring p q i n e = go (verdict (line_at text q)) refl e
    where
      go : (v : Verdict) → verdict (line_at text q) ≡ v → along text n (target text v) ≡ Some q → ⊥
      go malformed_line v w = along_nothing n q w
      go no_link v w = along_nothing n q w
      go (link_to name) v w =
          let o = leads_on p q i name v in
          let b = along-back p q i n o.0 o.1 o.4 (rw o.2 at w) in
          standing_acyclic links distinct p (suc n) (rw o.3 b)

  every_pair : Pairs (λ p q. In p q ds ms) ds ms
  every_pair = all_in ds ms ds ms (λ p q h. h)

  -- WHAT THE REPAIR WRITES IS A SOUND DATABASE.
  pub mended-sound : Sound text
  mended-sound = record {
    well_formed = each_of gone _ ds ms parallel (pairs-map Good _ ds ms (λ p q g. g.0) good);
    no_lost_link = each_of gone _ ds ms parallel (pairs-map (λ p q. In p q ds ms) _ ds ms found every_pair);
    no_cycle = each_of gone _ ds ms parallel (pairs-map (λ p q. In p q ds ms) _ ds ms no_ring every_pair);
  }
    where
      found : (p q : ℕ) → In p q ds ms → (name : List ℕ) → verdict (line_at text q) ≡ link_to name → find_line text name ≡ None → ⊥
      found p q i name v e =
          let o = leads_on p q i name v in
          let z : Some o.1 ≡ None = sym o.2 ∙ e in
          let w : ◌≡◌ {A = ℕ} 0 1 = cc in
          omega arith
