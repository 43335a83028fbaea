-- The winning fields by removal: a field that can win stays, and takes away what it hides of those after it. This form has no list of
-- earlier fields, so the inductions are short; Winning.antt shows that it gives the winning fields.
-- Assumes nothing.
use Prim.Native.Nat.{ℕ, ◌+◌, ◌≤◌, ◌<◌}
use mathlib.Core.Path.{◌≡◌, refl, ◌∙◌, sym}
use mathlib.Core.Bool.{Bool, true, false}
use mathlib.Core.List.{List, [], ◌∷◌, ◌++◌}
use native.Mathlib.Omega.{arith}
use borrow.Author.Tests.{eqb-true, ne_eqb}
use lib.Dec.{eqb}
use lib.ListN.{length}
use Rattle.spec.specs.Choice.{pick, either}
use Rattle.spec.specs.Lists.{same}
use Rattle.laws.proofs.Tests.{clash, both_false, both_true, not_is_true}
use Rattle.laws.proofs.WholeLines.{AllFree, same_equal}
use Rattle.spec.specs.Fields.{Reading, malformed, ignored, link, capability, reading, content_kind, size, Verdict, no_link, judged, judge}
use Rattle.spec.specs.Chain.{Field, placed, texts}
use Rattle.laws.proofs.AcceptedChain.{Sound}
use Rattle.spec.specs.Lookup.{none, hit, matches, lookup, can_win, hides}

-- ---- readings

-- A field of the name and kind asked for is hidden by a cancel of the name and by a field of the name and kind.
pub matches-hides : (id : List ℕ) (k : ℕ) (r q : Reading) → matches id k r ≡ true → hides q r ≡ either (matches id 0 q) (matches id k q)
unfolding matches hides
matches-hides id k malformed q e = clash (sym e)
matches-hides id k ignored q e = clash (sym e)
matches-hides id k (link n) q e = clash (sym e)
matches-hides id k (capability a b s) q e =
    let w = both_true (same id (a ∷ b ∷ [])) (eqb k (content_kind s)) e in
    let i = same_equal id (a ∷ b ∷ []) w.0 in
    let j = eqb-true k (content_kind s) w.1 in
    rw (i, j)

pub win_no_cancel : (id : List ℕ) (r : Reading) → can_win r ≡ true → matches id 0 r ≡ false
unfolding matches can_win
win_no_cancel id malformed e = refl
win_no_cancel id ignored e = refl
win_no_cancel id (link n) e = refl
win_no_cancel id (capability a b s) e = rw (not_is_true (eqb 0 (content_kind s)) e) (both_false (same id (a ∷ b ∷ [])))

pub matches-wins : (id : List ℕ) (k : ℕ) (r : Reading) → 0 < k → matches id k r ≡ true → can_win r ≡ true
unfolding matches can_win
matches-wins id k malformed h e = clash (sym e)
matches-wins id k ignored h e = clash (sym e)
matches-wins id k (link n) h e = clash (sym e)
matches-wins id k (capability a b s) h e =
    let w = both_true (same id (a ∷ b ∷ [])) (eqb k (content_kind s)) e in
    let j = eqb-true k (content_kind s) w.1 in
    rw (ne_eqb 0 (content_kind s) (omega arith))

pub win_judged : (r : Reading) (ts : List (List ℕ)) (v : Verdict) → can_win r ≡ true → judged r ts v ≡ v
unfolding can_win judged
win_judged malformed ts v e = clash (sym e)
win_judged ignored ts v e = clash (sym e)
win_judged (link n) ts v e = clash (sym e)
win_judged (capability a b s) ts v e = refl

-- ---- removal

unfoldable pub without : Reading → List Field → List Field
without r [] = []
without r (g ∷ gs) = pick (hides r (reading g.text)) (without r gs) (g ∷ without r gs)

unfoldable pub by_removal : List Field → List Field
by_removal [] = []
by_removal (f ∷ fs) =
    let others = without (reading f.text) (by_removal fs) in
    pick (can_win (reading f.text)) (f ∷ others) others

-- ---- lists in which each field wins

-- Nothing in the list is hidden by an earlier field with that reading.
abbrev pub Clear : Reading → List (List ℕ) → Type 0
Clear r [] = Unit {0}
Clear r (t ∷ ts) = (hides r (reading t) ≡ false) × Clear r ts

abbrev pub AllWin : List (List ℕ) → Type 0
AllWin [] = Unit {0}
AllWin (t ∷ ts) = (can_win (reading t) ≡ true) × Clear (reading t) ts × AllWin ts

without_clears : (r : Reading) (fs : List Field) → Clear r (texts (without r fs))
unfolding without texts
without_clears r [] = tt
without_clears r (f ∷ fs) = go (hides r (reading f.text)) refl (without_clears r fs)
  where
    go : (x : Bool) → hides r (reading f.text) ≡ x → Clear r (texts (without r fs)) → Clear r (texts (pick x (without r fs) (f ∷ without r fs)))
    go true e h = h
    go false e h = (e, h)

without_clear : (q r : Reading) (fs : List Field) → Clear q (texts fs) → Clear q (texts (without r fs))
unfolding without texts
without_clear q r [] h = tt
without_clear q r (f ∷ fs) h = go (hides r (reading f.text)) (without_clear q r fs h.1)
  where
    go : (x : Bool) → Clear q (texts (without r fs)) → Clear q (texts (pick x (without r fs) (f ∷ without r fs)))
    go true k = k
    go false k = (h.0, k)

without_wins : (r : Reading) (fs : List Field) → AllWin (texts fs) → AllWin (texts (without r fs))
unfolding without texts
without_wins r [] h = tt
without_wins r (f ∷ fs) h = go (hides r (reading f.text)) (without_clear (reading f.text) r fs h.1) (without_wins r fs h.2)
  where
    go : (x : Bool) → Clear (reading f.text) (texts (without r fs)) → AllWin (texts (without r fs)) → AllWin
        (texts (pick x (without r fs) (f ∷ without r fs)))
    go true c k = k
    go false c k = (h.0, c, k)

pub removal_wins : (fs : List Field) → AllWin (texts (by_removal fs))
unfolding by_removal texts
removal_wins [] = tt
removal_wins (f ∷ fs) =
    go (can_win (reading f.text)) refl (without_clears (reading f.text) (by_removal fs))
    (without_wins (reading f.text) (by_removal fs) (removal_wins fs))
  where
    go : (x : Bool) → can_win (reading f.text) ≡ x → Clear (reading f.text) (texts (without (reading f.text) (by_removal fs))) → AllWin
        (texts (without (reading f.text) (by_removal fs)))
        → AllWin (texts (pick x (f ∷ without (reading f.text) (by_removal fs)) (without (reading f.text) (by_removal fs))))
    go true e c k = (e, c, k)
    go false e c k = k

-- Such a list loses nothing.
without_same : (r : Reading) (fs : List Field) → Clear r (texts fs) → without r fs ≡ fs
unfolding without texts
without_same r [] h = refl
without_same r (f ∷ fs) h = rw (h.0, without_same r fs h.1)

pub removal_same : (fs : List Field) → AllWin (texts fs) → by_removal fs ≡ fs
unfolding by_removal texts
removal_same [] h = refl
removal_same (f ∷ fs) h = rw (h.0, removal_same fs h.2, without_same (reading f.text) fs h.1)

-- It ends its chain.
pub win_judge : (ts : List (List ℕ)) → AllWin ts → judge ts ≡ no_link
unfolding judge
win_judge [] h = refl
win_judge (t ∷ ts) h = win_judged (reading t) ts (judge ts) h.0 ∙ win_judge ts h.2

-- ---- lookup

module _ (id : List ℕ) (k : ℕ) where
  -- the answer does not depend on places
  pub lookup-placed : (p n : ℕ) (fs : List Field) → lookup id k (placed p n (texts fs)) ≡ lookup id k fs
  unfolding lookup placed texts
  lookup-placed p n [] = refl
  lookup-placed p n (f ∷ fs) = rw (lookup-placed p n fs)

  pub lookup-cancel : (f : Field) (fs : List Field) → matches id 0 (reading f.text) ≡ true → lookup id k (f ∷ fs) ≡ none
  unfolding lookup
  lookup-cancel f fs e = rw e

  pub lookup-hit : (f : Field) (fs : List Field) → matches id 0 (reading f.text) ≡ false → matches id k (reading f.text) ≡ true → lookup id k (f ∷ fs) ≡
      hit f.text
  unfolding lookup
  lookup-hit f fs e h = rw (e, h)

  pub lookup_on : (f : Field) (fs : List Field) → matches id 0 (reading f.text) ≡ false → matches id k (reading f.text) ≡ false → lookup id k (f ∷ fs) ≡
      lookup id k fs
  unfolding lookup
  lookup_on f fs e h = rw (e, h)

  -- what a cancel leaves has no answer
  cancelled : (r : Reading) → matches id 0 r ≡ true → (fs : List Field) → AllWin (texts fs) → lookup id k (without r fs) ≡ none
  unfolding without texts
  cancelled r c [] w = unfold lookup in refl
  cancelled r c (f ∷ fs) w = go (hides r (reading f.text)) refl (matches id k (reading f.text)) refl (cancelled r c fs w.2)
    where
      go : (x : Bool) → hides r (reading f.text) ≡ x → (y : Bool) → matches id k (reading f.text) ≡ y → lookup id k (without r fs) ≡ none → lookup id k
          (pick x (without r fs) (f ∷ without r fs)) ≡ none
      go true e y h ih = ih
      go false e true h ih = clash (rw c at (sym (matches-hides id k (reading f.text) r h) ∙ e))
      go false e false h ih = lookup_on f (without r fs) (win_no_cancel id (reading f.text) w.0) h ∙ ih

  -- what another field leaves has the same answer
  left : (r : Reading) → matches id 0 r ≡ false → matches id k r ≡ false → (fs : List Field) → AllWin (texts fs) → lookup id k (without r fs) ≡ lookup id k fs
  unfolding without texts
  left r c n [] w = refl
  left r c n (f ∷ fs) w = go (hides r (reading f.text)) refl (matches id k (reading f.text)) refl (left r c n fs w.2)
    where
      no : matches id 0 (reading f.text) ≡ false
      no = win_no_cancel id (reading f.text) w.0

      go : (x : Bool) → hides r (reading f.text) ≡ x → (y : Bool) → matches id k (reading f.text) ≡ y → lookup id k (without r fs) ≡ lookup id k fs →
          lookup id k (pick x (without r fs) (f ∷ without r fs)) ≡ lookup id k (f ∷ fs)
      go true e true h ih = clash (rw (c, n) at (sym e ∙ matches-hides id k (reading f.text) r h))
      go true e false h ih = ih ∙ sym (lookup_on f fs no h)
      go false e true h ih = lookup-hit f (without r fs) no h ∙ sym (lookup-hit f fs no h)
      go false e false h ih = lookup_on f (without r fs) no h ∙ ih ∙ sym (lookup_on f fs no h)

  -- A question finds in what is left what it finds in all.
  pub lookup_removal : 0 < k → (fs : List Field) → lookup id k (by_removal fs) ≡ lookup id k fs
  unfolding by_removal
  lookup_removal z [] = refl
  lookup_removal z (f ∷ fs) = go (can_win (reading f.text)) refl (matches id 0 (reading f.text)) refl (matches id k (reading f.text)) refl
      (lookup_removal z fs)
    where
      r : Reading
      r = reading f.text

      others : List Field
      others = without (reading f.text) (by_removal fs)

      go : (w : Bool) → can_win r ≡ w → (c : Bool) → matches id 0 r ≡ c → (h : Bool) → matches id k r ≡ h → lookup id k (by_removal fs) ≡ lookup id k fs →
          lookup id k (pick w (f ∷ others) others) ≡ lookup id k (f ∷ fs)
      go true ew true ec h eh ih = clash (sym ec ∙ win_no_cancel id r ew)
      go true ew false ec true eh ih = lookup-hit f others ec eh ∙ sym (lookup-hit f fs ec eh)
      go true ew false ec false eh ih = lookup_on f others ec eh ∙ left r ec eh (by_removal fs) (removal_wins fs) ∙ ih ∙ sym (lookup_on f fs ec eh)
      go false ew true ec h eh ih = cancelled r ec (by_removal fs) (removal_wins fs) ∙ sym (lookup-cancel f fs ec)
      go false ew false ec true eh ih = clash (sym (matches-wins id k r z eh) ∙ ew)
      go false ew false ec false eh ih = left r ec eh (by_removal fs) (removal_wins fs) ∙ ih ∙ sym (lookup_on f fs ec eh)

-- ---- fields before others: only what is left of the others counts

pub lookup-before_removal : (id : List ℕ) (k : ℕ) → 0 < k → (fs gs : List Field) → lookup id k (fs ++ by_removal gs) ≡ lookup id k (fs ++ gs)
unfolding lookup
lookup-before_removal id k z [] gs = lookup_removal id k z gs
lookup-before_removal id k z (f ∷ fs) gs = rw (lookup-before_removal id k z fs gs)

-- ---- what the fields have, those that are left have

without_free : (c : ℕ) (r : Reading) (fs : List Field) → AllFree c (texts fs) → AllFree c (texts (without r fs))
unfolding without texts
without_free c r [] h = tt
without_free c r (f ∷ fs) h = go (hides r (reading f.text)) (without_free c r fs h.1)
  where
    go : (x : Bool) → AllFree c (texts (without r fs)) → AllFree c (texts (pick x (without r fs) (f ∷ without r fs)))
    go true k = k
    go false k = (h.0, k)

pub removal_free : (c : ℕ) (fs : List Field) → AllFree c (texts fs) → AllFree c (texts (by_removal fs))
unfolding by_removal texts
removal_free c [] h = tt
removal_free c (f ∷ fs) h = go (can_win (reading f.text)) (without_free c (reading f.text) (by_removal fs) (removal_free c fs h.1))
  where
    go : (x : Bool) → AllFree c (texts (without (reading f.text) (by_removal fs))) → AllFree c
        (texts (pick x (f ∷ without (reading f.text) (by_removal fs)) (without (reading f.text) (by_removal fs))))
    go true k = (h.0, k)
    go false k = k

without_size : (r : Reading) (fs : List Field) → size (texts (without r fs)) ≤ size (texts fs)
unfolding without texts size
without_size r [] = omega arith
without_size r (f ∷ fs) = go (hides r (reading f.text)) (without_size r fs)
  where
    go : (x : Bool) → size (texts (without r fs)) ≤ size (texts fs) → size (texts (pick x (without r fs) (f ∷ without r fs))) ≤ length f.text + 1 + size
        (texts fs)
    go true k = omega arith
    go false k = omega arith

pub removal_size : (fs : List Field) → size (texts (by_removal fs)) ≤ size (texts fs)
unfolding by_removal texts size
removal_size [] = omega arith
removal_size (f ∷ fs) = go (can_win (reading f.text)) (without_size (reading f.text) (by_removal fs)) (removal_size fs)
  where
    go : (x : Bool) → size (texts (without (reading f.text) (by_removal fs))) ≤ size (texts (by_removal fs)) → size (texts (by_removal fs)) ≤ size (texts fs)
        → size (texts (pick x (f ∷ without (reading f.text) (by_removal fs)) (without (reading f.text) (by_removal fs)))) ≤ length f.text + 1 + size
        (texts fs)
    go true k l = omega arith
    go false k l = omega arith

-- What is left is as sound as all of it.
pub removal_sound : (name names : List ℕ) (fs : List Field) → Sound name names (texts fs) → Sound name names (texts (by_removal fs))
removal_sound name names fs k =
    record {
      line = k.line;
      colon = k.colon;
      names_are = k.names_are;
      held = k.held;
      names_free = k.names_free;
      names_stop = k.names_stop;
      free = removal_free 10 fs k.free;
      stop = removal_free 58 fs k.stop;
      fits = omega (arith, removal_size fs, k.fits);
    }
