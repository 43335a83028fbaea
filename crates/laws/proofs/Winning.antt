-- The winning fields: those that removal leaves. They answer each question as all the fields do, and each is the field that the lookup
-- gives for its own name and kind.
-- Assumes nothing.
use Prim.Native.Nat.{ℕ, ◌≤◌, ◌<◌}
use mathlib.Core.Path.{◌≡◌, refl, ◌∙◌, ap, sym}
use mathlib.Core.Bool.{Bool, true, false, not}
use mathlib.Core.List.{List, [], ◌∷◌, ◌++◌, append-nil}
use borrow.Author.Tests.{eq-eqb}
use Rattle.spec.specs.Choice.{pick, both, either}
use Rattle.spec.specs.Fields.{Reading, capability, Content, reading, content_kind, size}
use Rattle.spec.specs.Chain.{Field, texts}
use Rattle.spec.specs.Lookup.{none, hit, matches, lookup, can_win, hides, hidden, winning_after, winning, read_before, met}
use Rattle.laws.proofs.Tests.{clash}
use Rattle.laws.proofs.AcceptedChain.{Sound}
use Rattle.laws.proofs.WholeLines.{AllFree, equal_same}
use Rattle.laws.proofs.Removal.{without, by_removal, win_no_cancel, AllWin, removal_wins, removal_same, removal_free, removal_size, removal_sound}
use Rattle.laws.proofs.Removal.{lookup_removal, lookup-cancel, lookup-hit, lookup_on}

-- Whether a cancel of the name, or a field of the name and kind, was passed.
unfoldable pub stopped : List ℕ → ℕ → List Reading → Bool
stopped id k [] = false
stopped id k (q ∷ qs) = either (either (matches id 0 q) (matches id k q)) (stopped id k qs)

pub hidden-capability : (qs : List Reading) (a b : ℕ) (s : Content) → hidden qs (capability a b s) ≡ stopped (a ∷ b ∷ []) (content_kind s) qs
unfolding hidden stopped hides
hidden-capability [] a b s = refl
hidden-capability (q ∷ qs) a b s = rw (hidden-capability qs a b s)

unfoldable thin : List Reading → List Field → List Field
thin qs [] = []
thin qs (g ∷ gs) = pick (hidden qs (reading g.text)) (thin qs gs) (g ∷ thin qs gs)

thin_more : (q : Reading) (qs : List Reading) (fs : List Field) → thin (q ∷ qs) fs ≡ thin qs (without q fs)
unfolding thin hidden without
thin_more q qs [] = refl
thin_more q qs (f ∷ fs) = go (hides q (reading f.text)) (thin_more q qs fs)
  where
    go : (x : Bool) → thin (q ∷ qs) fs ≡ thin qs (without q fs)
        → pick (either x (hidden qs (reading f.text))) (thin (q ∷ qs) fs) (f ∷ thin (q ∷ qs) fs) ≡ thin qs (pick x (without q fs) (f ∷ without q fs))
    go true e = e
    go false e = rw e

after_thin : (qs : List Reading) (fs : List Field) → winning_after qs fs ≡ thin qs (by_removal fs)
unfolding winning_after by_removal thin
after_thin qs [] = refl
after_thin qs (f ∷ fs) =
    rw (after_thin (reading f.text ∷ qs) fs, thin_more (reading f.text) qs (by_removal fs))
    (go (can_win (reading f.text)) (hidden qs (reading f.text)) refl)
  where
    others : List Field
    others = without (reading f.text) (by_removal fs)

    go : (x y : Bool) → hidden qs (reading f.text) ≡ y → pick (both x (not y)) (f ∷ thin qs others) (thin qs others) ≡ thin qs (pick x (f ∷ others) others)
    go true true e = rw e
    go true false e = rw e
    go false y e = refl

thin_none : (fs : List Field) → thin [] fs ≡ fs
unfolding thin hidden
thin_none [] = refl
thin_none (f ∷ fs) = ap (λ (gs : List Field). f ∷ gs) (thin_none fs)

pub winning_is_removal : (fs : List Field) → winning fs ≡ by_removal fs
unfolding winning
winning_is_removal fs = after_thin [] fs ∙ thin_none (by_removal fs)

-- Either a cancel of the name was met, or a field of the name and kind.
pub stopped_met : (id : List ℕ) (k : ℕ) (qs : List Reading) → stopped id k qs ≡ either (met id 0 qs) (met id k qs)
unfolding stopped met
stopped_met id k [] = refl
stopped_met id k (q ∷ qs) = rw (stopped_met id k qs) (swap (matches id 0 q) (matches id k q) (met id 0 qs) (met id k qs))
  where
    swap : (x y m n : Bool) → either (either x y) (either m n) ≡ either (either x m) (either y n)
    swap true y m n = refl
    swap false true true n = refl
    swap false true false n = refl
    swap false false m n = refl

-- ---- the laws of the winning fields

module _ (fs : List Field) where
  pub winning-wins : AllWin (texts (winning fs))
  winning-wins = rw (winning_is_removal fs) (removal_wins fs)

  pub winning-same : AllWin (texts fs) → winning fs ≡ fs
  winning-same h = rw (winning_is_removal fs) (removal_same fs h)

  pub winning_free : (c : ℕ) → AllFree c (texts fs) → AllFree c (texts (winning fs))
  winning_free c h = rw (winning_is_removal fs) (removal_free c fs h)

  pub winning-size : size (texts (winning fs)) ≤ size (texts fs)
  winning-size = rw (winning_is_removal fs) (removal_size fs)

  pub winning-sound : (name names : List ℕ) → Sound name names (texts fs) → Sound name names (texts (winning fs))
  winning-sound name names k = rw (winning_is_removal fs) (removal_sound name names fs k)

  -- a question finds in the winning fields what it finds in all
  pub lookup-winning : (id : List ℕ) (k : ℕ) → 0 < k → lookup id k (winning fs) ≡ lookup id k fs
  lookup-winning id k z = rw (winning_is_removal fs) (lookup_removal id k z fs)

-- ---- a winning field is the answer for its own name and kind; a field that does not win leaves the answer of those before it

pub winning-after : (qs : List Reading) (fs gs : List Field) → winning_after qs (fs ++ gs) ≡ winning_after qs fs ++ winning_after (read_before qs fs) gs
unfolding winning_after read_before
winning-after qs [] gs = refl
winning-after qs (f ∷ fs) gs =
    rw (winning-after (reading f.text ∷ qs) fs gs) (go (both (can_win (reading f.text)) (not (hidden qs (reading f.text)))))
  where
    rest : List Field
    rest = winning_after (reading f.text ∷ qs) fs

    later : List Field
    later = winning_after (read_before (reading f.text ∷ qs) fs) gs

    go : (x : Bool) → pick x (f ∷ rest ++ later) (rest ++ later) ≡ pick x (f ∷ rest) rest ++ later
    go true = refl
    go false = refl

either_false : (x y : Bool) → either x y ≡ false → (x ≡ false) × (y ≡ false)
either_false true y e = clash e
either_false false y e = (refl, e)

module _ (id : List ℕ) (k : ℕ) (gs : List Field) where
  -- nothing that was passed stops the lookup
  lookup_open : (qs : List Reading) (fs : List Field) → stopped id k (read_before qs fs) ≡ false → (stopped id k qs ≡ false) ×
      (lookup id k (fs ++ gs) ≡ lookup id k gs)
  unfolding read_before stopped
  lookup_open qs [] e = (e, refl)
  lookup_open qs (f ∷ fs) e =
      let ih = lookup_open (reading f.text ∷ qs) fs e in
      let w = either_false (either (matches id 0 (reading f.text)) (matches id k (reading f.text))) (stopped id k qs) ih.0 in
      let m = either_false (matches id 0 (reading f.text)) (matches id k (reading f.text)) w.0 in
      (w.1, lookup_on id k f (fs ++ gs) m.0 m.1 ∙ ih.1)

  -- something among the fields stops it
  lookup_stopped : (qs : List Reading) (fs : List Field) → stopped id k qs ≡ false → stopped id k (read_before qs fs) ≡ true → lookup id k (fs ++ gs) ≡ lookup
      id k fs
  unfolding read_before stopped
  lookup_stopped qs [] n e = clash (sym e ∙ n)
  lookup_stopped qs (f ∷ fs) n e = go (matches id 0 (reading f.text)) refl (matches id k (reading f.text)) refl
      (lookup_stopped (reading f.text ∷ qs) fs) e
    where
      go : (x : Bool) → matches id 0 (reading f.text) ≡ x → (y : Bool) → matches id k (reading f.text) ≡ y
          → (stopped id k (reading f.text ∷ qs) ≡ false → stopped id k (read_before (reading f.text ∷ qs) fs) ≡ true → lookup id k (fs ++ gs) ≡ lookup id
          k fs)
          → stopped id k (read_before (reading f.text ∷ qs) fs) ≡ true
          → lookup id k (f ∷ fs ++ gs) ≡ lookup id k (f ∷ fs)
      go true c y h ih e = lookup-cancel id k f (fs ++ gs) c ∙ sym (lookup-cancel id k f fs c)
      go false c true h ih e = lookup-hit id k f (fs ++ gs) c h ∙ sym (lookup-hit id k f fs c h)
      go false c false h ih e = lookup_on id k f (fs ++ gs) c h ∙ ih (rw (c, h) n) e ∙ sym (lookup_on id k f fs c h)

module _ (before : List Field) (f : Field) (after : List Field) (a b : ℕ) (c : Content) (reads : reading f.text ≡ capability a b c)
    (wins : can_win (reading f.text) ≡ true) where
  own : matches (a ∷ b ∷ []) (content_kind c) (reading f.text) ≡ true
  unfolding matches
  own = rw (reads, equal_same (a ∷ b ∷ []) (a ∷ b ∷ []) refl, eq-eqb (content_kind c) (content_kind c) refl)

  pub winner_answers : hidden (read_before [] before) (reading f.text) ≡ false → lookup (a ∷ b ∷ []) (content_kind c) (before ++ f ∷ after) ≡ hit f.text
  winner_answers h =
      let s : stopped (a ∷ b ∷ []) (content_kind c) (read_before [] before) ≡ false = sym (hidden-capability (read_before [] before) a b c) ∙ rw (← reads) h in
      (lookup_open (a ∷ b ∷ []) (content_kind c) (f ∷ after) [] before s).1
      ∙ lookup-hit (a ∷ b ∷ []) (content_kind c) f after (win_no_cancel (a ∷ b ∷ []) (reading f.text) wins) own

  -- nothing before it answers
  pub winner_first : hidden (read_before [] before) (reading f.text) ≡ false → lookup (a ∷ b ∷ []) (content_kind c) before ≡ none
  unfolding lookup
  winner_first h =
      let s : stopped (a ∷ b ∷ []) (content_kind c) (read_before [] before) ≡ false = sym (hidden-capability (read_before [] before) a b c) ∙ rw (← reads) h in
      rw (append-nil before) at (lookup_open (a ∷ b ∷ []) (content_kind c) [] [] before s).1

  pub loser_passed : hidden (read_before [] before) (reading f.text) ≡ true → lookup (a ∷ b ∷ []) (content_kind c) (before ++ f ∷ after) ≡ lookup
      (a ∷ b ∷ []) (content_kind c) before
  unfolding stopped
  loser_passed h =
      let s : stopped (a ∷ b ∷ []) (content_kind c) (read_before [] before) ≡ true = sym (hidden-capability (read_before [] before) a b c) ∙ rw (← reads) h in
      lookup_stopped (a ∷ b ∷ []) (content_kind c) (f ∷ after) [] before refl s
