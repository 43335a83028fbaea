-- The search over the files of which one is edited: a line that is found is found again, moved if it stands behind the edited line in its file.
-- Assumes nothing.
use Rattle.std.specs.Prelude.{Option, Some, None}
use Prim.Native.Nat.{ℕ, zero, suc, ◌+◌, ◌-◌, ◌≤◌, ◌<◌}
use mathlib.Core.Path.{◌≡◌, refl, ◌∙◌, ap, sym}
use mathlib.Core.Bool.{Bool, true, false}
use mathlib.Core.Logic.{⊎_elim}
use mathlib.Core.List.{List, [], ◌∷◌}
use native.Mathlib.Omega.{arith}
use borrow.Author.Tests.{eq-eqb, ne_eqb, eqb-true, eqb-false, leb-true, leb-false}
use lib.Dec.{eqb, leb}
use lib.ListN.{length, drop, get_or, set}
use lib.Seq.{drop-set-add, drop-set-lt, get_or-drop, get_or-set_same, get_or-set_other}
use Rattle.spec.specs.Choice.{both}
use Rattle.laws.proofs.Tests.{both_false}
use Rattle.spec.specs.Chain.{visited}
use Rattle.spec.specs.Lines.{find_line, line_at}
use Rattle.spec.specs.Files.{file_at, line_of, or_later, locate, find_from}
use Rattle.spec.specs.declared.Location.{Location}
use Rattle.demands.proofs.EditedFile.{Moved}

-- The line p of the old files is the line q of the edited ones. In a file other than k, or up to the place a, it stays; behind the place `to`
-- it moves, as `to` moves to c.
pub data Same (k a to c : ℕ) : Location → Location → Type 0 where
  elsewhere : (p : Location) → (p.file ≡ k → ⊥) → Same k a to c p p
  upto : (i : ℕ) → i ≤ a → Same k a to c (record { file = k; at = i }) (record { file = k; at = i })
  behind : (d : ℕ) → Same k a to c (record { file = k; at = to + d }) (record { file = k; at = c + d })

abbrev pub FoundAgain : ℕ → ℕ → ℕ → ℕ → Option Location → Option Location → Type 0
FoundAgain k a to c (Some p) (Some q) = Same k a to c p q
FoundAgain k a to c (Some p) None = ⊥
FoundAgain k a to c None (Some q) = ⊥
FoundAgain k a to c None None = Unit {0}

module _ (n : List ℕ) (k a to c : ℕ) where
  -- files after the edited one are the same
  others : (j : ℕ) (fs : List (List ℕ)) → k < j → FoundAgain k a to c (locate j fs n) (locate j fs n)
  unfolding locate
  others j [] h = tt
  others j (f ∷ fs) h = go (find_line f n) (others (j + 1) fs (omega arith))
    where
      go : (x : Option ℕ) → FoundAgain k a to c (locate (j + 1) fs n) (locate (j + 1) fs n)
          → FoundAgain k a to c (or_later j x (locate (j + 1) fs n)) (or_later j x (locate (j + 1) fs n))
      go (Some p) ih = elsewhere (record { file = j; at = p }) (λ e. omega arith)
      go None ih = ih

  module _ (new : List ℕ) where
    edited_here : (m j : ℕ) (fs : List (List ℕ)) → j + m ≡ k → Moved a to c (find_line (get_or fs m []) n) (find_line new n)
        → FoundAgain k a to c (locate j fs n) (locate j (set fs m new) n)
    unfolding locate
    edited_here m j [] e h = tt
    edited_here zero j (f ∷ fs) e h = go (find_line f n) (find_line new n) h (others (j + 1) fs (omega arith))
      where
        go : (x y : Option ℕ) → Moved a to c x y → FoundAgain k a to c (locate (j + 1) fs n) (locate (j + 1) fs n)
            → FoundAgain k a to c (or_later j x (locate (j + 1) fs n)) (or_later j y (locate (j + 1) fs n))
        go (Some p) (Some q) h ih =
            let i : j ≡ k = omega arith in
            rw i (⊎_elim (λ u. rw u.1 (upto p u.0)) (λ u. rw (u.1, u.2) (behind u.0)) h)
        go (Some p) None h ih = absurd h
        go None (Some q) h ih = absurd h
        go None None h ih = ih
    edited_here (suc m) j (f ∷ fs) e h = go (find_line f n) (edited_here m (j + 1) fs (omega arith) h)
      where
        before : j ≡ k → ⊥
        before q = omega arith

        go : (x : Option ℕ) → FoundAgain k a to c (locate (j + 1) fs n) (locate (j + 1) (set fs m new) n)
            → FoundAgain k a to c (or_later j x (locate (j + 1) fs n)) (or_later j x (locate (j + 1) (set fs m new) n))
        go (Some p) ih = elsewhere (record { file = j; at = p }) (λ q. before q)
        go None ih = ih

    pub found-again : (j : ℕ) (fs : List (List ℕ)) → Moved a to c (find_line (get_or fs k []) n) (find_line new n)
        → FoundAgain k a to c (find_from fs j n) (find_from (set fs k new) j n)
    unfolding find_from
    found-again j fs h = go (leb j k) refl
      where
        go : (x : Bool) → leb j k ≡ x → FoundAgain k a to c (locate j (drop j fs) n) (locate j (drop j (set fs k new)) n)
        go true l =
            let i : j + (k - j) ≡ k = omega (arith, leb-true j k l) in
            let e : drop j (set fs k new) ≡ set (drop j fs) (k - j) new = ap (λ (x : ℕ). drop j (set fs x new)) (sym i) ∙ drop-set-add j fs (k - j) new in
            rw e (edited_here (k - j) j (drop j fs) i (rw (get_or-drop j fs (k - j) [], i) h))
        go false l =
            let late : k < j = leb-false j k l in
            rw (drop-set-lt j fs k new late) (others j (drop j fs) late)

-- ---- two lines are one line in the edited files exactly if they were, so 7 reads the same

eqb-behind : (m x y : ℕ) → eqb (m + x) (m + y) ≡ eqb x y
eqb-behind m x y = go (eqb x y) refl
  where
    go : (b : Bool) → eqb x y ≡ b → eqb (m + x) (m + y) ≡ b
    go true e = eq-eqb (m + x) (m + y) (ap (λ (z : ℕ). m + z) (eqb-true x y e))
    go false e = ne_eqb (m + x) (m + y) (λ q. eqb-false x y e (omega arith))

abbrev is_same_line : Location → Location → Bool
is_same_line p q = both (eqb p.file q.file) (eqb p.at q.at)

file-apart : (p q : Location) → (p.file ≡ q.file → ⊥) → is_same_line p q ≡ false
file-apart p q h = rw (ne_eqb p.file q.file h)

place-apart : (k i j : ℕ) → (i ≡ j → ⊥) → is_same_line (record { file = k; at = i }) (record { file = k; at = j }) ≡ false
place-apart k i j h = rw (ne_eqb i j h) (both_false (eqb k k))

module _ (k a to c : ℕ) (old : a < to) (new : a < c) where
  same-again : (p q r s : Location) → Same k a to c p q → Same k a to c r s → is_same_line q s ≡ is_same_line p r
  same-again p q r s (elsewhere x h) (elsewhere y g) = refl
  same-again p q r s (elsewhere x h) (upto i l) = refl
  same-again p q r s (elsewhere x h) (behind d) = file-apart x _ h ∙ sym (file-apart x _ h)
  same-again p q r s (upto i l) (elsewhere y g) = refl
  same-again p q r s (upto i l) (upto j m) = refl
  same-again p q r s (upto i l) (behind d) = place-apart k i (c + d) (λ e. omega arith) ∙ sym (place-apart k i (to + d) (λ e. omega arith))
  same-again p q r s (behind d) (elsewhere y g) = file-apart _ y (λ e. g (sym e)) ∙ sym (file-apart _ y (λ e. g (sym e)))
  same-again p q r s (behind d) (upto i l) = place-apart k (c + d) i (λ e. omega arith) ∙ sym (place-apart k (to + d) i (λ e. omega arith))
  same-again p q r s (behind d) (behind e) = ap (both (eqb k k)) (eqb-behind c d e ∙ sym (eqb-behind to d e))

  pub data AllSame : List Location → List Location → Type 0 where
    none : AllSame [] []
    some : (p q : Location) (ps qs : List Location) → Same k a to c p q → AllSame ps qs → AllSame (p ∷ ps) (q ∷ qs)

  pub visited-again : (p q : Location) (ps qs : List Location) → Same k a to c p q → AllSame ps qs → visited q qs ≡ visited p ps
  unfolding visited
  visited-again p q ps qs h none = refl
  visited-again p q ps qs h (some r s rs ss g gs) = rw (same-again p q r s h g, visited-again p q rs ss h gs)

-- ---- the same line has the same text, unless it is the edited one

module _ (k a to c : ℕ) (fs : List (List ℕ)) (new : List ℕ) (some : k < length fs)
    (text-upto : (i : ℕ) → i < a → line_at new i ≡ line_at (get_or fs k []) i)
    (text-behind : (d : ℕ) → line_at new (c + d) ≡ line_at (get_or fs k []) (to + d)) where
  pub same_text : (p q : Location) → Same k a to c p q → (p ≡ record { file = k; at = a } → ⊥) → line_of (set fs k new) q ≡ line_of fs p
  unfolding line_of file_at
  same_text p q (elsewhere r h) n = rw (get_or-set_other fs k r.file new [] h)
  same_text p q (upto i l) n = rw (get_or-set_same fs k new [] some) (text-upto i (go (eqb i a) refl))
    where
      go : (x : Bool) → eqb i a ≡ x → i < a
      go true e = absurd (n (ap (λ (j : ℕ). record { file = k; at = j }) (eqb-true i a e)))
      go false e = omega (arith, eqb-false i a e)
  same_text p q (behind d) n = rw (get_or-set_same fs k new [] some) (text-behind d)

pub edited-text : (k a : ℕ) (fs : List (List ℕ)) (new : List ℕ) → k < length fs → line_of (set fs k new) (record { file = k; at = a }) ≡ line_at new a
unfolding line_of file_at
edited-text k a fs new inside = rw (get_or-set_same fs k new [] inside)
