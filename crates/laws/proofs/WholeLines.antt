-- Lines as texts: the line that a search finds, and the line of a raw text that has no newline in it.
-- Assumes nothing.
use Rattle.std.specs.Prelude.{Some}
use Prim.Native.Nat.{ℕ, zero, suc, ◌+◌}
use mathlib.Core.Path.{sym, ◌≡◌, refl, ◌∙◌, ap}
use mathlib.Core.Bool.{Bool, true, false, not}
use mathlib.Core.List.{List, [], ◌∷◌, ◌++◌}
use native.Mathlib.Numerals.{add-one}
use native.Mathlib.Omega.{arith}
use borrow.Author.Tests.{eq-eqb, ne_eqb, eqb-true, eqb-false}
use lib.Dec.{eqb}
use lib.ListN.{length, drop}
use lib.Seq.{drop-drop}
use Rattle.laws.proofs.TextSteps as Laws
use Rattle.spec.specs.Choice.{pick, both}
use Rattle.spec.specs.Lines.{Text, end, byte, join, text_at, Line, line_text, later_lines, is_ignored, has_name, find, find_line, line_at}
use Rattle.spec.specs.Lists.{same}
use Rattle.laws.proofs.Tests.{both_false, both_true, not_is_true}

-- ---- bytes that a text does not have

abbrev pub Free : ℕ → List ℕ → Type 0
Free c [] = Unit {0}
Free c (b ∷ l) = (b ≡ c → ⊥) × Free c l

abbrev pub AllFree : ℕ → List (List ℕ) → Type 0
AllFree c [] = Unit {0}
AllFree c (l ∷ ls) = Free c l × AllFree c ls

-- A line's text has no newline.
pub line_free : (t : Text) → Free 10 (line_text t)
unfolding line_text
line_free end = tt
line_free (byte b n t) = go (eqb b 10) refl (line_free t)
  where
    go : (x : Bool) → eqb b 10 ≡ x → Free 10 (line_text t) → Free 10 (pick x [] (b ∷ line_text t))
    go true e h = tt
    go false e h = (eqb-false b 10 e, h)

-- ---- the line that is found is not ignored and has the name

abbrev pub Holds : List ℕ → List ℕ → Type 0
Holds n l = (is_ignored l ≡ false) × (has_name n l ≡ true)

drop_tail : (b : ℕ) (s : List ℕ) (at : ℕ) (l : List ℕ) → b ∷ s ≡ drop at l → s ≡ drop (suc at) l
drop_tail b s zero [] e = let z : ◌≡◌ {A = ℕ} 0 1 = cc in absurd (omega arith)
drop_tail b s zero (x ∷ l) e = cc
drop_tail b s (suc at) [] e = let z : ◌≡◌ {A = ℕ} 0 1 = cc in absurd (omega arith)
drop_tail b s (suc at) (x ∷ l) e = drop_tail b s at l e

pub drop_on : (b : ℕ) (s : List ℕ) (at : ℕ) (l : List ℕ) → b ∷ s ≡ drop at l → s ≡ drop (at + 1) l
drop_on b s at l e = rw add-one (drop_tail b s at l e)

module _ (db n : List ℕ) where
  find_first : (l : Line) (ls : List Line) (p : ℕ) → find n (l ∷ ls) ≡ Some p → l.text ≡ line_at db l.start → (find n ls ≡ Some p → Holds n (line_at db p)) →
      Holds n (line_at db p)
  unfolding find
  find_first l ls p e f ih = go (both (not (is_ignored l.text)) (has_name n l.text)) refl e
    where
      go : (x : Bool) → both (not (is_ignored l.text)) (has_name n l.text) ≡ x → pick x (Some l.start) (find n ls) ≡ Some p → Holds n (line_at db p)
      go true h q =
          let s : l.start ≡ p = cc in
          let w = both_true _ _ h in
          let ig = not_is_true _ w.0 in
          rw (← s, ← f) (ig, w.1)
      go false h q = ih q

  find-byte : (b at p : ℕ) (t : Text) → line_text t ≡ line_at db at
      → (find n (later_lines t) ≡ Some p → Holds n (line_at db p)) → find n (later_lines (byte b at t))
      ≡ Some p → Holds n (line_at db p)
  unfolding later_lines
  find-byte b at p t f ih e = go (eqb b 10) e
    where
      go : (x : Bool) → find n (pick x (record { start = at; text = line_text t } ∷ later_lines t) (later_lines t)) ≡ Some p → Holds n (line_at db p)
      go true q = find_first (record { start = at; text = line_text t }) (later_lines t) p q f ih
      go false q = ih q

  find_later : (at : ℕ) (s : List ℕ) (p : ℕ) → s ≡ drop at db → find n (later_lines (join at s)) ≡ Some p → Holds n (line_at db p)
  unfolding join later_lines find line_at text_at
  find_later at [] p d e = let z : ◌≡◌ {A = ℕ} 0 1 = cc in absurd (omega arith)
  find_later at (b ∷ []) p d e = find-byte b (at + 1) p end (rw (← drop_on b [] at db d)) (λ q. let z : ◌≡◌ {A = ℕ} 0 1 = cc in absurd (omega arith)) e
  find_later at (b ∷ c ∷ s) p d e =
      let d₁ : c ∷ s ≡ drop (at + 1) db = drop_on b (c ∷ s) at db d in
      go (both (eqb b 92) (eqb c 10)) d₁ (find_later (at + 1 + 1) s p (drop_on c s (at + 1) db d₁)) (find_later (at + 1) (c ∷ s) p d₁) e
    where
      go : (x : Bool) → c ∷ s ≡ drop (at + 1) db
          → (find n (later_lines (join (at + 1 + 1) s)) ≡ Some p → Holds n (line_at db p))
          → (find n (later_lines (join (at + 1) (c ∷ s))) ≡ Some p → Holds n (line_at db p))
          → find n (later_lines (pick x (join (at + 1 + 1) s) (byte b (at + 1) (join (at + 1) (c ∷ s))))) ≡ Some p → Holds n (line_at db p)
      go true d₁ skipped kept q = skipped q
      go false d₁ skipped kept q = find-byte b (at + 1) p (join (at + 1) (c ∷ s)) (rw (← d₁)) kept q

  pub found-holds : (p : ℕ) → find_line db n ≡ Some p → Holds n (line_at db p)
  unfolding find_line text_at line_at
  found-holds p e = find_first (record { start = 0; text = line_text (join 0 db) }) (later_lines (join 0 db)) p e refl (find_later 0 db p refl)

-- ---- a raw text without a newline before a colon (58)

join-next : (at b c : ℕ) (s : List ℕ) → (c ≡ 10 → ⊥) → join at (b ∷ c ∷ s) ≡ byte b (at + 1) (join (at + 1) (c ∷ s))
unfolding join
join-next at b c s n = rw (ne_eqb c 10 n, both_false (eqb b 92))

line-next : (at b : ℕ) (t : Text) → (b ≡ 10 → ⊥) → line_text (byte b at t) ≡ b ∷ line_text t
unfolding line_text
line-next at b t n = rw (ne_eqb b 10 n)

pub line_over : (f s r : List ℕ) (at : ℕ) → Free 10 f → ((i : ℕ) → line_text (join i (58 ∷ s)) ≡ r) → line_text (join at (f ++ 58 ∷ s)) ≡ f ++ r
line_over [] s r at h k = k at
line_over (b ∷ []) s r at h k =
    ap line_text (join-next at b 58 s (omega arith)) ∙ line-next (at + 1) b _ h.0 ∙ ap (λ (l : List ℕ). b ∷ l) (k (at + 1))
line_over (b ∷ c ∷ f) s r at h k =
    ap line_text (join-next at b c (f ++ 58 ∷ s) h.1.0) ∙ line-next (at + 1) b _ h.0 ∙ ap (λ (l : List ℕ). b ∷ l)
    (line_over (c ∷ f) s r (at + 1) h.1 k)

-- the colon itself, before what has no newline but its last byte
pub line-colon : (s r : List ℕ) (at : ℕ) → line_text (join (at + 1) s) ≡ r → line_text (join at (58 ∷ s)) ≡ 58 ∷ r
line-colon s r at e = ap line_text (Laws.join-byte at 58 s (omega arith)) ∙ line-next (at + 1) 58 _ (omega arith) ∙ ap (λ (l : List ℕ). 58 ∷ l) e

pub line-newline : (at : ℕ) → line_text (join at (10 ∷ [])) ≡ []
unfolding line_text join
line-newline at = refl

-- ---- the search at a database's first line

pub find-at-start : (db n : List ℕ) → Holds n (line_at db 0) → find_line db n ≡ Some 0
unfolding find_line find line_at
find-at-start db n h = rw (h.0, h.1)

-- ---- comparison

pub same_equal : (x y : List ℕ) → same x y ≡ true → x ≡ y
unfolding same
same_equal [] [] e = refl
same_equal [] (b ∷ y) e = let z : ◌≡◌ {A = ℕ} 0 1 = cc in absurd (omega arith)
same_equal (a ∷ x) [] e = let z : ◌≡◌ {A = ℕ} 0 1 = cc in absurd (omega arith)
same_equal (a ∷ x) (b ∷ y) e =
    let w = both_true (eqb a b) (same x y) e in
    let h = eqb-true a b w.0 in
    let t = same_equal x y w.1 in
    cc

pub equal_same : (x y : List ℕ) → x ≡ y → same x y ≡ true
unfolding same
equal_same [] [] e = refl
equal_same [] (b ∷ y) e = let z : ◌≡◌ {A = ℕ} 0 1 = cc in absurd (omega arith)
equal_same (a ∷ x) [] e = let z : ◌≡◌ {A = ℕ} 0 1 = cc in absurd (omega arith)
equal_same (a ∷ x) (b ∷ y) e =
    let h : a ≡ b = cc in
    let t : x ≡ y = cc in
    rw (eq-eqb a b h, equal_same x y t)

-- A name of another length is another name.
pub other_length : (x y : List ℕ) → (length y ≡ length x → ⊥) → same x y ≡ false
other_length x y h = go (same x y) refl
  where
    go : (z : Bool) → same x y ≡ z → z ≡ false
    go true e = absurd (h (sym (ap length (same_equal x y e))))
    go false e = refl

-- ---- a part of the database: a line's text does not depend on where its bytes stand

pub line_shift : (i j : ℕ) (s : List ℕ) → line_text (join i s) ≡ line_text (join j s)
unfolding join line_text
line_shift i j [] = refl
line_shift i j (b ∷ []) = refl
line_shift i j (b ∷ c ∷ s) = go (both (eqb b 92) (eqb c 10)) (eqb b 10) (line_shift (i + 1 + 1) (j + 1 + 1) s) (line_shift (i + 1) (j + 1) (c ∷ s))
  where
    go : (x y : Bool) → line_text (join (i + 1 + 1) s) ≡ line_text (join (j + 1 + 1) s) → line_text (join (i + 1) (c ∷ s)) ≡ line_text (join (j + 1) (c ∷ s))
        → line_text (pick x (join (i + 1 + 1) s) (byte b (i + 1) (join (i + 1) (c ∷ s)))) ≡ line_text
        (pick x (join (j + 1 + 1) s) (byte b (j + 1) (join (j + 1) (c ∷ s))))
    go true y e f = e
    go false y e f = ap (λ (l : List ℕ). pick (eqb b 10) [] (b ∷ l)) f

-- A place of the part from `from` on, and that place of the whole.
pub part_line : (db : List ℕ) (from i : ℕ) → line_at (drop from db) i ≡ line_at db (from + i)
unfolding line_at text_at
part_line db from i = rw (drop-drop i from db) (line_shift i (from + i) (drop (from + i) db))
