-- A line and its parts: names and fields are free of colons, and texts free of colons that are written with colons are read back.
-- Assumes nothing.
use Prim.Native.Nat.{ℕ, ◌+◌}
use mathlib.Core.Path.{◌≡◌, refl, ◌∙◌, ap}
use mathlib.Core.Bool.{Bool, true, false}
use mathlib.Core.List.{List, [], ◌∷◌, ◌++◌, append_assoc}
use native.Mathlib.Omega.{arith}
use borrow.Author.Tests.{ne_eqb, eqb-true, eqb-false}
use lib.Dec.{eqb}
use lib.ListN.{length, length-append}
use Rattle.spec.specs.Choice.{pick, both, either}
use Rattle.spec.specs.Lines.{join, line_text, first_name, later_names, has_name, blank, comment, is_ignored}
use Rattle.spec.specs.Lists.{upto, holds, past}
use Rattle.laws.proofs.WholeLines.{Free, AllFree, line_over, line-colon, line-newline}
use Rattle.spec.specs.Fields.{names_of, grow, split, fields_of, with_colons, size, line_size}

-- ---- what has no c keeps none

pub upto_free : (c d : ℕ) (l : List ℕ) → Free c l → Free c (upto d l)
unfolding upto
upto_free c d [] h = tt
upto_free c d (b ∷ l) h = go (eqb b d) (upto_free c d l h.1)
  where
    go : (x : Bool) → Free c (upto d l) → Free c (pick x [] (b ∷ upto d l))
    go true k = tt
    go false k = (h.0, k)

pub upto-stops : (d : ℕ) (l : List ℕ) → Free d (upto d l)
unfolding upto
upto-stops d [] = tt
upto-stops d (b ∷ l) = go (eqb b d) refl (upto-stops d l)
  where
    go : (x : Bool) → eqb b d ≡ x → Free d (upto d l) → Free d (pick x [] (b ∷ upto d l))
    go true e k = tt
    go false e k = (eqb-false b d e, k)

pub past_free : (c d : ℕ) (l : List ℕ) → Free c l → Free c (past d l)
unfolding past
past_free c d [] h = tt
past_free c d (b ∷ l) h = go (eqb b d) (past_free c d l h.1)
  where
    go : (x : Bool) → Free c (past d l) → Free c (pick x l (past d l))
    go true k = h.1
    go false k = k

grow_free : (c b : ℕ) (fs : List (List ℕ)) → (b ≡ c → ⊥) → AllFree c fs → AllFree c (grow b fs)
unfolding grow
grow_free c b [] n h = ((n, tt), tt)
grow_free c b (f ∷ fs) n h = ((n, h.0), h.1)

pub split_free : (c : ℕ) (l : List ℕ) → Free c l → AllFree c (split l)
unfolding split
split_free c [] h = tt
split_free c (b ∷ l) h = go (eqb b 58) (split_free c l h.1)
  where
    go : (x : Bool) → AllFree c (split l) → AllFree c (pick x ([] ∷ split l) (grow b (split l)))
    go true k = (tt, k)
    go false k = grow_free c b (split l) h.0 k

pub split-stops : (l : List ℕ) → AllFree 58 (split l)
unfolding split
split-stops [] = tt
split-stops (b ∷ l) = go (eqb b 58) refl (split-stops l)
  where
    go : (x : Bool) → eqb b 58 ≡ x → AllFree 58 (split l) → AllFree 58 (pick x ([] ∷ split l) (grow b (split l)))
    go true e k = (tt, k)
    go false e k = grow_free 58 b (split l) (eqb-false b 58 e) k

pub names_free : (c : ℕ) (l : List ℕ) → Free c l → Free c (names_of l)
unfolding names_of
names_free c l h = upto_free c 58 l h

pub names_stop : (l : List ℕ) → Free 58 (names_of l)
unfolding names_of
names_stop l = upto-stops 58 l

pub fields_free : (c : ℕ) (l : List ℕ) → Free c l → AllFree c (fields_of l)
unfolding fields_of
fields_free c l h = split_free c (past 58 l) (past_free c 58 l h)

pub fields_stop : (l : List ℕ) → AllFree 58 (fields_of l)
unfolding fields_of
fields_stop l = split-stops (past 58 l)

-- ---- a text without a colon, then a colon

module _ (s : List ℕ) where
  pub upto-colon : (f : List ℕ) → Free 58 f → upto 58 (f ++ 58 ∷ s) ≡ f
  unfolding upto
  upto-colon [] h = refl
  upto-colon (b ∷ f) h = rw (ne_eqb b 58 h.0) (ap (λ (l : List ℕ). b ∷ l) (upto-colon f h.1))

  pub past-colon : (f : List ℕ) → Free 58 f → past 58 (f ++ 58 ∷ s) ≡ s
  unfolding past
  past-colon [] h = refl
  past-colon (b ∷ f) h = rw (ne_eqb b 58 h.0) (past-colon f h.1)

  pub split-colon : (f : List ℕ) → Free 58 f → split (f ++ 58 ∷ s) ≡ f ∷ split s
  unfolding split grow
  split-colon [] h = refl
  split-colon (b ∷ f) h = rw (ne_eqb b 58 h.0, split-colon f h.1)

  pub holds-colon : (f : List ℕ) → holds 58 (f ++ 58 ∷ s) ≡ true
  unfolding holds
  holds-colon [] = refl
  holds-colon (b ∷ f) = go (eqb b 58) (holds-colon f)
    where
      go : (x : Bool) → holds 58 (f ++ 58 ∷ s) ≡ true → either x (holds 58 (f ++ 58 ∷ s)) ≡ true
      go true h = refl
      go false h = h

  -- no blank line, and a comment just if another line with these names is one
  blank-colon : (f : List ℕ) → blank (f ++ 58 ∷ s) ≡ false
  unfolding blank
  blank-colon [] = refl
  blank-colon (b ∷ f) = go (either (eqb b 32) (eqb b 9)) (blank-colon f)
    where
      go : (x : Bool) → blank (f ++ 58 ∷ s) ≡ false → both x (blank (f ++ 58 ∷ s)) ≡ false
      go true h = h
      go false h = refl

comment-colon : (f s r : List ℕ) → comment (f ++ 58 ∷ s) ≡ comment (f ++ 58 ∷ r)
unfolding comment
comment-colon [] s r = refl
comment-colon (b ∷ f) s r = refl

-- ---- a line with a colon is its names, the colon and the rest

pub line_parts : (l : List ℕ) → holds 58 l ≡ true → l ≡ names_of l ++ 58 ∷ past 58 l
unfolding names_of holds upto past
line_parts [] h = let z : ◌≡◌ {A = ℕ} 0 1 = cc in absurd (omega arith)
line_parts (b ∷ l) h = go (eqb b 58) refl h (line_parts l)
  where
    go : (x : Bool) → eqb b 58 ≡ x → either x (holds 58 l) ≡ true → (holds 58 l ≡ true → l ≡ upto 58 l ++ 58 ∷ past 58 l) → b ∷ l ≡ pick x [] (b ∷ upto 58 l)
        ++ 58 ∷ pick x l (past 58 l)
    go true e q ih = ap (λ (c : ℕ). c ∷ l) (eqb-true b 58 e)
    go false e q ih = ap (λ (k : List ℕ). b ∷ k) (ih q)

-- Another line with the names of a line with a colon is ignored no more than it, and has the same names.
module _ (l s : List ℕ) where
  either_left : (x y : Bool) → either x y ≡ false → x ≡ false
  either_left true y e = e
  either_left false y e = refl

  pub kept-ignored : holds 58 l ≡ true → is_ignored l ≡ false → is_ignored (names_of l ++ 58 ∷ s) ≡ false
  kept-ignored h e =
      let c : comment (names_of l ++ 58 ∷ past 58 l) ≡ false = rw (← line_parts l h) (either_left _ _ e) in
      rw (comment-colon (names_of l) s (past 58 l), c, blank-colon s (names_of l))

  pub kept-name : (n : List ℕ) → has_name n (names_of l ++ 58 ∷ s) ≡ has_name n l
  unfolding first_name later_names
  kept-name n =
      let e : upto 58 (names_of l ++ 58 ∷ s) ≡ upto 58 l = upto-colon s (names_of l) (names_stop l) ∙ unfold names_of in refl in
      rw e

-- ---- texts written with colons, and read back

pub split-closed : (ts : List (List ℕ)) → AllFree 58 ts → split (with_colons ts) ≡ ts
unfolding with_colons split
split-closed [] h = refl
split-closed (t ∷ ts) h = split-colon (with_colons ts) t h.0 ∙ ap (λ (us : List (List ℕ)). t ∷ us) (split-closed ts h.1)

pub length-closed : (ts : List (List ℕ)) → length (with_colons ts) ≡ size ts
unfolding with_colons size
length-closed [] = refl
length-closed (t ∷ ts) = omega (arith, length-append t (58 ∷ with_colons ts), length-closed ts)

module _ (n : List ℕ) (ts : List (List ℕ)) (hn : Free 58 n) (hts : AllFree 58 ts) where
  pub closed-names : names_of (with_colons (n ∷ ts)) ≡ n
  unfolding names_of with_colons
  closed-names = upto-colon (with_colons ts) n hn

  pub closed-fields : fields_of (with_colons (n ∷ ts)) ≡ ts
  unfolding fields_of with_colons
  closed-fields = ap split (past-colon (with_colons ts) n hn) ∙ split-closed ts hts

  pub closed-size : line_size (with_colons (n ∷ ts)) ≡ length n + 1 + size ts
  unfolding line_size
  closed-size = rw (closed-names, closed-fields)

-- As a database with a newline after them, they are its first line.
pub closed-line : (n : List ℕ) (ts : List (List ℕ)) (at : ℕ) → Free 10 n → AllFree 10 ts → line_text (join at (with_colons (n ∷ ts) ++ 10 ∷ [])) ≡ with_colons
    (n ∷ ts)
unfolding with_colons
closed-line n [] at h hs =
    ap (λ (s : List ℕ). line_text (join at s)) (append_assoc n (58 ∷ []) (10 ∷ []))
    ∙ line_over n (10 ∷ []) (58 ∷ []) at h (λ i. line-colon (10 ∷ []) [] i (line-newline (i + 1)))
closed-line n (t ∷ ts) at h hs =
    ap (λ (s : List ℕ). line_text (join at s)) (append_assoc n (58 ∷ with_colons (t ∷ ts)) (10 ∷ []))
    ∙ line_over n (with_colons (t ∷ ts) ++ 10 ∷ []) (58 ∷ with_colons (t ∷ ts)) at h (λ i. line-colon _ _ i (closed-line t ts (i + 1) hs.0 hs.1))
