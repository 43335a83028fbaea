-- Places found in a list, and links as lists of numbers.
-- Assumes nothing.
use Prim.Native.Nat.{ℕ, zero, suc, ◌+◌, ◌-◌, ◌≤◌, ◌<◌}
use mathlib.Core.Path.{◌≡◌, refl, ◌∙◌, ap, sym}
use mathlib.Core.Bool.{Bool, true, false, not}
use mathlib.Core.List.{List, [], ◌∷◌}
use native.Mathlib.Omega.{arith}
use borrow.Author.Tests.{eqb-true, eqb-false, eq-eqb, ne_eqb}
use lib.Dec.{eqb}
use lib.ListN.{length, drop, get_or, set, length-drop}
use lib.Seq.{get_or-drop, get_or-set_same, get_or-set_other}
use Rattle.std.specs.Prelude.{cond, unwrap_or, None}
use Rattle.std.specs.List.{position, position_or_len}
use Rattle.std.proofs.lemmas.Grind.{common_steps}
use Rattle.std.proofs.lemmas.List.Sums.{prefix_len-le-length}
use Rattle.std.proofs.lemmas.List.Recursion.{is_position_or_len}
use Rattle.spec.specs.Choice.{pick}
use Rattle.spec.specs.Repair.{Link, leads, link_reason}
use Rattle.link_rings.specs.Rings.{found_of, links_of, reasons_of, Starts, index_of, Nexts}

-- ---- where a number stands

pub index_is : (l : List ℕ) (p : ℕ) → index_of l p ≡ position_or_len (λ a. eqb a p) l
index_is l p = is_position_or_len (λ x. index_of x p) (λ a. eqb a p) empty more l
  where
    empty : index_of [] p ≡ 0
    empty = unfold index_of in refl

    more : (a : ℕ) (x : List ℕ) → index_of (a ∷ x) p ≡ cond (eqb a p) 0 (1 + index_of x p)
    more a x = unfold index_of in go (eqb a p) (omega arith)
      where
        go : (t : Bool) → index_of x p + 1 ≡ 1 + index_of x p → pick t 0 (index_of x p + 1) ≡ cond t 0 (1 + index_of x p)
        go true e = refl
        go false e = e

pub index_or : (l : List ℕ) (p : ℕ) → unwrap_or (position (λ a. eqb a p) l) (length l) ≡ index_of l p
index_or l p = rw index_is (grind (arith, common_steps, prefix_len-le-length (λ a. not (eqb a p)) l))

pub index_found : (l : List ℕ) (p : ℕ) → index_of l p < length l → get_or l (index_of l p) 0 ≡ p
unfolding index_of
index_found [] p h = absurd (omega arith)
index_found (a ∷ l) p h = go (eqb a p) refl h (index_found l p)
  where
    go : (x : Bool) → eqb a p ≡ x → pick x 0 (index_of l p + 1) < suc (length l) → (index_of l p < length l → get_or l (index_of l p) 0 ≡ p)
        → get_or (a ∷ l) (pick x 0 (index_of l p + 1)) 0 ≡ p
    go true e h ih = eqb-true a p e
    go false e h ih =
        let m : index_of l p + 1 ≡ suc (index_of l p) = omega arith in
        rw m (ih (omega arith))

pub index_missing : (l : List ℕ) (p : ℕ) → length l ≤ index_of l p → (i : ℕ) → i < length l → get_or l i 0 ≡ p → ⊥
unfolding index_of
index_missing [] p h i g e = omega arith
index_missing (a ∷ l) p h i g e = go (eqb a p) refl h i g e (index_missing l p)
  where
    go : (x : Bool) → eqb a p ≡ x → suc (length l) ≤ pick x 0 (index_of l p + 1) → (i : ℕ) → i < suc (length l) → get_or (a ∷ l) i 0 ≡ p
        → (length l ≤ index_of l p → (i : ℕ) → i < length l → get_or l i 0 ≡ p → ⊥) → ⊥
    go true s h i g e ih = omega arith
    go false s h zero g e ih = eqb-false a p s e
    go false s h (suc i) g e ih = ih (omega arith) i (omega arith) e

-- ---- the next links, one after the other

pub nexts_on : (ats tos nexts : List ℕ) (k v : ℕ) → Nexts ats tos nexts k → k < length nexts → v ≡ index_of ats (get_or tos k 0)
    → Nexts ats tos (set nexts k v) (k + 1)
unfolding Nexts
nexts_on ats tos nexts k v n h e i g = go (eqb i k) refl
  where
    go : (x : Bool) → eqb i k ≡ x → get_or (set nexts k v) i 0 ≡ index_of ats (get_or tos i 0)
    go true x =
        let s = eqb-true i k x in
        rw (s, get_or-set_same nexts k v 0 h) e
    go false x =
        let d = eqb-false i k x in
        let m : i < k = omega arith in
        get_or-set_other nexts k i v 0 d ∙ n i m

pub next_is : (ats tos nexts : List ℕ) (n i : ℕ) → Nexts ats tos nexts n → i < n → get_or nexts i 0 ≡ index_of ats (get_or tos i 0)
unfolding Nexts
next_is ats tos nexts n i t h = t i h

-- ---- where the links lead

leads-none : (ats tos : List ℕ) (p : ℕ) → ((i : ℕ) → i < length ats → get_or ats i 0 ≡ p → ⊥) → leads (links_of ats tos) p ≡ None
unfolding leads links_of
leads-none [] tos p n = refl
leads-none (a ∷ ats) [] p n = refl
leads-none (a ∷ ats) (t ∷ tos) p n = rw (ne_eqb a p (n 0 (omega arith))) (leads-none ats tos p (λ i h e. n (suc i) (omega arith) e))

leads_here : (ats tos : List ℕ) (i : ℕ) → length tos ≡ length ats → i < length ats
    → ((j k : ℕ) → j < length ats → k < length ats → get_or ats j 0 ≡ get_or ats k 0 → j ≡ k)
    → leads (links_of ats tos) (get_or ats i 0) ≡ found_of (get_or tos i 0)
unfolding leads links_of
leads_here [] tos i e h d = absurd (omega arith)
leads_here (a ∷ ats) [] i e h d = absurd (omega arith)
leads_here (a ∷ ats) (t ∷ tos) zero e h d = rw (eq-eqb a a refl)
leads_here (a ∷ ats) (t ∷ tos) (suc i) e h d =
    rw (ne_eqb a (get_or ats i 0) first)
    (leads_here ats tos i (omega arith) (omega arith) (λ j k g m s. down j k (d (suc j) (suc k) (omega arith) (omega arith) s)))
  where
    first : a ≡ get_or ats i 0 → ⊥
    first s = let z = d 0 (suc i) (omega arith) h s in omega arith

    down : (j k : ℕ) → suc j ≡ suc k → j ≡ k
    down j k s = omega arith

-- ---- the links from the link k on

abbrev pub late : List ℕ → List ℕ → ℕ → List Link
late ats tos k = links_of (drop k ats) (drop k tos)

module _ (ats tos : List ℕ) (k : ℕ) (s : Starts ats) (e : length tos ≡ length ats) where
  inside : (j : ℕ) → j < length (drop k ats) → k + j < length ats
  inside j h = let l = length-drop k ats in omega (arith, l)

  pub late_none : (p : ℕ) → ((i : ℕ) → i < length ats → get_or ats i 0 ≡ p → ⊥) → leads (late ats tos k) p ≡ None
  late_none p n = leads-none (drop k ats) (drop k tos) p (λ j h f. n (k + j) (inside j h) (sym (get_or-drop k ats j 0) ∙ f))

  pub late_before : (i : ℕ) → i < length ats → i < k → leads (late ats tos k) (get_or ats i 0) ≡ None
  late_before i h l =
      leads-none (drop k ats) (drop k tos) (get_or ats i 0)
      (λ j g f. other j (s.apart (k + j) i (inside j g) h (sym (get_or-drop k ats j 0) ∙ f)))
    where
      other : (j : ℕ) → k + j ≡ i → ⊥
      other j f = omega arith

  pub late_here : (i : ℕ) → i < length ats → k ≤ i → leads (late ats tos k) (get_or ats i 0) ≡ found_of (get_or tos i 0)
  late_here i h l =
      let m : k + (i - k) ≡ i = omega arith in
      let a : get_or ats i 0 ≡ get_or (drop k ats) (i - k) 0 = sym (get_or-drop k ats (i - k) 0 ∙ ap (λ (j : ℕ). get_or ats j 0) m) in
      let t : get_or (drop k tos) (i - k) 0 ≡ get_or tos i 0 = get_or-drop k tos (i - k) 0 ∙ ap (λ (j : ℕ). get_or tos j 0) m in
      rw a (leads_here (drop k ats) (drop k tos) (i - k) (omega (arith, length-drop k ats, length-drop k tos)) (omega (arith, length-drop k ats)) different)
      ∙ ap found_of t
    where
      different : (j n : ℕ) → j < length (drop k ats) → n < length (drop k ats) → get_or (drop k ats) j 0 ≡ get_or (drop k ats) n 0 → j ≡ n
      different j n g m f =
          let z = s.apart (k + j) (k + n) (inside j g) (inside n m) (sym (get_or-drop k ats j 0) ∙ f ∙ get_or-drop k ats n 0) in
          omega (arith, z)

-- ---- all reasons

pub links_length : (ats tos : List ℕ) → length tos ≡ length ats → length (links_of ats tos) ≡ length ats
unfolding links_of
links_length [] tos e = refl
links_length (a ∷ ats) [] e = omega arith
links_length (a ∷ ats) (t ∷ tos) e = let h = links_length ats tos (omega arith) in omega arith

pub reasons_length : (ks : List Link) → length (reasons_of ks) ≡ length ks
unfolding reasons_of
reasons_length [] = refl
reasons_length (k ∷ ks) = let h = reasons_length ks in omega arith

pub reason_is : (ats tos : List ℕ) (k : ℕ) → length tos ≡ length ats → k < length ats
    → get_or (reasons_of (links_of ats tos)) k 0 ≡ link_reason (late ats tos k) (get_or ats k 0) (found_of (get_or tos k 0))
unfolding reasons_of links_of
reason_is [] tos k e h = absurd (omega arith)
reason_is (a ∷ ats) [] k e h = absurd (omega arith)
reason_is (a ∷ ats) (t ∷ tos) zero e h = refl
reason_is (a ∷ ats) (t ∷ tos) (suc k) e h = reason_is ats tos k (omega arith) (omega arith)
