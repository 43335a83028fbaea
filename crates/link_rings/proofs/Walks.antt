-- The links followed by their numbers come back where the links themselves do.
-- Assumes nothing.
use Rattle.std.specs.Prelude.{Option, Some, None}
use Prim.Native.Nat.{ℕ, zero, suc, ◌-◌, ◌≤◌, ◌<◌}
use mathlib.Core.Path.{◌≡◌, refl, ◌∙◌, ap, sym}
use mathlib.Core.Bool.{Bool, true, false}
use mathlib.Core.List.{List}
use native.Mathlib.Omega.{arith}
use borrow.Author.Tests.{eqb-true, eqb-false, eq-eqb, ne_eqb, ltb-true, ltb-false, lt-ltb, le-ltb}
use lib.Dec.{eqb, ltb}
use lib.ListN.{length, drop, get_or, length-drop}
use lib.Seq.{ext_get_or}
use Rattle.spec.specs.Choice.{pick, both, either}
use Rattle.laws.proofs.Tests.{both_false}
use Rattle.spec.specs.Repair.{Link, leads, comes_back, link_reason}
use Rattle.link_rings.specs.Rings.{found_of, links_of, reasons_of, Starts, index_of, Nexts, returns_to}
use Rattle.link_rings.proofs.Indexes.{late, late_none, late_before, late_here, index_found}
use Rattle.link_rings.proofs.Indexes.{index_missing, next_is, links_length, reasons_length, reason_is}

back_nowhere : (ks : List Link) (n home : ℕ) → comes_back ks n home None ≡ false
unfolding comes_back
back_nowhere ks zero home = refl
back_nowhere ks (suc n) home = refl

found-same : (p q : ℕ) → Some p ≡ Some q → p ≡ q
found-same p q e = cc

found_not : (p : ℕ) → None ≡ Some p → ⊥
found_not p e = let z : ◌≡◌ {A = ℕ} 0 1 = cc in omega arith

-- What the number of a link stands for: the place of its line; past all links, a place where no line has a link, or no place.
pub record Stands (ats : List ℕ) (f : Option ℕ) (at : ℕ) : Type 0 where
  pub at-line : at < length ats → f ≡ Some (get_or ats at 0)
  pub no_line : length ats ≤ at → (p : ℕ) → f ≡ Some p → (i : ℕ) → i < length ats → get_or ats i 0 ≡ p → ⊥

pub stands : (ats : List ℕ) (v : ℕ) → Starts ats → Stands ats (found_of v) (index_of ats v)
stands ats v s = record { at-line = λ h. here h (eqb v 1048577) refl; no_line = λ h p e i g f. missing h p i g f (eqb v 1048577) refl e }
  where
    nowhere_is : eqb v 1048577 ≡ true → found_of v ≡ None
    nowhere_is x = unfold found_of in rw x

    place_is : eqb v 1048577 ≡ false → found_of v ≡ Some v
    place_is x = unfold found_of in rw x

    here : index_of ats v < length ats → (x : Bool) → eqb v 1048577 ≡ x → found_of v ≡ Some (get_or ats (index_of ats v) 0)
    here h true x =
        let z = s.inside (index_of ats v) h in
        absurd (omega (arith, z, index_found ats v h, eqb-true v 1048577 x))
    here h false x = unfold found_of in rw (x, index_found ats v h)

    missing : length ats ≤ index_of ats v → (p i : ℕ) → i < length ats → get_or ats i 0 ≡ p → (x : Bool) → eqb v 1048577 ≡ x → found_of v ≡ Some p → ⊥
    missing h p i g f true x e = found_not p (sym (nowhere_is x) ∙ e)
    missing h p i g f false x e = index_missing ats v h i g (f ∙ sym (found-same v p (sym (place_is x) ∙ e)))

-- a step of the walk by numbers: past all links, at home, before home, behind home
module _ (nexts : List ℕ) (home n at : ℕ) where
  out : home < length nexts → length nexts ≤ at → returns_to nexts home (suc n) at ≡ false
  unfolding returns_to
  out h g =
      let d : at ≡ home → ⊥ = λ e. omega arith in
      rw (ne_eqb at home d, le-ltb at (length nexts) g, both_false (ltb home at))

  pub returns_home : at ≡ home → returns_to nexts home (suc n) at ≡ true
  unfolding returns_to
  returns_home e = rw (eq-eqb at home e)

  pub returns_before : at < home → returns_to nexts home (suc n) at ≡ false
  unfolding returns_to
  returns_before h =
      let d : at ≡ home → ⊥ = λ e. omega arith in
      let g : at ≤ home = omega arith in
      rw (ne_eqb at home d, le-ltb home at g)

  pub returns_on : home < at → at < length nexts → returns_to nexts home (suc n) at ≡ returns_to nexts home n (get_or nexts at 0)
  unfolding returns_to
  returns_on h g =
      let d : at ≡ home → ⊥ = λ e. omega arith in
      rw (ne_eqb at home d, lt-ltb home at h, lt-ltb at (length nexts) g)

-- a step of the walk over links
module _ (ks : List Link) (n home p : ℕ) where
  back_home : p ≡ home → comes_back ks (suc n) home (Some p) ≡ true
  unfolding comes_back
  back_home e = rw (eq-eqb p home e)

  back_on : (p ≡ home → ⊥) → comes_back ks (suc n) home (Some p) ≡ comes_back ks n home (leads ks p)
  unfolding comes_back
  back_on d = rw (ne_eqb p home d)

module _ (ats tos nexts : List ℕ) (k : ℕ) (s : Starts ats) (e : length tos ≡ length ats) (m : length nexts ≡ length ats) (nx : Nexts ats tos nexts (length ats))
    (h : k < length ats) where
  walk : (n : ℕ) (f : Option ℕ) (at : ℕ) → Stands ats f at → comes_back (late ats tos k) n (get_or ats k 0) f ≡ returns_to nexts k n at
  walk zero f at q = unfold comes_back returns_to in refl
  walk (suc n) None at q = go (ltb at (length ats)) refl
    where
      go : (x : Bool) → ltb at (length ats) ≡ x → comes_back (late ats tos k) (suc n) (get_or ats k 0) None ≡ returns_to nexts k (suc n) at
      go true x = absurd (found_not _ (q.at-line (ltb-true _ _ x)))
      go false x =
          let g : length ats ≤ at = ltb-false _ _ x in
          back_nowhere (late ats tos k) (suc n) (get_or ats k 0) ∙ sym (out nexts k n at (omega arith) (omega arith))
  walk (suc n) (Some p) at q = go (ltb at (length ats)) refl (walk n (found_of (get_or tos at 0)) (get_or nexts at 0))
    where
      behind : at < length ats → p ≡ get_or ats at 0 → (at ≡ k → ⊥)
          → (Stands ats (found_of (get_or tos at 0)) (get_or nexts at 0)
          → comes_back (late ats tos k) n (get_or ats k 0) (found_of (get_or tos at 0)) ≡ returns_to nexts k n (get_or nexts at 0))
          → (y : Bool) → ltb k at ≡ y → comes_back (late ats tos k) (suc n) (get_or ats k 0) (Some p) ≡ returns_to nexts k (suc n) at
      behind g f d ih true y =
          let l : k < at = ltb-true _ _ y in
          let here : leads (late ats tos k) p ≡ found_of (get_or tos at 0) = ap (leads (late ats tos k)) f ∙ late_here ats tos k s e at g (omega arith) in
          let next : Stands ats (found_of (get_or tos at 0)) (get_or nexts at 0) =
          rw (next_is ats tos nexts (length ats) at nx g) (stands ats (get_or tos at 0) s) in
          back_on (late ats tos k) n (get_or ats k 0) p (λ c. d (s.apart at k g h (sym f ∙ c)))
          ∙ ap (comes_back (late ats tos k) n (get_or ats k 0)) here
          ∙ ih next
          ∙ sym (returns_on nexts k n at l (omega arith))
      behind g f d ih false y =
          let l : at ≤ k = ltb-false _ _ y in
          let less : at < k = omega (arith, d) in
          let gone : leads (late ats tos k) p ≡ None = ap (leads (late ats tos k)) f ∙ late_before ats tos k s e at g less in
          back_on (late ats tos k) n (get_or ats k 0) p (λ c. d (s.apart at k g h (sym f ∙ c)))
          ∙ ap (comes_back (late ats tos k) n (get_or ats k 0)) gone
          ∙ back_nowhere (late ats tos k) n (get_or ats k 0)
          ∙ sym (returns_before nexts k n at less)

      inner : at < length ats → p ≡ get_or ats at 0
          → (Stands ats (found_of (get_or tos at 0)) (get_or nexts at 0)
          → comes_back (late ats tos k) n (get_or ats k 0) (found_of (get_or tos at 0)) ≡ returns_to nexts k n (get_or nexts at 0))
          → (y : Bool) → eqb at k ≡ y → comes_back (late ats tos k) (suc n) (get_or ats k 0) (Some p) ≡ returns_to nexts k (suc n) at
      inner g f ih true y =
          let c = eqb-true at k y in
          back_home (late ats tos k) n (get_or ats k 0) p (f ∙ ap (λ (i : ℕ). get_or ats i 0) c) ∙ sym (returns_home nexts k n at c)
      inner g f ih false y = behind g f (eqb-false at k y) ih (ltb k at) refl

      go : (x : Bool) → ltb at (length ats) ≡ x
          → (Stands ats (found_of (get_or tos at 0)) (get_or nexts at 0)
          → comes_back (late ats tos k) n (get_or ats k 0) (found_of (get_or tos at 0)) ≡ returns_to nexts k n (get_or nexts at 0))
          → comes_back (late ats tos k) (suc n) (get_or ats k 0) (Some p) ≡ returns_to nexts k (suc n) at
      go true x ih = inner (ltb-true _ _ x) (found-same _ _ (q.at-line (ltb-true _ _ x))) ih (eqb at k) refl
      go false x ih =
          let g : length ats ≤ at = ltb-false _ _ x in
          back_on (late ats tos k) n (get_or ats k 0) p (λ c. q.no_line g p refl k h (sym c))
          ∙ ap (comes_back (late ats tos k) n (get_or ats k 0)) (late_none ats tos k s e p (q.no_line g p refl))
          ∙ back_nowhere (late ats tos k) n (get_or ats k 0)
          ∙ sym (out nexts k n at (omega arith) (omega arith))

  size : length (late ats tos k) ≡ length nexts - k
  size = links_length (drop k ats) (drop k tos) (omega (arith, length-drop k ats, length-drop k tos)) ∙ omega (arith, length-drop k ats)

  back : comes_back (late ats tos k) (length (late ats tos k)) (get_or ats k 0) (found_of (get_or tos k 0))
      ≡ returns_to nexts k (length nexts - k) (get_or nexts k 0)
  back =
      let next : Stands ats (found_of (get_or tos k 0)) (get_or nexts k 0) = rw (next_is ats tos nexts (length ats) k nx h) (stands ats (get_or tos k 0) s) in
      rw size (walk (length nexts - k) (found_of (get_or tos k 0)) (get_or nexts k 0) next)

  -- THE REASON OF A LINK, by what the code tests
  pub reason_lost : get_or tos k 0 ≡ 1048577 → 4 ≡ link_reason (late ats tos k) (get_or ats k 0) (found_of (get_or tos k 0))
  unfolding link_reason found_of
  reason_lost f = rw (eq-eqb (get_or tos k 0) 1048577 f)

  pub reason-told : (get_or tos k 0 ≡ 1048577 → ⊥) → (r : Bool) → r ≡ returns_to nexts k (length nexts - k) (get_or nexts k 0)
      → pick r 5 0 ≡ link_reason (late ats tos k) (get_or ats k 0) (found_of (get_or tos k 0))
  reason-told d r f = rw (found, f, ← back) told
    where
      found : found_of (get_or tos k 0) ≡ Some (get_or tos k 0)
      found = unfold found_of in rw (ne_eqb (get_or tos k 0) 1048577 d)

      told : pick (comes_back (late ats tos k) (length (late ats tos k)) (get_or ats k 0) (found_of (get_or tos k 0))) 5 0 ≡ link_reason (late ats tos k)
          (get_or ats k 0) (Some (get_or tos k 0))
      told = unfold link_reason in rw found

-- ---- all reasons

abbrev pub Judged : List ℕ → List ℕ → List ℕ → ℕ → Type 0
Judged ats tos reasons n = (k : ℕ) → k < n → get_or reasons k 0 ≡ link_reason (late ats tos k) (get_or ats k 0) (found_of (get_or tos k 0))

pub judged-all : (ats tos reasons : List ℕ) (n : ℕ) → length tos ≡ length ats → length reasons ≡ length ats → Judged ats tos reasons n → length ats ≤ n
    → reasons ≡ reasons_of (links_of ats tos)
judged-all ats tos reasons n e f j h =
    ext_get_or 0 reasons (reasons_of (links_of ats tos)) (f ∙ sym (reasons_length (links_of ats tos) ∙ links_length ats tos e))
    (λ k g. let m : k < length ats = omega arith in let l : k < n = omega arith in j k l ∙ sym (reason_is ats tos k e m))

-- ---- a step of the walk as the code counts it

pub walk_step : (nexts : List ℕ) (home left at : ℕ) → 0 < left
    → returns_to nexts home left at
    ≡ either (eqb at home) (both (both (ltb home at) (ltb at (length nexts))) (returns_to nexts home (left - 1) (get_or nexts at 0)))
walk_step nexts home zero at h = absurd (omega arith)
walk_step nexts home (suc n) at h = unfold returns_to in let e : suc n - 1 ≡ n = omega arith in rw e

pub walk_on : (nexts : List ℕ) (home left rest at : ℕ) → left ≡ suc rest → home < at → at < length nexts
    → returns_to nexts home left at ≡ returns_to nexts home rest (get_or nexts at 0)
walk_on nexts home left rest at e g h = rw e (returns_on nexts home rest at g h)

pub walk_over : (nexts : List ℕ) (home left at : ℕ) → left ≡ 0 → returns_to nexts home left at ≡ false
walk_over nexts home left at e = unfold returns_to in rw e

pub ruleset walked = (walk_step, walk_over)
