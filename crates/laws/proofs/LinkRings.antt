-- The third pass of the repair: links that come back do so in no more steps than there are links; and once each line was looked at in
-- file order, no link that stands comes back.
-- Assumes nothing.
use Rattle.std.specs.Prelude.{Option, Some, None}
use Prim.Native.Nat.{ℕ, zero, suc, ◌+◌, ◌≤◌, ◌<◌}
use mathlib.Core.Path.{◌≡◌, refl, ◌∙◌, ap, sym}
use mathlib.Core.Logic.{◌⊎◌, inl, inr}
use mathlib.Core.Bool.{Bool, true, false}
use mathlib.Core.List.{List, [], ◌∷◌, ◌++◌, append_assoc, append-nil}
use native.Mathlib.Omega.{arith}
use borrow.Author.Tests.{eqb-true, eqb-false, eq-eqb, ne_eqb}
use lib.Dec.{eqb}
use lib.ListN.{length}
use Rattle.spec.specs.Choice.{pick, either}
use Rattle.laws.proofs.Tests.{clash}
use Rattle.spec.specs.Repair.{Link, leads, comes_back, link_reason}

-- ---- links without those of one line

unfoldable without : ℕ → List Link → List Link
without p [] = []
without p (k ∷ ks) = pick (eqb k.at p) (without p ks) (k ∷ without p ks)

without_same : (p : ℕ) (ks : List Link) → leads (without p ks) p ≡ None
unfolding without leads
without_same p [] = refl
without_same p (k ∷ ks) = go (eqb k.at p) refl (without_same p ks)
  where
    go : (x : Bool) → eqb k.at p ≡ x → leads (without p ks) p ≡ None → leads (pick x (without p ks) (k ∷ without p ks)) p ≡ None
    go true e ih = ih
    go false e ih = rw e ih

without_other : (p q : ℕ) (ks : List Link) → (q ≡ p → ⊥) → leads (without p ks) q ≡ leads ks q
unfolding without leads
without_other p q [] n = refl
without_other p q (k ∷ ks) n = go (eqb k.at p) (eqb k.at q) refl refl (without_other p q ks n)
  where
    go : (x y : Bool) → eqb k.at p ≡ x → eqb k.at q ≡ y → leads (without p ks) q ≡ leads ks q
        → leads (pick x (without p ks) (k ∷ without p ks)) q ≡ pick y k.to (leads ks q)
    go true true e f ih = absurd (n (sym (eqb-true _ _ f) ∙ eqb-true _ _ e))
    go true false e f ih = ih
    go false true e f ih = rw f
    go false false e f ih = rw f ih

without_length : (p : ℕ) (ks : List Link) → length (without p ks) ≤ length ks
unfolding without
without_length p [] = omega arith
without_length p (k ∷ ks) = go (eqb k.at p) (without_length p ks)
  where
    go : (x : Bool) → length (without p ks) ≤ length ks → length (pick x (without p ks) (k ∷ without p ks)) ≤ length (k ∷ ks)
    go true h = omega arith
    go false h = omega arith

-- a line with a link: without it there is one less
without_less : (p q : ℕ) (ks : List Link) → leads ks p ≡ Some q → length (without p ks) < length ks
unfolding without leads
without_less p q [] e = let z : ◌≡◌ {A = ℕ} 0 1 = cc in absurd (omega arith)
without_less p q (k ∷ ks) e = go (eqb k.at p) e (without_less p q ks)
  where
    go : (x : Bool) → pick x k.to (leads ks p) ≡ Some q → (leads ks p ≡ Some q → length (without p ks) < length ks)
        → length (pick x (without p ks) (k ∷ without p ks)) < length (k ∷ ks)
    go true f ih = omega (arith, without_length p ks)
    go false f ih = omega (arith, ih f)

-- ---- coming back, step by step

module _ (home : ℕ) where
  abbrev pub Back : List Link → ℕ → Option ℕ → Type 0
  Back ks n f = comes_back ks n home f ≡ true

  pub back_here : (ks : List Link) (n p : ℕ) → p ≡ home → Back ks (suc n) (Some p)
  unfolding comes_back
  back_here ks n p e = rw (eq-eqb p home e)

  pub back_on : (ks : List Link) (n p : ℕ) → Back ks n (leads ks p) → Back ks (suc n) (Some p)
  unfolding comes_back
  back_on ks n p h = go (eqb p home)
    where
      go : (x : Bool) → either x (comes_back ks n home (leads ks p)) ≡ true
      go true = refl
      go false = h

  pub back_none : {A : Type 0} (ks : List Link) (n : ℕ) → Back ks n None → A
  unfolding comes_back
  back_none ks zero e = clash (sym e)
  back_none ks (suc n) e = clash (sym e)

  pub back_zero : {A : Type 0} (ks : List Link) (f : Option ℕ) → Back ks zero f → A
  unfolding comes_back
  back_zero ks f e = clash (sym e)

  -- a place on the way: it is the line, or its link goes on
  pub back_step : (ks : List Link) (n p : ℕ) → Back ks (suc n) (Some p) → (p ≡ home) ⊎ Back ks n (leads ks p)
  unfolding comes_back
  back_step ks n p h = go (eqb p home) refl h
    where
      go : (x : Bool) → eqb p home ≡ x → either x (comes_back ks n home (leads ks p)) ≡ true → (p ≡ home) ⊎ Back ks n (leads ks p)
      go true e q = inl (eqb-true p home e)
      go false e q = inr q

  -- more steps do no harm
  pub back_more : (ks : List Link) (n m : ℕ) (f : Option ℕ) → n ≤ m → Back ks n f → Back ks m f
  back_more ks zero m f h b = back_zero ks f b
  back_more ks (suc n) zero f h b = absurd (omega arith)
  back_more ks (suc n) (suc m) None h b = back_none ks (suc n) b
  back_more ks (suc n) (suc m) (Some p) h b = go (back_step ks n p b) (back_more ks n m (leads ks p) (omega arith))
    where
      go : (p ≡ home) ⊎ Back ks n (leads ks p) → (Back ks n (leads ks p) → Back ks m (leads ks p)) → Back ks (suc m) (Some p)
      go (inl e) ih = back_here ks m p e
      go (inr q) ih = back_on ks m p (ih q)

  -- links that lead on wherever the fewer do
  pub back_wider : (few ks : List Link) → ((p q : ℕ) → leads few p ≡ Some q → leads ks p ≡ Some q) → (n : ℕ) (f : Option ℕ) → Back few n f → Back ks n f
  back_wider few ks w zero f b = back_zero few f b
  back_wider few ks w (suc n) None b = back_none few (suc n) b
  back_wider few ks w (suc n) (Some p) b = go (back_step few n p b) (back_wider few ks w n)
    where
      on : (f : Option ℕ) → leads few p ≡ f → Back few n f → (Back few n f → Back ks n f) → Back ks n (leads ks p)
      on None e q ih = back_none few n q
      on (Some r) e q ih = rw (w p r e) (ih q)

      go : (p ≡ home) ⊎ Back few n (leads few p) → ((f : Option ℕ) → Back few n f → Back ks n f) → Back ks (suc n) (Some p)
      go (inl e) ih = back_here ks n p e
      go (inr q) ih = back_on ks n p (on (leads few p) refl q (ih (leads few p)))

  -- either the way passes the line at p, and comes back from there too; or the link of that line is not used
  passes : (ks : List Link) (p n : ℕ) (f : Option ℕ) → Back ks n f → Back (without p ks) n f ⊎ ((m : ℕ) × (m ≤ n) × Back ks m (Some p))
  passes ks p zero f b = back_zero ks f b
  passes ks p (suc n) None b = back_none ks (suc n) b
  passes ks p (suc n) (Some q) b = go (back_step ks n q b) (eqb q p) refl (passes ks p n (leads ks q))
    where
      on : (q ≡ p → ⊥) → Back (without p ks) n (leads ks q) ⊎ ((m : ℕ) × (m ≤ n) × Back ks m (Some p))
          → Back (without p ks) (suc n) (Some q) ⊎ ((m : ℕ) × (m ≤ suc n) × Back ks m (Some p))
      on ne (inl h) = inl (back_on (without p ks) n q (rw (without_other p q ks ne) h))
      on ne (inr h) = inr (h.0, omega (arith, h.1), h.2)

      go : (q ≡ home) ⊎ Back ks n (leads ks q) → (x : Bool) → eqb q p ≡ x
          → (Back ks n (leads ks q) → Back (without p ks) n (leads ks q) ⊎ ((m : ℕ) × (m ≤ n) × Back ks m (Some p)))
          → Back (without p ks) (suc n) (Some q) ⊎ ((m : ℕ) × (m ≤ suc n) × Back ks m (Some p))
      go (inl e) x s ih = inl (back_here (without p ks) n q e)
      go (inr h) true s ih = inr (suc n, omega arith, rw (← eqb-true q p s) (back_on ks n q h))
      go (inr h) false s ih = on (eqb-false q p s) (ih h)

  without_wider : (p : ℕ) (ks : List Link) (q r : ℕ) → leads (without p ks) q ≡ Some r → leads ks q ≡ Some r
  without_wider p ks q r e = go (eqb q p) refl
    where
      go : (x : Bool) → eqb q p ≡ x → leads ks q ≡ Some r
      go true s = let f : leads (without p ks) q ≡ None = rw (eqb-true q p s) (without_same p ks) in let z : ◌≡◌ {A = ℕ} 0 1 = cc in absurd (omega arith)
      go false s = sym (without_other p q ks (eqb-false q p s)) ∙ e

  -- ---- so many steps are enough as there are links, and one more

  abbrev Enough : ℕ → Type 0
  Enough m = (ks : List Link) → length ks ≤ m → (n : ℕ) (f : Option ℕ) → Back ks n f → Back ks (m + 1) f

  shorter : (m : ℕ) → Enough m → (ks : List Link) → length ks ≤ m + 1 → (b n : ℕ) (f : Option ℕ) → n ≤ b → Back ks n f → Back ks (m + 1 + 1) f
  shorter m ih ks h zero zero f l w = back_zero ks f w
  shorter m ih ks h zero (suc n) f l w = absurd (omega arith)
  shorter m ih ks h (suc b) zero f l w = back_zero ks f w
  shorter m ih ks h (suc b) (suc n) None l w = back_none ks (suc n) w
  shorter m ih ks h (suc b) (suc n) (Some p) l w = go (back_step ks n p w) (λ i f k v. shorter m ih ks h b i f k v)
    where
      -- the link at p leads on to f
      next : (f : Option ℕ) → leads ks p ≡ f → Back (without p ks) n f → Back ks (m + 1 + 1) (Some p)
      next None e q = back_none (without p ks) n q
      next (Some r) e q =
          let less : length (without p ks) ≤ m = omega (arith, without_less p r ks e) in
          let far : Back ks (m + 1) (Some r) = back_wider (without p ks) ks (without_wider p ks) (m + 1) (Some r) (ih (without p ks) less n (Some r) q) in
          let on : Back ks (suc (m + 1)) (Some p) = back_on ks (m + 1) p (rw e far) in
          back_more ks (suc (m + 1)) (m + 1 + 1) (Some p) (omega arith) on

      cases : ((i : ℕ) (f : Option ℕ) → i ≤ b → Back ks i f → Back ks (m + 1 + 1) f)
          → Back (without p ks) n (leads ks p) ⊎ ((i : ℕ) × (i ≤ n) × Back ks i (Some p)) → Back ks (m + 1 + 1) (Some p)
      cases on (inl q) = next (leads ks p) refl q
      cases on (inr q) = on q.0 (Some p) (omega (arith, q.1)) q.2

      go : (p ≡ home) ⊎ Back ks n (leads ks p) → ((i : ℕ) (f : Option ℕ) → i ≤ b → Back ks i f → Back ks (m + 1 + 1) f) → Back ks (m + 1 + 1) (Some p)
      go (inl e) on = back_more ks (suc 0) (m + 1 + 1) (Some p) (omega arith) (back_here ks 0 p e)
      go (inr q) on = cases on (passes ks p n (leads ks p) q)

  alone : (n p : ℕ) → (p ≡ home) ⊎ Back [] n (leads [] p) → Back [] (0 + 1) (Some p)
  unfolding leads
  alone n p (inl e) = back_here [] 0 p e
  alone n p (inr q) = back_none [] n q

  enough : (m : ℕ) → Enough m
  enough zero [] h n None b = back_none [] n b
  enough zero [] h zero (Some p) b = back_zero [] (Some p) b
  enough zero [] h (suc n) (Some p) b = alone n p (back_step [] n p b)
  enough zero (k ∷ ks) h n f b = absurd (omega arith)
  enough (suc m) ks h n f b =
      let e : m + 1 + 1 ≡ suc m + 1 = omega arith in
      rw e at (shorter m (enough m) ks (omega arith) n n f (omega arith) b)

  -- the line's own link is not used on the way back to it
  own_unused : (ks : List Link) (n : ℕ) (f : Option ℕ) → Back ks n f → Back (without home ks) n f
  own_unused ks zero f b = back_zero ks f b
  own_unused ks (suc n) None b = back_none ks (suc n) b
  own_unused ks (suc n) (Some p) b = go (eqb p home) refl (back_step ks n p b) (own_unused ks n (leads ks p))
    where
      go : (x : Bool) → eqb p home ≡ x → (p ≡ home) ⊎ Back ks n (leads ks p) → (Back ks n (leads ks p) → Back (without home ks) n (leads ks p))
          → Back (without home ks) (suc n) (Some p)
      go true e s ih = back_here (without home ks) n p (eqb-true p home e)
      go false e (inl q) ih = absurd (eqb-false p home e q)
      go false e (inr q) ih = back_on (without home ks) n p (rw (without_other home p ks (eqb-false p home e)) (ih q))

  -- "A ring of links has no more steps than there are links."
  pub ring_bound : (ks : List Link) (n p : ℕ) → leads ks home ≡ Some p → Back ks n (Some p) → Back ks (length ks) (Some p)
  ring_bound ks n p e b =
      let few = without home ks in
      let near : Back few (length few + 1) (Some p) = enough (length few) few (omega arith) n (Some p) (own_unused ks n (Some p) b) in
      let less : length few + 1 ≤ length ks = omega (arith, without_less home p ks e) in
      back_more ks (length few + 1) (length ks) (Some p) less (back_wider few ks (without_wider home ks) (length few + 1) (Some p) near)

-- ---- lines are known by distinct places

abbrev pub Fresh : ℕ → List Link → Type 0
Fresh p [] = Unit {0}
Fresh p (k ∷ ks) = (k.at ≡ p → ⊥) × Fresh p ks

abbrev pub Distinct : List Link → Type 0
Distinct [] = Unit {0}
Distinct (k ∷ ks) = Fresh k.at ks × Distinct ks

fresh_mid : (p : ℕ) (a : List Link) (k : Link) (b : List Link) → Fresh p (a ++ k ∷ b) → (k.at ≡ p → ⊥) × Fresh p (a ++ b)
fresh_mid p [] k b h = h
fresh_mid p (j ∷ a) k b h = let r = fresh_mid p a k b h.1 in (r.0, (h.0, r.1))

pub distinct_mid : (a : List Link) (k : Link) (b : List Link) → Distinct (a ++ k ∷ b) → Fresh k.at (a ++ b) × Distinct (a ++ b)
distinct_mid [] k b h = h
distinct_mid (j ∷ a) k b h =
    let r = distinct_mid a k b h.1 in
    let f = fresh_mid j.at a k b h.0 in
    (((λ e. f.0 (sym e)), r.0), (f.1, r.1))

pub fresh_leads : (p : ℕ) (ks : List Link) → Fresh p ks → leads ks p ≡ None
unfolding leads
fresh_leads p [] h = refl
fresh_leads p (k ∷ ks) h = rw (ne_eqb k.at p h.0) (fresh_leads p ks h.1)

pub leads_mid : (p : ℕ) (a : List Link) (k : Link) (b : List Link) → (k.at ≡ p → ⊥) → leads (a ++ k ∷ b) p ≡ leads (a ++ b) p
unfolding leads
leads_mid p [] k b n = rw (ne_eqb k.at p n)
leads_mid p (j ∷ a) k b n = ap (pick (eqb j.at p) j.to) (leads_mid p a k b n)

pub leads_own : (p : ℕ) (a : List Link) (k : Link) (b : List Link) → k.at ≡ p → Fresh p (a ++ b) → leads (a ++ k ∷ b) p ≡ k.to
unfolding leads
leads_own p [] k b e h = rw (eq-eqb k.at p e)
leads_own p (j ∷ a) k b e h = rw (ne_eqb j.at p h.0) (leads_own p a k b e h.1)

-- ---- the third pass

-- The links that stand after it.
unfoldable pub standing : List Link → List Link → List Link
standing passed [] = passed
standing passed (k ∷ ks) = pick (eqb (link_reason (passed ++ k ∷ ks) k.at k.to) 0) (standing (passed ++ k ∷ []) ks) (standing passed ks)

-- From the line at p the links do not come back to it.
abbrev pub Acyclic : List Link → ℕ → Type 0
Acyclic ks p = (n : ℕ) → comes_back ks n p (leads ks p) ≡ true → ⊥

pub no_link_lem : (ks : List Link) (p : ℕ) → leads ks p ≡ None → Acyclic ks p
no_link_lem ks p e n b = back_none p ks n (rw e at b)

-- a link that is not removed is found, and does not come back
pub kept-link : (ks : List Link) (p : ℕ) (f : Option ℕ) → leads ks p ≡ f → link_reason ks p f ≡ 0 → Acyclic ks p
unfolding link_reason
kept-link ks p None e r n b = let z : ◌≡◌ {A = ℕ} 4 0 = r in absurd (omega arith)
kept-link ks p (Some q) e r n b = go (comes_back ks (length ks) p (Some q)) refl r
  where
    go : (x : Bool) → comes_back ks (length ks) p (Some q) ≡ x → ◌≡◌ {A = ℕ} (pick x 5 0) 0 → ⊥
    go true s h = let z : ◌≡◌ {A = ℕ} 5 0 = h in omega arith
    go false s h = clash (sym (ring_bound p ks n q e (rw e at b)) ∙ s)

-- of fewer links none comes back that did not before
pub fewer : (a : List Link) (k : Link) (b : List Link) (p : ℕ) → Fresh k.at (a ++ b) → (k.at ≡ p → ⊥) → Acyclic (a ++ k ∷ b) p → Acyclic (a ++ b) p
fewer a k b p h ne acyclic n w =
    acyclic n (rw (leads_mid p a k b ne) (back_wider p (a ++ b) (a ++ k ∷ b) wider n (leads (a ++ b) p) w))
  where
    wider : (q r : ℕ) → leads (a ++ b) q ≡ Some r → leads (a ++ k ∷ b) q ≡ Some r
    wider q r e = go (eqb k.at q) refl
      where
        go : (x : Bool) → eqb k.at q ≡ x → leads (a ++ k ∷ b) q ≡ Some r
        go true s =
            let f : leads (a ++ b) q ≡ None = rw (← eqb-true k.at q s) (fresh_leads k.at (a ++ b) h) in
            let z : ◌≡◌ {A = ℕ} 0 1 = cc in
            absurd (omega arith)
        go false s = leads_mid q a k b (eqb-false k.at q s) ∙ e

-- While the third pass goes on: no links that stand come back to a line that is not still to come.
abbrev pub Passing : List Link → List Link → Type 0
Passing passed ks = (p : ℕ) → Fresh p ks → Acyclic (passed ++ ks) p

module _ (passed : List Link) (k : Link) (ks : List Link) (d : Distinct (passed ++ k ∷ ks)) (inv : Passing passed (k ∷ ks)) where
  pub same_links : (passed ++ k ∷ []) ++ ks ≡ passed ++ k ∷ ks
  same_links = append_assoc passed (k ∷ []) ks

  pub after_kept : link_reason (passed ++ k ∷ ks) k.at k.to ≡ 0 → Passing (passed ++ k ∷ []) ks
  after_kept r q f = rw same_links (here (eqb k.at q) refl)
    where
      own : leads (passed ++ k ∷ ks) k.at ≡ k.to
      own = leads_own k.at passed k ks refl (distinct_mid passed k ks d).0

      here : (x : Bool) → eqb k.at q ≡ x → Acyclic (passed ++ k ∷ ks) q
      here true s = rw (← eqb-true k.at q s) (kept-link (passed ++ k ∷ ks) k.at k.to own r)
      here false s = inv q (eqb-false k.at q s, f)

  pub after_removed : Passing passed ks
  after_removed q f = here (eqb k.at q) refl
    where
      fresh : Fresh k.at (passed ++ ks)
      fresh = (distinct_mid passed k ks d).0

      here : (x : Bool) → eqb k.at q ≡ x → Acyclic (passed ++ ks) q
      here true s = no_link_lem (passed ++ ks) q (rw (← eqb-true k.at q s) (fresh_leads k.at (passed ++ ks) fresh))
      here false s = fewer passed k ks q fresh (eqb-false k.at q s) (inv q (eqb-false k.at q s, f))

pub at_first : (ks : List Link) → Passing [] ks
at_first ks q f = no_link_lem ks q (fresh_leads q ks f)

pass : (passed ks : List Link) → Distinct (passed ++ ks) → Passing passed ks → (p : ℕ) → Acyclic (standing passed ks) p
unfolding standing
pass passed [] d inv p = let e : passed ++ [] ≡ passed = append-nil passed in rw e at (inv p tt)
pass passed (k ∷ ks) d inv p =
    go (eqb (link_reason (passed ++ k ∷ ks) k.at k.to) 0) refl (pass (passed ++ k ∷ []) ks) (pass passed ks)
  where
    go : (x : Bool) → eqb (link_reason (passed ++ k ∷ ks) k.at k.to) 0 ≡ x
        → (Distinct ((passed ++ k ∷ []) ++ ks) → Passing (passed ++ k ∷ []) ks → (q : ℕ) → Acyclic (standing (passed ++ k ∷ []) ks) q)
        → (Distinct (passed ++ ks) → Passing passed ks → (q : ℕ) → Acyclic (standing passed ks) q)
        → Acyclic (pick x (standing (passed ++ k ∷ []) ks) (standing passed ks)) p
    go true s kept removed = kept (rw (same_links passed k ks d inv) d) (after_kept passed k ks d inv (eqb-true _ _ s)) p
    go false s kept removed = removed (distinct_mid passed k ks d).1 (after_removed passed k ks d inv) p

-- THE LINKS THAT STAND AFTER THE THIRD PASS HAVE NO CYCLE.
pub standing_acyclic : (ks : List Link) → Distinct ks → (p : ℕ) → Acyclic (standing [] ks) p
standing_acyclic ks d p = pass [] ks d (at_first ks) p
