-- The third pass may stop at any line before the one it looks at: only the links that are still to come can come back to a line. So the
-- code need not look at which links stand.
-- Assumes nothing.
use Rattle.std.specs.Prelude.{Option, Some, None}
use Prim.Native.Nat.{ℕ, zero, suc, ◌+◌}
use mathlib.Core.Path.{◌≡◌, refl, ◌∙◌, ap, sym}
use mathlib.Core.Logic.{◌⊎◌, inl, inr}
use mathlib.Core.Bool.{Bool, true, false}
use mathlib.Core.List.{List, [], ◌∷◌, ◌++◌}
use native.Mathlib.Omega.{arith}
use borrow.Author.Tests.{eqb-true, eqb-false, eq-eqb, ne_eqb}
use lib.Dec.{eqb}
use lib.ListN.{length}
use Rattle.spec.specs.Choice.{pick}
use Rattle.laws.proofs.Tests.{clash}
use Rattle.spec.specs.Repair.{Link, leads, comes_back, link_reason, Removed, removed_links}
use Rattle.laws.proofs.LinkRings.{
  Back,
  back_here,
  back_on,
  back_none,
  back_zero,
  back_step,
  back_more,
  back_wider,
  ring_bound,
  Fresh,
  Distinct,
  distinct_mid,
  leads_own,
  Acyclic,
  Passing,
  same_links,
  after_kept,
  after_removed,
  at_first,
}

-- ---- from f to q, and from there on to p

on_to : (ks : List Link) (p q a b : ℕ) (f : Option ℕ) → Back q ks a f → Back p ks b (leads ks q) → Back p ks (a + b) f
on_to ks p q zero b f w v = back_zero q ks f w
on_to ks p q (suc a) b None w v = back_none q ks (suc a) w
on_to ks p q (suc a) b (Some r) w v =
    let e : suc (a + b) ≡ suc a + b = omega arith in
    rw e at (back_on p ks (a + b) r (go (back_step q ks a r w) (on_to ks p q a b (leads ks r))))
  where
    go : (r ≡ q) ⊎ Back q ks a (leads ks r) → (Back q ks a (leads ks r) → Back p ks b (leads ks q) → Back p ks (a + b) (leads ks r))
        → Back p ks (a + b) (leads ks r)
    go (inl s) ih = back_more p ks b (a + b) (leads ks r) (omega arith) (rw s v)
    go (inr h) ih = ih h v

-- ---- a way back that only passes lines that are still to come

module _ (home : ℕ) (all late : List Link) (same : (p q : ℕ) → leads all p ≡ Some q → (leads late p ≡ Some q) ⊎ Acyclic all p) where
  -- the way comes from the line at `home` in b steps
  later : (n : ℕ) (f : Option ℕ) → ((p : ℕ) → f ≡ Some p → (b : ℕ) × Back p all b (leads all home)) → Back home all n f → Back home late n f
  later zero f from w = back_zero home all f w
  later (suc n) None from w = back_none home all (suc n) w
  later (suc n) (Some p) from w = go (back_step home all n p w) (later n (leads all p))
    where
      -- the link of p leads to q
      step : (q : ℕ) → leads all p ≡ Some q → Back home all n (leads all p) → (Back home all n (leads all p) → Back home late n (leads all p))
          → (leads late p ≡ Some q) ⊎ Acyclic all p → Back home late (suc n) (Some p)
      step q e h ih (inl s) = back_on home late n p (rw (s ∙ sym e) (ih h))
      step q e h ih (inr c) = let b = from p refl in absurd (c (n + b.0) (on_to all p home n b.0 (leads all p) h b.1))

      next : (q : ℕ) → leads all p ≡ Some q → (b : ℕ) × Back q all b (leads all home)
      next q e =
          let b = from p refl in
          (b.0 + 1, on_to all q p b.0 1 (leads all home) b.1 (rw e (back_here q all 0 q refl)))

      on : (f : Option ℕ) → leads all p ≡ f → Back home all n (leads all p)
          → (((q : ℕ) → leads all p ≡ Some q → (b : ℕ) × Back q all b (leads all home)) → Back home all n (leads all p) → Back home late n (leads all p))
          → Back home late (suc n) (Some p)
      on None e h ih = back_none home all n (rw e at h)
      on (Some q) e h ih = step q e h (ih next) (same p q e)

      go : (p ≡ home) ⊎ Back home all n (leads all p)
          → (((q : ℕ) → leads all p ≡ Some q → (b : ℕ) × Back q all b (leads all home)) → Back home all n (leads all p) → Back home late n (leads all p))
          → Back home late (suc n) (Some p)
      go (inl e) ih = back_here home late n p e
      go (inr h) ih = on (leads all p) refl h ih

-- ---- the reason of a link

reason-same : (all late : List Link) (home : ℕ) (f : Option ℕ) → leads all home ≡ f → leads late home ≡ f
    → ((n : ℕ) → Back home all n f → Back home late n f) → ((n : ℕ) → Back home late n f → Back home all n f) → link_reason all home f ≡ link_reason late home f
unfolding link_reason
reason-same all late home None e g to from = refl
reason-same all late home (Some p) e g to from =
    go (comes_back all (length all) home (Some p)) (comes_back late (length late) home (Some p)) refl refl
  where
    go : (x y : Bool) → comes_back all (length all) home (Some p) ≡ x → comes_back late (length late) home (Some p) ≡ y → ◌≡◌ {A = ℕ} (pick x 5 0) (pick y 5 0)
    go true true s t = refl
    go true false s t = clash (sym (ring_bound home late (length all) p g (to (length all) s)) ∙ t)
    go false true s t = clash (sym (ring_bound home all (length late) p e (from (length late) t)) ∙ s)
    go false false s t = refl

-- ---- a line that has a link among the later ones has none among the earlier

abbrev Member : ℕ → List Link → Type 0
Member p [] = ⊥
Member p (k ∷ ks) = (k.at ≡ p) ⊎ Member p ks

fresh_or : (p : ℕ) (ks : List Link) → Fresh p ks ⊎ Member p ks
fresh_or p [] = inl tt
fresh_or p (k ∷ ks) = go (eqb k.at p) refl (fresh_or p ks)
  where
    go : (x : Bool) → eqb k.at p ≡ x → Fresh p ks ⊎ Member p ks → Fresh p (k ∷ ks) ⊎ Member p (k ∷ ks)
    go true e r = inr (inl (eqb-true k.at p e))
    go false e (inl f) = inl (eqb-false k.at p e, f)
    go false e (inr m) = inr (inr m)

fresh_member : (q p : ℕ) (a b : List Link) → Fresh q (a ++ b) → Member p b → q ≡ p → ⊥
fresh_member q p (j ∷ a) b f m e = fresh_member q p a b f.1 m e
fresh_member q p [] [] f m e = elim m [ ]
fresh_member q p [] (k ∷ b) f (inl h) e = f.0 (h ∙ sym e)
fresh_member q p [] (k ∷ b) f (inr m) e = fresh_member q p [] b f.1 m e

leads_member : (ks : List Link) (p q : ℕ) → leads ks p ≡ Some q → Member p ks
unfolding leads
leads_member [] p q e = let z : ◌≡◌ {A = ℕ} 0 1 = cc in absurd (omega arith)
leads_member (k ∷ ks) p q e = go (eqb k.at p) refl e (leads_member ks p q)
  where
    go : (x : Bool) → eqb k.at p ≡ x → pick x k.to (leads ks p) ≡ Some q → (leads ks p ≡ Some q → Member p ks) → Member p (k ∷ ks)
    go true s h ih = inl (eqb-true k.at p s)
    go false s h ih = inr (ih h)

late_leads : (a b : List Link) (p : ℕ) → Distinct (a ++ b) → Member p b → leads (a ++ b) p ≡ leads b p
unfolding leads
late_leads [] b p d m = refl
late_leads (j ∷ a) b p d m = rw (ne_eqb j.at p (fresh_member j.at p a b d.0 m)) (late_leads a b p d.1 m)

-- LAW: with no ring through a line that was passed, only the links from this line on count
pub later_only : (passed : List Link) (k : Link) (ks : List Link) → Distinct (passed ++ k ∷ ks) → Passing passed (k ∷ ks)
    → link_reason (passed ++ k ∷ ks) k.at k.to ≡ link_reason (k ∷ ks) k.at k.to
later_only passed k ks d inv =
    reason-same all late k.at k.to own late_own (λ n w. later k.at all late same n k.to start w)
    (λ n w. back_wider k.at late all wider n k.to w)
  where
    all : List Link
    all = passed ++ k ∷ ks

    late : List Link
    late = k ∷ ks

    own : leads (passed ++ k ∷ ks) k.at ≡ k.to
    own = leads_own k.at passed k ks refl (distinct_mid passed k ks d).0

    late_own : leads (k ∷ ks) k.at ≡ k.to
    late_own = unfold leads in rw (eq-eqb k.at k.at refl)

    start : (p : ℕ) → k.to ≡ Some p → (b : ℕ) × Back p (passed ++ k ∷ ks) b (leads (passed ++ k ∷ ks) k.at)
    start p e = (1, rw (own ∙ e) (back_here p (passed ++ k ∷ ks) 0 p refl))

    same : (p q : ℕ) → leads (passed ++ k ∷ ks) p ≡ Some q → (leads (k ∷ ks) p ≡ Some q) ⊎ Acyclic (passed ++ k ∷ ks) p
    same p q e = go (fresh_or p (k ∷ ks))
      where
        go : Fresh p (k ∷ ks) ⊎ Member p (k ∷ ks) → (leads (k ∷ ks) p ≡ Some q) ⊎ Acyclic (passed ++ k ∷ ks) p
        go (inl f) = inr (inv p f)
        go (inr m) = inl (sym (late_leads passed (k ∷ ks) p d m) ∙ e)

    wider : (p q : ℕ) → leads (k ∷ ks) p ≡ Some q → leads (passed ++ k ∷ ks) p ≡ Some q
    wider p q e = late_leads passed (k ∷ ks) p d (leads_member (k ∷ ks) p q e) ∙ e

-- ---- so the third pass has no state: each link is judged by the links from its line on

unfoldable pub removed_from : List Link → List Removed
removed_from [] = []
removed_from (k ∷ ks) =
    let reason = link_reason (k ∷ ks) k.at k.to in
    pick (eqb reason 0) (removed_from ks) (record { at = k.at; reason = reason } ∷ removed_from ks)

no_state : (passed ks : List Link) → Distinct (passed ++ ks) → Passing passed ks → removed_links passed ks ≡ removed_from ks
unfolding removed_links removed_from
no_state passed [] d inv = refl
no_state passed (k ∷ ks) d inv =
    rw (← later_only passed k ks d inv) (go (eqb (link_reason (passed ++ k ∷ ks) k.at k.to) 0) refl (no_state (passed ++ k ∷ []) ks) (no_state passed ks))
  where
    go : (x : Bool) → eqb (link_reason (passed ++ k ∷ ks) k.at k.to) 0 ≡ x
        → (Distinct ((passed ++ k ∷ []) ++ ks) → Passing (passed ++ k ∷ []) ks → removed_links (passed ++ k ∷ []) ks ≡ removed_from ks)
        → (Distinct (passed ++ ks) → Passing passed ks → removed_links passed ks ≡ removed_from ks)
        → pick x (removed_links (passed ++ k ∷ []) ks) (record { at = k.at; reason = link_reason (passed ++ k ∷ ks) k.at k.to } ∷ removed_links passed ks)
        ≡ pick x (removed_from ks) (record { at = k.at; reason = link_reason (passed ++ k ∷ ks) k.at k.to } ∷ removed_from ks)
    go true s kept removed = kept (rw (same_links passed k ks d inv) d) (after_kept passed k ks d inv (eqb-true _ _ s))
    go false s kept removed =
        ap (λ (rs : List Removed). record { at = k.at; reason = link_reason (passed ++ k ∷ ks) k.at k.to } ∷ rs)
        (removed (distinct_mid passed k ks d).1 (after_removed passed k ks d inv))

-- THE THIRD PASS WITHOUT STATE.
pub third_pass : (ks : List Link) → Distinct ks → removed_links [] ks ≡ removed_from ks
third_pass ks d = no_state [] ks d (at_first ks)
