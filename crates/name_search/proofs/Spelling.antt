-- What is left of a name after some of its bytes, against the name at a place: it starts with a pair, or with its next byte.
-- Assumes nothing.
use Prim.Native.Nat.{ℕ, ◌+◌, ◌≤◌, ◌<◌}
use mathlib.Core.Path.{◌≡◌, refl, ◌∙◌, ap, sym}
use mathlib.Core.Bool.{Bool, true, false, true≢false}
use mathlib.Core.List.{List, []}
use mathlib.Core.Logic.{◌⊎◌, inl, inr, ⊎_elim}
use native.Mathlib.Omega.{arith}
use borrow.Author.Tests.{eqb-true, eqb-false}
use lib.Dec.{eqb}
use lib.ListN.{length, get_or}
use Rattle.spec.specs.Lines.{Text, end, byte, text_at, line_text, first_name}
use Rattle.spec.specs.Lists.{upto, same}
use Rattle.laws.proofs.TextSteps as Laws
use Rattle.laws.proofs.TextSteps.{rest}
use Rattle.name_places.specs.Marks.{Ending}
use Rattle.name_search.proofs.Looking.{Pair, Look, over, pair, one, look}

pub is_ending : (b : ℕ) → Ending b ⊎ (Ending b → ⊥)
is_ending b = go (eqb b 10) (eqb b 58) (eqb b 124) refl refl refl
  where
    go : (x y z : Bool) → eqb b 10 ≡ x → eqb b 58 ≡ y → eqb b 124 ≡ z → Ending b ⊎ (Ending b → ⊥)
    go true y z u v w = inl (inl (eqb-true _ _ u))
    go false true z u v w = inl (inr (inl (eqb-true _ _ v)))
    go false false true u v w = inl (inr (inr (eqb-true _ _ w)))
    go false false false u v w = inr (⊎_elim (eqb-false _ _ u) (⊎_elim (eqb-false _ _ v) (eqb-false _ _ w)))

pub first_end : (t : Text) → line_text t ≡ [] → first_name (line_text t) ≡ []
unfolding first_name upto
first_end t e = rw e

pub text_done : (t : Text) → t ≡ end → line_text t ≡ []
unfolding line_text
text_done t e = rw e

module _ (s n : List ℕ) (i p : ℕ) where
  -- what is left of the name is what stands at the place
  abbrev pub Stands : Type 0
  Stands = same (rest n i) (first_name (line_text (text_at s p))) ≡ true

  pub data Begins : Type 0 where
    with_pair : p + 1 < length s → Pair s p → text_at s p ≡ text_at s (p + 1 + 1) → Begins
    with_byte : get_or s p 0 ≡ get_or n i 0 → (Ending (get_or s p 0) → ⊥) → same (rest n (i + 1)) (first_name (line_text (text_at s (p + 1)))) ≡ true → Begins

  -- something is left, so the place is not at the end of a name
  pub some_left : i < length n → Stands → first_name (line_text (text_at s p)) ≡ [] → ⊥
  some_left h x e =
      let z : eqb i (length n) ≡ true = Laws.same_nil n i (omega arith) ∙ rw e at x in
      let w : i ≡ length n = eqb-true i (length n) z in
      omega arith

  pub begins : i < length n → Stands → Begins
  begins h x = go (look s p)
    where
      at_byte :
          text_at s p ≡ byte (get_or s p 0) (p + 1) (text_at s (p + 1)) → Ending (get_or s p 0) ⊎ (Ending (get_or s p 0) → ⊥)
          → (y : Bool) → eqb (get_or n i 0) (get_or s p 0) ≡ y → Begins
      at_byte t (inl f) y e = absurd (some_left h x (ap (λ (q : Text). first_name (line_text q)) t ∙ Laws.name-end _ _ _ f))
      at_byte t (inr f) true e =
          let on = ap (λ (q : Text). first_name (line_text q)) t ∙ Laws.name_on _ _ _ f in
          let z = eqb-true _ _ e in
          with_byte (sym z) f (sym (Laws.same_next n i _ _ h z) ∙ rw on at x)
      at_byte t (inr f) false e =
          let on = ap (λ (q : Text). first_name (line_text q)) t ∙ Laws.name_on _ _ _ f in
          absurd (true≢false (sym (rw on at x) ∙ Laws.same_differs n i _ _ h (eqb-false _ _ e)))

      go : Look s p → Begins
      go (over q) = absurd (some_left h x (first_end _ (text_done _ (Laws.text-end s p q))))
      go (pair q y t) = with_pair q y t
      go (one q y t) = at_byte t (is_ending (get_or s p 0)) (eqb (get_or n i 0) (get_or s p 0)) refl

  -- nothing is left, so the name ends at the place, or a pair stands there
  pub ends : length n ≤ i → Stands → (Ending (get_or s p 0) ⊎ Pair s p) ⊎ (length s ≤ p)
  ends h x = go (look s p)
    where
      at_byte : text_at s p ≡ byte (get_or s p 0) (p + 1) (text_at s (p + 1)) → Ending (get_or s p 0) ⊎ (Ending (get_or s p 0) → ⊥) → Ending (get_or s p 0)
      at_byte t (inl f) = f
      at_byte t (inr f) =
          let on = ap (λ (q : Text). first_name (line_text q)) t ∙ Laws.name_on _ _ _ f in
          absurd (true≢false (sym (rw on at x) ∙ Laws.same-short n i _ _ h))

      go : Look s p → (Ending (get_or s p 0) ⊎ Pair s p) ⊎ (length s ≤ p)
      go (over q) = inr q
      go (pair q y t) = inl (inr y)
      go (one q y t) = inl (inl (at_byte t (is_ending (get_or s p 0))))
