-- The lookup with one field more at the end, and how long the field that answers can be.
-- Assumes nothing.
use Prim.Native.Nat.{ℕ, ◌+◌, ◌≤◌}
use mathlib.Core.Path.{◌≡◌, refl, ◌∙◌, ap}
use mathlib.Core.Bool.{Bool, true, false}
use mathlib.Core.List.{List, [], ◌∷◌, ◌++◌}
use native.Mathlib.Omega.{arith}
use lib.ListN.{length}
use Rattle.spec.specs.Choice.{pick, either}
use Rattle.spec.specs.Fields.{reading, size}
use Rattle.spec.specs.Chain.{Field, texts}
use Rattle.spec.specs.Lookup.{Hit, none, hit, matches, lookup, cancelled, is_present, is_live}

-- A hit stays; after a cancel there is none; otherwise the field decides, by whether it is a cancel of the name, or has the name and kind.
abbrev with_one : Hit → Bool → Bool → Bool → List ℕ → Hit
with_one (hit t) gone cancels answers text = hit t
with_one none gone cancels answers text = pick gone none (pick cancels none (pick answers (hit text) none))

module _ (id : List ℕ) (k : ℕ) where
  lookup_one_more : (fs : List Field) (f : Field)
      → lookup id k (fs ++ f ∷ []) ≡ with_one (lookup id k fs) (cancelled id fs) (matches id 0 (reading f.text)) (matches id k (reading f.text)) f.text
  unfolding lookup cancelled
  lookup_one_more [] f = refl
  lookup_one_more (g ∷ fs) f = go (matches id 0 (reading g.text)) (matches id k (reading g.text)) (lookup_one_more fs f)
    where
      x : Bool
      x = matches id 0 (reading f.text)

      y : Bool
      y = matches id k (reading f.text)

      go : (c a : Bool) → lookup id k (fs ++ f ∷ []) ≡ with_one (lookup id k fs) (cancelled id fs) x y f.text
          → pick c none (pick a (hit g.text) (lookup id k (fs ++ f ∷ [])))
          ≡ with_one (pick c none (pick a (hit g.text) (lookup id k fs))) (either c (cancelled id fs)) x y f.text
      go true a ih = refl
      go false true ih = refl
      go false false ih = ih

  module _ (fs : List Field) (f : Field) where
    -- a field of another name or kind
    pub lookup-passed : matches id k (reading f.text) ≡ false → lookup id k (fs ++ f ∷ []) ≡ lookup id k fs
    lookup-passed e = lookup_one_more fs f ∙ rw e (go (lookup id k fs) (cancelled id fs) (matches id 0 (reading f.text)))
      where
        go : (h : Hit) (x y : Bool) → with_one h x y false f.text ≡ h
        go (hit t) x y = refl
        go none true y = refl
        go none false true = refl
        go none false false = refl

    -- a field of the name and kind: it answers unless a cancel or another field did before
    pub lookup_taken : matches id 0 (reading f.text) ≡ false → matches id k (reading f.text) ≡ true
        → lookup id k (fs ++ f ∷ []) ≡ pick (either (cancelled id fs) (is_live id k fs)) (lookup id k fs) (hit f.text)
    lookup_taken z e = lookup_one_more fs f ∙ rw (z, e) (go (lookup id k fs) (cancelled id fs))
      where
        go : (h : Hit) (x : Bool) → with_one h x false true f.text ≡ pick (either x (is_present h)) h (hit f.text)
        go (hit t) true = refl
        go (hit t) false = refl
        go none true = refl
        go none false = refl

pub cancelled_one_more : (id : List ℕ) (fs : List Field) (f : Field)
    → cancelled id (fs ++ f ∷ []) ≡ either (cancelled id fs) (matches id 0 (reading f.text))
unfolding cancelled
cancelled_one_more id [] f = go (matches id 0 (reading f.text))
  where
    go : (c : Bool) → either c false ≡ c
    go true = refl
    go false = refl
cancelled_one_more id (g ∷ fs) f = go (matches id 0 (reading g.text)) (cancelled_one_more id fs f)
  where
    go : (c : Bool) → cancelled id (fs ++ f ∷ []) ≡ either (cancelled id fs) (matches id 0 (reading f.text))
        → either c (cancelled id (fs ++ f ∷ [])) ≡ either (either c (cancelled id fs)) (matches id 0 (reading f.text))
    go true ih = refl
    go false ih = ih

-- the field that answers is no longer than all of them
pub hit-size : (id : List ℕ) (k : ℕ) (fs : List Field) (t : List ℕ) → lookup id k fs ≡ hit t → length t ≤ size (texts fs)
unfolding lookup texts size
hit-size id k [] t e = let z : ◌≡◌ {A = ℕ} 0 1 = cc in absurd (omega arith)
hit-size id k (f ∷ fs) t e = go (matches id 0 (reading f.text)) (matches id k (reading f.text)) e (hit-size id k fs t)
  where
    go : (c h : Bool) → pick c none (pick h (hit f.text) (lookup id k fs)) ≡ hit t → (lookup id k fs ≡ hit t → length t ≤ size (texts fs))
        → length t ≤ length f.text + 1 + size (texts fs)
    go true h q ih = let z : ◌≡◌ {A = ℕ} 0 1 = cc in absurd (omega arith)
    go false true q ih = let same : f.text ≡ t = cc in omega (arith, ap length same)
    go false false q ih = omega (arith, ih q)
