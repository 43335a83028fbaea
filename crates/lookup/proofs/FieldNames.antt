-- The first two bytes of a field compared with the asked name, and its kind with the asked kind.
-- Assumes nothing.
use Prim.Native.Nat.{ℕ}
use mathlib.Core.Path.{◌≡◌, refl, ◌∙◌}
use mathlib.Core.Bool.{Bool, true, false}
use mathlib.Core.List.{List, [], ◌∷◌}
use borrow.Author.Tests.{eq-eqb, ne_eqb}
use lib.Dec.{eqb}
use lib.ListN.{take}
use Rattle.spec.specs.Choice.{both}
use Rattle.spec.specs.Lists.{same}
use Rattle.spec.specs.Fields.{Content, Reading, malformed, ignored, link, capability, content_kind, reading}
use Rattle.spec.specs.Lookup.{matches}
use Rattle.laws.proofs.Tests.{both_false}
use Rattle.laws.proofs.Readings.{reading-entered}
use Rattle.fields.specs.Readings.{ReadAs}
use Rattle.fields.specs.declared.FieldRead.{FieldRead}
use Rattle.fields.specs.declared.FieldRead.TheVariants.{Malformed, Ignored, Link, Cancel, Flag, Number, String}
use Rattle.lookup.specs.Answers.{has_name, has_kind}

-- ---- the name, byte by byte

module _ (a b : ℕ) (t : List ℕ) where
  pub name_missing : t ≡ [] → has_name (a ∷ b ∷ []) t ≡ false
  unfolding has_name same
  name_missing e = rw e

  module _ (x : ℕ) (l : List ℕ) (e : t ≡ x ∷ l) where
    pub first_differs : (a ≡ x → ⊥) → has_name (a ∷ b ∷ []) t ≡ false
    unfolding has_name same
    first_differs h = rw (e, ne_eqb a x h)

    pub second_missing : l ≡ [] → has_name (a ∷ b ∷ []) t ≡ false
    unfolding has_name same
    second_missing d = rw (e, d) (both_false (eqb a x))

    pub second_decides : (y : ℕ) (m : List ℕ) → a ≡ x → l ≡ y ∷ m → has_name (a ∷ b ∷ []) t ≡ eqb b y
    unfolding has_name same
    second_decides y m h d = rw (e, d, eq-eqb a x h) (go (eqb b y))
      where
        go : (z : Bool) → both z true ≡ z
        go true = refl
        go false = refl

-- ---- a field that starts with the asked name matches by its kind, and any other does not

module _ (id : List ℕ) (k : ℕ) (t : List ℕ) where
  entry_matches : (x y : ℕ) (c : Content) → reading t ≡ capability x y c → matches id k (reading t) ≡ both (has_name id t) (eqb k (content_kind c))
  unfolding matches has_name
  entry_matches x y c e =
      let s = (reading-entered t x y c e).start in
      let first : take 2 t ≡ x ∷ y ∷ [] = rw s.1 in
      rw (e, first)

  pub unnamed_passes : has_name id t ≡ false → matches id k (reading t) ≡ false
  unnamed_passes h = go (reading t) refl
    where
      go : (r : Reading) → reading t ≡ r → matches id k (reading t) ≡ false
      go malformed e = rw e (unfold matches in refl)
      go ignored e = rw e (unfold matches in refl)
      go (link name) e = rw e (unfold matches in refl)
      go (capability x y c) e = entry_matches x y c e ∙ rw h

  pub named_matches : (s : List ℕ) (read : FieldRead) → has_name id t ≡ true → ReadAs s (reading t) read → matches id k (reading t) ≡ has_kind k read
  named_matches s Malformed h p = rw p (unfold matches in refl)
  named_matches s Ignored h p = rw p (unfold matches in refl)
  named_matches s (Link name) h p = rw p.0 (unfold matches in refl)
  named_matches s (Cancel a b) h p = entry_matches a b _ p ∙ rw h
  named_matches s (Flag a b) h p = entry_matches a b _ p ∙ rw h
  named_matches s (Number a b v) h p = entry_matches a b _ p ∙ rw h
  named_matches s (String a b text n) h p = entry_matches a b _ p.1 ∙ rw h
