-- What a field is read as, by its first bytes.
-- Assumes nothing.
use Prim.Native.Nat.{ℕ, suc, ◌≤◌}
use mathlib.Core.Path.{◌≡◌, refl}
use mathlib.Core.Bool.{Bool, true, false, not}
use mathlib.Core.List.{List, [], ◌∷◌}
use mathlib.Core.Logic.{◌⊎◌, ⊎_elim}
use native.Mathlib.Omega.{arith}
use borrow.Author.Tests.{eq-eqb, ne_eqb}
use lib.Dec.{eqb}
use lib.ListN.{length}
use Rattle.spec.specs.Choice.{pick, both, either}
use Rattle.spec.specs.Lines.{blank}
use Rattle.spec.specs.Refusals.{good_name, id_byte, is_tc, id_bytes}
use Rattle.spec.specs.Fields.{malformed, ignored, link, content_reading, link_reading, named_reading, reading}
use Rattle.laws.proofs.Tests.{both_false, clash}
use Rattle.fields.specs.Readings.{starts, other_reading, name_reading}
use Rattle.fields.proofs.Names.{id_outside, id_first, blank-next, blank-stops}

-- ---- after the two name bytes

-- `@` and more is no cancel
pub cancel_more : (a b c : ℕ) (l : List ℕ) → content_reading a b (64 ∷ c ∷ l) ≡ malformed
unfolding content_reading
cancel_more a b c l = rw (ne_eqb (suc (length l)) 0 (omega arith))

pub content_other : (a b c : ℕ) (l : List ℕ) → (c ≡ 35 → ⊥) → (c ≡ 61 → ⊥) → (c ≡ 64 → ⊥) → content_reading a b (c ∷ l) ≡ malformed
unfolding content_reading
content_other a b c l n m k = rw (ne_eqb c 35 n, ne_eqb c 61 m, ne_eqb c 64 k)

-- ---- the two name bytes

module _ (a b : ℕ) (l : List ℕ) where
  pub other_id : id_bytes a b ≡ true → other_reading (a ∷ b ∷ l) ≡ content_reading a b l
  unfolding other_reading
  other_id e = rw e

  pub other_no_id : id_bytes a b ≡ false → other_reading (a ∷ b ∷ l) ≡ malformed
  unfolding other_reading
  other_no_id e = rw e

-- ---- a link

module _ (l : List ℕ) where
  pub link-good : good_name l ≡ true → link_reading (61 ∷ l) ≡ link l
  unfolding link_reading
  link-good e = rw e

  pub link-bad : good_name l ≡ false → link_reading (61 ∷ l) ≡ malformed
  unfolding link_reading
  link-bad e = rw e

  pub name_tc : name_reading (116 ∷ 99 ∷ 61 ∷ l) ≡ link_reading (61 ∷ l)
  unfolding name_reading named_reading is_tc
  name_tc = refl

-- a field named `tc` that is no link is malformed, by either definition
tc_malformed : (l : List ℕ) → starts (61 ∷ []) l ≡ false → link_reading l ≡ malformed
unfolding starts link_reading
tc_malformed [] e = refl
tc_malformed (c ∷ l) e = go (eqb c 61) e
  where
    go : (x : Bool) → both x true ≡ false → pick (both x (good_name l)) (link l) malformed ≡ malformed
    go true f = clash f
    go false f = refl

tc_no_id : (a b : ℕ) → is_tc a b ≡ true → id_bytes a b ≡ false
unfolding id_bytes
tc_no_id a b e = rw e (go (eqb a 46))
  where
    go : (x : Bool) → both (both (id_byte a) (id_byte b)) (not (either x true)) ≡ false
    go true = both_false (both (id_byte a) (id_byte b))
    go false = both_false (both (id_byte a) (id_byte b))

pub no_link_lem : (f : List ℕ) → starts (116 ∷ 99 ∷ 61 ∷ []) f ≡ false → name_reading f ≡ other_reading f
unfolding starts name_reading named_reading other_reading is_tc
no_link_lem [] e = refl
no_link_lem (a ∷ []) e = refl
no_link_lem (a ∷ b ∷ l) e = go (eqb a 116) refl (eqb b 99) refl e
  where
    go : (x : Bool) → eqb a 116 ≡ x → (y : Bool) → eqb b 99 ≡ y → both x (both y (starts (61 ∷ []) l)) ≡ false
        → pick (both x y) (link_reading l) (pick (id_bytes a b) (content_reading a b l) malformed) ≡ pick (id_bytes a b) (content_reading a b l) malformed
    go true h true k q = rw (tc_malformed l q, tc_no_id a b (rw (h, k)))
    go true h false k q = refl
    go false h y k q = refl

-- ---- the first byte

module _ (a : ℕ) (l : List ℕ) where
  pub reading_dot : a ≡ 46 → reading (a ∷ l) ≡ ignored
  unfolding reading
  reading_dot e = rw (eq-eqb a 46 e) (go (blank (a ∷ l)))
    where
      go : (x : Bool) → pick (either x true) ignored (named_reading a l) ≡ ignored
      go true = refl
      go false = refl

  pub reading_named : ((a ≡ 9) ⊎ (a ≡ 32) → ⊥) → (a ≡ 46 → ⊥) → reading (a ∷ l) ≡ name_reading (a ∷ l)
  unfolding reading name_reading
  reading_named h k = rw (blank-stops a l h, ne_eqb a 46 k)

  module _ (e : (a ≡ 9) ⊎ (a ≡ 32)) where
    blank_low : a ≤ 32
    blank_low = ⊎_elim (λ z. omega arith) (λ z. omega arith) e

    blank_no_tc : (b : ℕ) → is_tc a b ≡ false
    unfolding is_tc
    blank_no_tc b = rw (ne_eqb a 116 (omega (arith, blank_low)))

    blank-malformed : (m : List ℕ) → named_reading a m ≡ malformed
    unfolding named_reading
    blank-malformed [] = refl
    blank-malformed (b ∷ m) = rw (blank_no_tc b, id_first a b (id_outside a (λ w. omega (arith, blank_low, w.0))))

    pub reading-blank : reading (a ∷ l) ≡ pick (blank l) ignored malformed
    unfolding reading
    reading-blank = rw (blank-next a l e, ne_eqb a 46 (omega (arith, blank_low)), blank-malformed l) (go (blank l))
      where
        go : (x : Bool) → pick (either x false) ignored malformed ≡ pick x ignored malformed
        go true = refl
        go false = refl
