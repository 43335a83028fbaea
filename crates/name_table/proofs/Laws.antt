-- The laws of the table: bounds of its numbers, the comparison of texts, and halving.
-- Assumes nothing.
use Prim.Native.Nat.{ℕ, zero, suc, ◌+◌, ◌-◌, ◌*◌, ◌/◌, ◌≤◌, ◌<◌}
use mathlib.Core.Path.{◌≡◌, refl, ◌∙◌, ap, sym}
use mathlib.Core.Bool.{Bool, true, false}
use mathlib.Core.List.{List, [], ◌∷◌}
use native.Mathlib.Omega.{arith}
use borrow.Author.Tests.{eqb-true, eqb-false, eq-eqb, ne_eqb, lt-ltb, le-ltb, ltb-true, ltb-false}
use lib.Dec.{eqb, ltb}
use lib.ListN.{length, take, drop, get_or, set, drop_of_length-le}
use lib.Seq.{get_or-set_same, get_or-set_other, set_out}
use Rattle.spec.specs.Choice.{pick, both}
use Rattle.spec.specs.Lists.{same}
use Rattle.laws.proofs.Tests.{clash, both_false}
use Rattle.laws.proofs.WholeLines.{same_equal, equal_same}
use Rattle.laws.proofs.TextSteps.{drop-next}
use Rattle.name_table.specs.Table.{AtMost, Table, text_of, before, listed_before, halved, place_in, slot_of}

-- ---- bounds

pub at_most : (most : ℕ) (l : List ℕ) (i : ℕ) → AtMost most l → get_or l i 0 ≤ most
unfolding AtMost
at_most most l i h = h i

pub at-most-set : (most : ℕ) (l : List ℕ) (at v : ℕ) → AtMost most l → v ≤ most → AtMost most (set l at v)
unfolding AtMost
at-most-set most l at v h m i = go (eqb i at) refl (ltb at (length l)) refl
  where
    go : (x : Bool) → eqb i at ≡ x → (y : Bool) → ltb at (length l) ≡ y → get_or (set l at v) i 0 ≤ most
    go false x y e = rw (get_or-set_other l at i v 0 (eqb-false i at x)) (h i)
    go true x true e =
        let s = eqb-true i at x in
        let inside = ltb-true at (length l) e in
        rw (s, get_or-set_same l at v 0 inside) m
    go true x false e = rw (set_out l at v (ltb-false at (length l) e)) (h i)

-- ---- the text of a name, as the part that the code hands back

pub text_is : (bytes lens : List ℕ) (j : ℕ) → take (j * 64 + get_or lens j 0 - j * 64) (drop (j * 64) bytes) ≡ text_of bytes lens j
unfolding text_of
text_is bytes lens j =
    let e : j * 64 + get_or lens j 0 - j * 64 ≡ get_or lens j 0 = omega arith in
    rw e

-- ---- the comparison of texts, of which i bytes are the same

unfoldable pub onward : List ℕ → ℕ → List ℕ
onward l i = drop i l

pub before-whole : (a b : List ℕ) → before a b ≡ before (onward a 0) (onward b 0)
unfolding onward
before-whole a b = refl

module _ (a b : List ℕ) (i : ℕ) where
  pub before-none : length b ≤ i → before (onward a i) (onward b i) ≡ false
  unfolding before onward
  before-none h = rw (drop_of_length-le b h) (go (drop i a))
    where
      go : (l : List ℕ) → before l [] ≡ false
      go [] = refl
      go (x ∷ l) = refl

  pub before_more : length a ≤ i → i < length b → before (onward a i) (onward b i) ≡ true
  unfolding before onward
  before_more h g = rw (drop_of_length-le a h, drop-next b i g)

  pub before_differs : i < length a → i < length b → (get_or a i 0 ≡ get_or b i 0 → ⊥) → before (onward a i) (onward b i) ≡ ltb (get_or a i 0) (get_or b i 0)
  unfolding before onward
  before_differs h g n = rw (drop-next a i h, drop-next b i g, ne_eqb (get_or a i 0) (get_or b i 0) n)

  pub before_on : i < length a → i < length b → get_or a i 0 ≡ get_or b i 0 → before (onward a i) (onward b i) ≡ before (onward a (i + 1)) (onward b (i + 1))
  unfolding before onward
  before_on h g e = rw (drop-next a i h, drop-next b i g, eq-eqb (get_or a i 0) (get_or b i 0) e)

-- no text comes before itself
pub before_not : (l : List ℕ) → before l l ≡ false
unfolding before
before_not [] = refl
before_not (x ∷ l) = rw (eq-eqb x x refl) (before_not l)

-- ---- halving

-- Halving from `low` to `high` ends where all of it ends, with steps enough.
pub record Halving (count : ℕ) (test : ℕ → Bool) (low high : ℕ) : Type 0 where
  pub rising : low ≤ high
  pub within : high ≤ count
  pub steps : ℕ
  pub enough : high ≤ low + steps
  pub ends : halved count test 0 count ≡ halved steps test low high

pub halving_first : (count : ℕ) (test : ℕ → Bool) → Halving count test 0 count
halving_first count test = record { rising = omega arith; within = omega arith; steps = count; enough = omega arith; ends = refl }

module _ (count : ℕ) (test : ℕ → Bool) (low high : ℕ) (q : Halving count test low high) (mid : ℕ) (half : mid ≡ low + (high - low) / 2)
    (more : low < high) where
  step_up : (n : ℕ) → high ≤ low + n → test mid ≡ true → (m : ℕ) × (high ≤ (mid + 1) + m) × (halved n test low high ≡ halved m test (mid + 1) high)
  unfolding halved
  step_up zero h e = absurd (omega arith)
  step_up (suc n) h e = (n, omega arith, rw (lt-ltb low high more, ← half, e))

  step_down : (n : ℕ) → high ≤ low + n → test mid ≡ false → (m : ℕ) × (mid ≤ low + m) × (halved n test low high ≡ halved m test low mid)
  unfolding halved
  step_down zero h e = absurd (omega arith)
  step_down (suc n) h e = (n, omega arith, rw (lt-ltb low high more, ← half, e))

  pub halving_up : test mid ≡ true → Halving count test (mid + 1) high
  halving_up e =
      let s = step_up q.steps q.enough e in
      record { rising = omega (arith, q.rising); within = q.within; steps = s.0; enough = s.1; ends = q.ends ∙ s.2 }

  pub halving_down : test mid ≡ false → Halving count test low mid
  halving_down e =
      let s = step_down q.steps q.enough e in
      record { rising = omega arith; within = omega (arith, q.within); steps = s.0; enough = s.1; ends = q.ends ∙ s.2 }

halved-ended : (n : ℕ) (test : ℕ → Bool) (low high : ℕ) → high ≤ low → halved n test low high ≡ low
unfolding halved
halved-ended zero test low high h = refl
halved-ended (suc n) test low high h = rw (le-ltb low high h)

pub halving_ended : (count : ℕ) (test : ℕ → Bool) (low high : ℕ) → Halving count test low high → high ≤ low → low ≡ halved count test 0 count
halving_ended count test low high q h = sym (q.ends ∙ halved-ended q.steps test low high h)

pub place-ended : (bytes lens order name : List ℕ) (count low high : ℕ) → Halving count (listed_before bytes lens order name) low high → high ≤ low
    → low ≡ place_in bytes lens order count name
unfolding place_in
place-ended bytes lens order name count low high q h = halving_ended count _ low high q h

-- ---- the names that are listed

pub in_order : (bytes lens order : List ℕ) (i : ℕ) → Table bytes lens order → get_or order i 0 < length lens
in_order bytes lens order i t = omega (arith, t.some, at_most _ order i t.inside)

pub listed : (bytes lens order name : List ℕ) (i : ℕ) (t : List ℕ) (r x : Bool) → t ≡ text_of bytes lens (get_or order i 0) → r ≡ before t name → r ≡ x
    → listed_before bytes lens order name i ≡ x
unfolding listed_before
listed bytes lens order name i t r x e f g = rw (← e) (sym f ∙ g)

-- ---- the name that is found

pub not_both : {x : Bool} → x ≡ true → x ≡ false → ⊥
not_both e f = clash (sym e ∙ f)

module _ (bytes lens order : List ℕ) (count : ℕ) (name : List ℕ) (at : ℕ) (e : at ≡ place_in bytes lens order count name) where
  pub slot_past : count ≤ at → length lens ≡ slot_of bytes lens order count name
  unfolding slot_of
  slot_past h = rw (← e, le-ltb at count h)

  pub slot_here : at < count → name ≡ text_of bytes lens (get_or order at 0) → get_or order at 0 ≡ slot_of bytes lens order count name
  unfolding slot_of
  slot_here h s = rw (← e, lt-ltb at count h, equal_same _ _ s)

  pub slot_none : (name ≡ text_of bytes lens (get_or order at 0) → ⊥) → length lens ≡ slot_of bytes lens order count name
  unfolding slot_of
  slot_none n = rw (← e) (go (same name (text_of bytes lens (get_or order at 0))) refl)
    where
      go : (x : Bool) → same name (text_of bytes lens (get_or order at 0)) ≡ x → length lens ≡ pick (both (ltb at count) x) (get_or order at 0) (length lens)
      go true s = absurd (n (same_equal _ _ s))
      go false s = rw (both_false (ltb at count))

-- What is found is the text: so two texts that are found as one name are the same.
pub slot_text : (bytes lens order : List ℕ) (count : ℕ) (name : List ℕ) → slot_of bytes lens order count name < length lens
    → name ≡ text_of bytes lens (slot_of bytes lens order count name)
unfolding slot_of
slot_text bytes lens order count name h = go (ltb at count) (same name (text_of bytes lens (get_or order at 0))) refl h
  where
    at : ℕ
    at = place_in bytes lens order count name

    go : (x y : Bool) → same name (text_of bytes lens (get_or order at 0)) ≡ y → pick (both x y) (get_or order at 0) (length lens) < length lens
        → name ≡ text_of bytes lens (pick (both x y) (get_or order at 0) (length lens))
    go true true s m = same_equal _ _ s
    go true false s m = absurd (omega arith)
    go false true s m = absurd (omega arith)
    go false false s m = absurd (omega arith)

-- A text of more than 64 bytes is not found.
take-few : (n : ℕ) (l : List ℕ) → length (take n l) ≤ n
take-few zero l = omega arith
take-few (suc n) [] = omega arith
take-few (suc n) (x ∷ l) = let h = take-few n l in omega arith

pub slot_long : (bytes lens order : List ℕ) (count : ℕ) (name : List ℕ) → AtMost 64 lens → 64 < length name → length lens ≤ slot_of bytes lens order count name
slot_long bytes lens order count name few long = go (ltb (slot_of bytes lens order count name) (length lens)) refl
  where
    short : (j : ℕ) → length (text_of bytes lens j) ≤ get_or lens j 0
    short j = unfold text_of in take-few (get_or lens j 0) (drop (j * 64) bytes)

    go : (x : Bool) → ltb (slot_of bytes lens order count name) (length lens) ≡ x → length lens ≤ slot_of bytes lens order count name
    go true e =
        let s = ap length (slot_text bytes lens order count name (ltb-true _ _ e)) in
        absurd (omega (arith, s, short (slot_of bytes lens order count name), at_most 64 lens (slot_of bytes lens order count name) few))
    go false e = ltb-false _ _ e

-- Two texts that are found as one name are the same.
pub slot_alone : (bytes lens order : List ℕ) (count : ℕ) (name : List ℕ) → slot_of bytes lens order count name < length lens
    → (other : List ℕ) → slot_of bytes lens order count other ≡ slot_of bytes lens order count name → other ≡ name
slot_alone bytes lens order count name h other e =
    let m : slot_of bytes lens order count other < length lens = rw e h in
    slot_text bytes lens order count other m ∙ ap (text_of bytes lens) e ∙ sym (slot_text bytes lens order count name h)

-- A table of one name finds it.
pub slot_single : (bytes : List ℕ) (n : ℕ) (name : List ℕ) → text_of bytes (n ∷ []) 0 ≡ name → slot_of bytes (n ∷ []) (0 ∷ []) 1 name ≡ 0
unfolding slot_of place_in halved listed_before
slot_single bytes n name e = rw (e, before_not name, e, equal_same name name refl)
