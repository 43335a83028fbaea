-- The verdict on a line's fields, field by field.
-- Assumes nothing.
use Prim.Native.Nat.{ℕ, ◌≤◌}
use mathlib.Core.Path.{◌≡◌, refl}
use mathlib.Core.Bool.{Bool, true, false}
use mathlib.Core.List.{List, [], ◌∷◌}
use native.Mathlib.Omega.{arith}
use borrow.Author.Tests.{leb-true}
use lib.Dec.{eqb, leb}
use lib.ListN.{length}
use Rattle.spec.specs.Choice.{pick, both, either, between}
use Rattle.spec.specs.Lists.{holds}
use Rattle.spec.specs.Refusals.{name_bytes, good_name, is_tc, id_bytes}
use Rattle.spec.specs.Lines.{blank}
use Rattle.spec.specs.Strings.{Decoded, bad, good, plain, decode}
use Rattle.spec.specs.Fields.{
  Content,
  cancel,
  number,
  Reading,
  malformed,
  ignored,
  link,
  capability,
  good_number,
  number_value,
  string_reading,
  content_reading,
  link_reading,
  named_reading,
  reading,
  is_ignored_field,
  all_ignored,
  judged,
  Verdict,
  malformed_line,
  no_link,
  link_to,
  judge,
  fields_of,
  verdict,
}
use Rattle.laws.proofs.Tests.{both_true}

pub judge_nil : judge [] ≡ no_link
unfolding judge
judge_nil = refl

module _ (f : List ℕ) (fs : List (List ℕ)) where
  pub judge-malformed : reading f ≡ malformed → judge (f ∷ fs) ≡ malformed_line
  unfolding judge judged
  judge-malformed e = rw e

  pub judge-ignored : reading f ≡ ignored → judge (f ∷ fs) ≡ judge fs
  unfolding judge judged
  judge-ignored e = rw e

  pub judge_entry : (a b : ℕ) (s : Content) → reading f ≡ capability a b s → judge (f ∷ fs) ≡ judge fs
  unfolding judge judged
  judge_entry a b s e = rw e

  pub judge-link : (n : List ℕ) → reading f ≡ link n → all_ignored fs ≡ true → judge (f ∷ fs) ≡ link_to n
  unfolding judge judged
  judge-link n e h = rw (e, h)

  pub judge-after : (n : List ℕ) → reading f ≡ link n → all_ignored fs ≡ false → judge (f ∷ fs) ≡ malformed_line
  unfolding judge judged
  judge-after n e h = rw (e, h)

  pub ignored_not : is_ignored_field (reading f) ≡ false → all_ignored (f ∷ fs) ≡ false
  unfolding all_ignored
  ignored_not e = rw e

pub ignored_nil : all_ignored [] ≡ true
unfolding all_ignored
ignored_nil = refl

pub verdict-colon : (l : List ℕ) → holds 58 l ≡ true → verdict l ≡ judge (fields_of l)
unfolding verdict
verdict-colon l e = rw e

pub verdict-none : (l : List ℕ) → holds 58 l ≡ false → verdict l ≡ malformed_line
unfolding verdict
verdict-none l e = rw e

-- ---- the name of a link is a good one

linked-good : (l n : List ℕ) → link_reading l ≡ link n → good_name n ≡ true
unfolding link_reading
linked-good [] n e = let z : ◌≡◌ {A = ℕ} 0 1 = cc in absurd (omega arith)
linked-good (c ∷ l) n e = go (both (eqb c 61) (good_name l)) refl e
  where
    go : (x : Bool) → both (eqb c 61) (good_name l) ≡ x → pick x (link l) malformed ≡ link n → good_name n ≡ true
    go true h q =
        let s : l ≡ n = cc in
        rw (← s) (both_true (eqb c 61) (good_name l) h).1
    go false h q = let z : ◌≡◌ {A = ℕ} 0 1 = cc in absurd (omega arith)

not_string : (a b : ℕ) (o : Decoded) (n : List ℕ) → string_reading a b o ≡ link n → ⊥
unfolding string_reading
not_string a b bad n e = let z : ◌≡◌ {A = ℕ} 0 1 = cc in omega arith
not_string a b (good l) n e = let z : ◌≡◌ {A = ℕ} 0 1 = cc in omega arith

not_content : (a b : ℕ) (l n : List ℕ) → content_reading a b l ≡ link n → ⊥
unfolding content_reading
not_content a b [] n e = let z : ◌≡◌ {A = ℕ} 0 1 = cc in omega arith
not_content a b (c ∷ l) n e = go (eqb c 35) (good_number l) (eqb c 61) (eqb c 64) (eqb (length l) 0) e
  where
    go : (x g y z d : Bool)
        → pick x (pick g (capability a b (number (number_value l))) malformed)
        (pick y (string_reading a b (decode plain l)) (pick z (pick d (capability a b cancel) malformed) malformed)) ≡ link n
        → ⊥
    go true true y z d q = let w : ◌≡◌ {A = ℕ} 0 1 = cc in omega arith
    go true false y z d q = let w : ◌≡◌ {A = ℕ} 0 1 = cc in omega arith
    go false g true z d q = not_string a b (decode plain l) n q
    go false g false true true q = let w : ◌≡◌ {A = ℕ} 0 1 = cc in omega arith
    go false g false true false q = let w : ◌≡◌ {A = ℕ} 0 1 = cc in omega arith
    go false g false false d q = let w : ◌≡◌ {A = ℕ} 0 1 = cc in omega arith

named_good : (a : ℕ) (l n : List ℕ) → named_reading a l ≡ link n → good_name n ≡ true
unfolding named_reading
named_good a [] n e = let z : ◌≡◌ {A = ℕ} 0 1 = cc in absurd (omega arith)
named_good a (b ∷ l) n e = go (is_tc a b) (id_bytes a b) e
  where
    go : (x y : Bool) → pick x (link_reading l) (pick y (content_reading a b l) malformed) ≡ link n → good_name n ≡ true
    go true y q = linked-good l n q
    go false true q = absurd (not_content a b l n q)
    go false false q = let z : ◌≡◌ {A = ℕ} 0 1 = cc in absurd (omega arith)

pub reading-good : (t n : List ℕ) → reading t ≡ link n → good_name n ≡ true
unfolding reading
reading-good [] n e = let z : ◌≡◌ {A = ℕ} 0 1 = cc in absurd (omega arith)
reading-good (a ∷ l) n e = go (either (blank (a ∷ l)) (eqb a 46)) e
  where
    go : (x : Bool) → pick x ignored (named_reading a l) ≡ link n → good_name n ≡ true
    go true q = let z : ◌≡◌ {A = ℕ} 0 1 = cc in absurd (omega arith)
    go false q = named_good a l n q

judged-good : (t : List ℕ) (fs : List (List ℕ)) (v : Verdict) (n : List ℕ) → (v ≡ link_to n → good_name n ≡ true) → judged (reading t) fs v ≡ link_to n →
    good_name n ≡ true
unfolding judged
judged-good t fs v n ih e = go (reading t) refl e
  where
    linked : (m : List ℕ) → reading t ≡ link m → (x : Bool) → pick x (link_to m) malformed_line ≡ link_to n → good_name n ≡ true
    linked m r true q = let s : m ≡ n = cc in rw (← s) (reading-good t m r)
    linked m r false q = let z : ◌≡◌ {A = ℕ} 0 1 = cc in absurd (omega arith)

    go : (r : Reading) → reading t ≡ r → judged r fs v ≡ link_to n → good_name n ≡ true
    go malformed r q = let z : ◌≡◌ {A = ℕ} 0 1 = cc in absurd (omega arith)
    go ignored r q = ih q
    go (link m) r q = linked m r (all_ignored fs) q
    go (capability a b c) r q = ih q

judge-good : (fs : List (List ℕ)) (n : List ℕ) → judge fs ≡ link_to n → good_name n ≡ true
unfolding judge
judge-good [] n e = let z : ◌≡◌ {A = ℕ} 0 1 = cc in absurd (omega arith)
judge-good (f ∷ fs) n e = judged-good f fs (judge fs) n (judge-good fs n) e

pub verdict-good : (l n : List ℕ) → verdict l ≡ link_to n → good_name n ≡ true
unfolding verdict
verdict-good l n e = go (holds 58 l) e
  where
    go : (x : Bool) → pick x (judge (fields_of l)) malformed_line ≡ link_to n → good_name n ≡ true
    go true q = judge-good (fields_of l) n q
    go false q = let z : ◌≡◌ {A = ℕ} 0 1 = cc in absurd (omega arith)

pub good-name-short : (n : List ℕ) → good_name n ≡ true → length n ≤ 64
unfolding good_name
good-name-short n e = leb-true (length n) 64 (both_true (leb 1 (length n)) (leb (length n) 64) (both_true (between 1 64 (length n)) (name_bytes n) e).0).1
