-- What a table says of the readings that were met: none, one more, and whether a capability is the first.
-- Assumes nothing.
use Prim.Native.Nat.{ℕ, zero, suc, ◌≤◌}
use mathlib.Core.Path.{◌≡◌, refl, ◌∙◌}
use mathlib.Core.Bool.{Bool, true, false, not}
use mathlib.Core.List.{List, [], ◌∷◌}
use native.Mathlib.Omega.{arith}
use borrow.Author.Tests.{le-leb, leb-true}
use lib.Dec.{eqb, leb}
use lib.ListN.{get_or, set, replicate, length-set, length-replicate}
use Rattle.spec.specs.Choice.{pick, both, either, between}
use Rattle.spec.specs.Lists.{same}
use Rattle.spec.specs.Refusals.{id_byte, id_bytes}
use Rattle.spec.specs.Fields.{Content, cancel, flag, number, string, Reading, capability, reading, content_kind}
use Rattle.spec.specs.Lookup.{matches, hidden, met}
use Rattle.laws.proofs.Tests.{both_true}
use Rattle.laws.proofs.Readings.{reading-entered}
use Rattle.laws.proofs.Winning.{hidden-capability, stopped_met}
use Rattle.capability_table.specs.Table.{has_entry, key_of, bit_of, with_bit, is_open, is_first, marked, bit, Marks}
use Rattle.capability_table.proofs.Entries.{entry, entry_kind, bit-after}

-- ---- nothing met

pub zeros : (n v : ℕ) → get_or {A = ℕ} (replicate n 0) v 0 ≡ 0
zeros zero v = refl
zeros (suc n) zero = refl
zeros (suc n) (suc v) = zeros n v

pub zero_bit : (k : ℕ) → bit_of k 0 ≡ 0
unfolding bit_of
zero_bit zero = refl
zero_bit (suc k) = zero_bit k

pub no_marks : Marks [] (replicate 8836 0)
unfolding met
no_marks = record { size = length-replicate {A = ℕ} 8836 0; marks = λ a b k h. rw (zeros 8836 (key_of a b)) (zero_bit k) }

-- ---- one reading more

-- a field that is no capability has no mark
pub other-marks : (r : Reading) (qs : List Reading) (t : List ℕ) → ((id : List ℕ) (k : ℕ) → matches id k r ≡ false) → Marks qs t → Marks (r ∷ qs) t
unfolding met
other-marks r qs t h m = record { size = m.size; marks = λ a b k n. rw (h (a ∷ b ∷ []) k) (m.marks a b k n) }

pub kind_small : (c : Content) → content_kind c ≤ 3
kind_small cancel = omega arith
kind_small flag = omega arith
kind_small (number n) = omega arith
kind_small (string l) = omega arith

id_byte_lem : (x : ℕ) → id_byte x ≡ true → (33 ≤ x) × (x ≤ 126)
unfolding id_byte
id_byte_lem x e =
    let w = both_true (leb 33 x) (leb x 126) (both_true (between 33 126 x) _ e).0 in
    (leb-true 33 x w.0, leb-true x 126 w.1)

-- an id has a place for each kind and a cancel
pub id_placed : (a b k : ℕ) → id_bytes a b ≡ true → k ≤ 3 → has_entry a b k ≡ true
unfolding id_bytes
id_placed a b k e h =
    let w = both_true (id_byte a) (id_byte b) (both_true (both (id_byte a) (id_byte b)) _ e).0 in
    let x = id_byte_lem a w.0 in
    let y = id_byte_lem b w.1 in
    entry_kind a b k x.0 x.1 y.0 y.1 ∙ le-leb k 3 h

module _ (text : List ℕ) (a b : ℕ) (c : Content) (reads : reading text ≡ capability a b c) where
  -- so has a capability that was read
  pub placed : (k : ℕ) → k ≤ 3 → has_entry a b k ≡ true
  placed k h = id_placed a b k (reading-entered text a b c reads).id h

  module _ (qs : List Reading) (t : List ℕ) (m : Marks qs t) where
    is : has_entry a b (content_kind c) ≡ true
    is = placed (content_kind c) (kind_small c)

    abbrev after : List ℕ
    after = set t (key_of a b) (with_bit (content_kind c) (get_or t (key_of a b) 0))

    marked_as : (x y k : ℕ) → has_entry x y k ≡ true → bit_of k (get_or after (key_of x y) 0) ≡ bit (met (x ∷ y ∷ []) k (capability a b c ∷ qs))
    unfolding met matches
    marked_as x y k p =
        bit-after t a b (content_kind c) x y k m.size (entry a b (content_kind c) is) (entry x y k p)
        ∙ rw (m.marks x y k p) (go (both (same (x ∷ y ∷ []) (a ∷ b ∷ [])) (eqb k (content_kind c))) (met (x ∷ y ∷ []) k qs))
      where
        go : (here before : Bool) → pick here 1 (bit before) ≡ bit (either here before)
        go true before = refl
        go false before = refl

    pub capability-marks : Marks (capability a b c ∷ qs) (marked t a b (content_kind c))
    unfolding marked
    capability-marks = rw is (record { size = simp length-set m.size; marks = marked_as })

    pub first_open : is_first t a b (content_kind c) ≡ not (hidden qs (capability a b c))
    unfolding is_first is_open
    first_open =
        rw (is, m.marks a b 0 (placed 0 (omega arith)), m.marks a b (content_kind c) is, hidden-capability qs a b c)
        (rw (stopped_met (a ∷ b ∷ []) (content_kind c) qs, bit_is (met (a ∷ b ∷ []) 0 qs), bit_is (met (a ∷ b ∷ []) (content_kind c) qs)))
      where
        bit_is : (x : Bool) → eqb (bit x) 1 ≡ x
        bit_is true = refl
        bit_is false = refl
