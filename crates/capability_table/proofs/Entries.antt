-- The places of the table, and the bits of a byte.
-- Assumes nothing.
use Prim.Native.Nat.{ℕ, zero, suc, ◌+◌, ◌*◌, ◌/◌, ◌%◌, ◌^◌, ◌≤◌, ◌<◌}
use mathlib.Core.Path.{◌≡◌, refl, ◌∙◌, ap, sym}
use mathlib.Core.Bool.{Bool, true, false}
use mathlib.Core.List.{List, [], ◌∷◌}
use native.Mathlib.Omega.{arith}
use borrow.Author.Tests.{eqb-true, eqb-false, eq-eqb, leb-true, le-leb}
use lib.Dec.{eqb, leb}
use Rattle.std.specs.Int.{bit_at}
use Rattle.std.specs.Int.Bits.{bit_and, bit_or, or_zero_r}
use Rattle.std.proofs.lemmas.Nat.{one_shl, or_block}
use Rattle.std.proofs.lemmas.Nat.Bits.{shr_and_one, bit_at-suc, bit_at_lowest}
use lib.ListN.{length, get_or, set}
use lib.Seq.{get_or-set_same, get_or-set_other}
use Rattle.spec.specs.Choice.{pick, both, between}
use Rattle.spec.specs.Lists.{same}
use Rattle.laws.proofs.Tests.{clash, both_true}
use Rattle.laws.proofs.WholeLines.{same_equal, equal_same}
use Rattle.spec.specs.Fields.{kind_number}
use Rattle.spec.specs.declared.Kind.{Kind}
use Rattle.spec.specs.declared.Kind.TheVariants.{Flag, Number, String}
use Rattle.capability_table.specs.Table.{has_entry, key_of, bit_of, with_bit}
use Rattle.capability_table.specs.Answers.{value_key}

-- ---- a name and the number of a kind that the table has a place for

pub record Entry (a b k : ℕ) : Type 0 where
  pub first_low : 33 ≤ a
  pub first_high : a ≤ 126
  pub second_low : 33 ≤ b
  pub second_high : b ≤ 126
  pub kind : k ≤ 3

module _ (a b k : ℕ) where
  pub entry : has_entry a b k ≡ true → Entry a b k
  unfolding has_entry
  entry e =
      let w = both_true (both (between 33 126 a) (between 33 126 b)) (leb k 3) e in
      let n = both_true (between 33 126 a) (between 33 126 b) w.0 in
      let x = both_true (leb 33 a) (leb a 126) n.0 in
      let y = both_true (leb 33 b) (leb b 126) n.1 in
      record {
        first_low = leb-true 33 a x.0;
        first_high = leb-true a 126 x.1;
        second_low = leb-true 33 b y.0;
        second_high = leb-true b 126 y.1;
        kind = leb-true k 3 w.1;
      }

  pub entry_kind : 33 ≤ a → a ≤ 126 → 33 ≤ b → b ≤ 126 → has_entry a b k ≡ leb k 3
  unfolding has_entry
  entry_kind h i j l = rw (le-leb 33 a h, le-leb a 126 i, le-leb 33 b j, le-leb b 126 l)

-- each has a place in the table, and none another's
pub key_inside : (a b k : ℕ) → Entry a b k → key_of a b < 8836
key_inside a b k n = omega (arith, n.first_low, n.first_high, n.second_low, n.second_high)

-- a value's place: that of the kind, then that of the name
pub kind_some : (k : Kind) → 1 ≤ kind_number k
kind_some Flag = omega arith
kind_some Number = omega arith
kind_some String = omega arith

pub value-inside : (a b k : ℕ) → Entry a b k → value_key a b k < 26508
value-inside a b k n = omega (arith, key_inside a b k n, n.kind)

module _ (a b k x y j : ℕ) (n : Entry a b k) (m : Entry x y j) (e : key_of a b ≡ key_of x y) where
  key_first : a ≡ x
  key_first = omega (arith, n.first_low, n.second_low, n.second_high, m.first_low, m.second_low, m.second_high)

  key_second : b ≡ y
  key_second = omega (arith, key_first, n.first_low, n.second_low, n.second_high, m.first_low, m.second_low, m.second_high)

module _ (a b k x y j : ℕ) (n : Entry a b k) (m : Entry x y j) where
  same_names : same (x ∷ y ∷ []) (a ∷ b ∷ []) ≡ true → key_of x y ≡ key_of a b
  same_names u =
      let i = same_equal (x ∷ y ∷ []) (a ∷ b ∷ []) u in
      let f : x ≡ a = cc in
      let g : y ≡ b = cc in
      rw (f, g)

  key_same : key_of x y ≡ key_of a b → same (x ∷ y ∷ []) (a ∷ b ∷ []) ≡ true
  key_same q = equal_same (x ∷ y ∷ []) (a ∷ b ∷ []) (rw (key_first a b k x y j n m (sym q), key_second a b k x y j n m (sym q)))

  other-names : same (x ∷ y ∷ []) (a ∷ b ∷ []) ≡ false → key_of x y ≡ key_of a b → ⊥
  other-names u q = clash (sym (key_same q) ∙ u)

  -- a value's place is that of one name and one kind
  pub same-value : both (same (x ∷ y ∷ []) (a ∷ b ∷ [])) (eqb j k) ≡ true → value_key x y j ≡ value_key a b k
  same-value u =
      let w = both_true (same (x ∷ y ∷ []) (a ∷ b ∷ [])) (eqb j k) u in
      omega (arith, same_names w.0, eqb-true j k w.1)

  pub other-value : 1 ≤ k → 1 ≤ j → both (same (x ∷ y ∷ []) (a ∷ b ∷ [])) (eqb j k) ≡ false → value_key x y j ≡ value_key a b k → ⊥
  other-value h i u q =
      let p = key_inside a b k n in
      let r = key_inside x y j m in
      clash (sym (rw (key_same (omega arith), eq-eqb j k (omega arith))) ∙ u)

-- a store at one place, read at another, by a test that tells the two apart
pub stored_at : (t : List ℕ) (i j v : ℕ) (s : Bool) → i < length t → (s ≡ true → j ≡ i) → (s ≡ false → j ≡ i → ⊥)
    → get_or (set t i v) j 0 ≡ pick s v (get_or t j 0)
stored_at t i j v true h e d = rw (e refl) (get_or-set_same t i v 0 h)
stored_at t i j v false h e d = get_or-set_other t i j v 0 (d refl)

-- ---- bits

bit-same : (k x : ℕ) → bit_of k (with_bit k x) ≡ 1
unfolding bit_of with_bit
bit-same zero x = omega arith
bit-same (suc k) x =
    let e : (with_bit k (x / 2) * 2 + x % 2) / 2 ≡ with_bit k (x / 2) = omega arith in
    rw e (bit-same k (x / 2))

bit-other : (j k x : ℕ) → (j ≡ k → ⊥) → bit_of j (with_bit k x) ≡ bit_of j x
unfolding bit_of with_bit
bit-other zero zero x h = absurd (h refl)
bit-other zero (suc k) x h = omega arith
bit-other (suc j) zero x h =
    let e : (x / 2 * 2 + 1) / 2 ≡ x / 2 = omega arith in
    rw e
bit-other (suc j) (suc k) x h =
    let e : (with_bit k (x / 2) * 2 + x % 2) / 2 ≡ with_bit k (x / 2) = omega arith in
    rw e (bit-other j k (x / 2) (λ q. h (ap suc q)))

-- a bit as the code reads it, and sets it
pub bit_shifted : (k x : ℕ) → bit_and (x / 2 ^ k) 1 ≡ bit_of k x
unfolding bit_of
bit_shifted k x = shr_and_one x k ∙ go k x
  where
    go : (k x : ℕ) → bit_at x k ≡ bit_of k x
    go zero x = bit_at_lowest x
    go (suc k) x = bit_at-suc x k ∙ go k (x / 2)

set_power : (k x : ℕ) → bit_or x (2 ^ k) ≡ with_bit k x
unfolding with_bit
set_power zero x = ap (λ (n : ℕ). bit_or n 1) parts ∙ or_block 1 (x / 2) 0 (x % 2) 1 (omega arith) (omega arith)
    ∙ rw or_zero_r (ap (λ (n : ℕ). x / 2 * 2 + n) (low (x % 2) (omega arith)))
  where
    parts : x ≡ x / 2 * 2 + x % 2
    parts = omega arith

    low : (n : ℕ) → n < 2 → bit_or n 1 ≡ 1
    low zero h = refl
    low (suc zero) h = refl
    low (suc (suc n)) h = absurd (omega arith)
set_power (suc k) x =
    ap (λ (n : ℕ). bit_or n (2 ^ suc k)) parts ∙ ap (bit_or (x / 2 * 2 + x % 2)) power ∙ or_block 1 (x / 2) (2 ^ k) (x % 2) 0 (omega arith) (omega arith)
    ∙ rw (or_zero_r (x % 2), set_power k (x / 2))
  where
    parts : x ≡ x / 2 * 2 + x % 2
    parts = omega arith

    power : 2 ^ suc k ≡ 2 ^ k * 2 + 0
    power = omega arith

pub bit_set : (k x : ℕ) → k ≤ 3 → bit_or x (1 * 2 ^ k % 256) ≡ with_bit k x
bit_set k x h = ap (bit_or x) (one_shl k 8 (omega arith)) ∙ set_power k x

-- a bit set for one name and number, read for another
pub bit-after : (t : List ℕ) (a b k x y j : ℕ) → length t ≡ 8836 → Entry a b k → Entry x y j
    → bit_of j (get_or (set t (key_of a b) (with_bit k (get_or t (key_of a b) 0))) (key_of x y) 0)
    ≡ pick (both (same (x ∷ y ∷ []) (a ∷ b ∷ [])) (eqb j k)) 1 (bit_of j (get_or t (key_of x y) 0))
bit-after t a b k x y j size n m =
    ap (bit_of j)
    (stored_at t (key_of a b) (key_of x y) _ (same (x ∷ y ∷ []) (a ∷ b ∷ [])) (omega (arith, key_inside a b k n)) (same_names a b k x y j n m)
    (other-names a b k x y j n m))
    ∙ names (same (x ∷ y ∷ []) (a ∷ b ∷ [])) refl
  where
    kinds : (e : Bool) → eqb j k ≡ e → bit_of j (with_bit k (get_or t (key_of a b) 0)) ≡ pick e 1 (bit_of j (get_or t (key_of a b) 0))
    kinds true v = rw (eqb-true j k v) (bit-same k (get_or t (key_of a b) 0))
    kinds false v = bit-other j k (get_or t (key_of a b) 0) (eqb-false j k v)

    names : (s : Bool) → same (x ∷ y ∷ []) (a ∷ b ∷ []) ≡ s
        → bit_of j (pick s (with_bit k (get_or t (key_of a b) 0)) (get_or t (key_of x y) 0)) ≡ pick (both s (eqb j k)) 1 (bit_of j (get_or t (key_of x y) 0))
    names true u = rw (same_names a b k x y j n m u) (kinds (eqb j k) refl)
    names false u = refl
