-- A number's digits read one by one, in the base that the definition gives them.
-- Assumes nothing.
use Prim.Native.Nat.{ℕ, ◌+◌, ◌-◌, ◌*◌, ◌^◌, ◌≤◌, ◌<◌}
use mathlib.Core.Path.{◌≡◌, sym, ◌∙◌, ap}
use mathlib.Core.Bool.{true, false}
use mathlib.Core.List.{List, [], ◌∷◌}
use native.Mathlib.Nat.{pow-le-pow_left}
use native.Mathlib.Omega.{arith}
use borrow.Author.Tests.{le-leb, lt-leb, eq-eqb, ne_eqb}
use lib.Dec.{eqb, leb}
use lib.ListN.{length}
use Rattle.spec.specs.Choice.{between}
use Rattle.spec.specs.Digits.{is_digit, are_digits, value_from}
use Rattle.spec.specs.Fields.{number_base, number_value, good_number}
use Rattle.laws.proofs.DigitReading.{ReadSoFar, read_none, read_more, read_below, read_digits, read_value_lem}
use Rattle.laws.proofs.Tests.{both_false, pick_all}
use Rattle.field_bounds.specs.Answers.{field_at, Passed}
use Rattle.field_bounds.proofs.FieldBytes.{passed_none, passed_over}

-- ---- the base: "two or more digits starting with 0"

-- The laws below need no more of it than that it is from 1 to 10.
base_range : (l : List ℕ) → (0 < number_base l) × (number_base l ≤ 10)
unfolding number_base
base_range [] = (omega arith, omega arith)
base_range (c ∷ []) = (omega arith, omega arith)
base_range (c ∷ d ∷ l) = pick_all (λ (base : ℕ). (0 < base) × (base ≤ 10)) (eqb c 48) (omega arith, omega arith) (omega arith, omega arith)

pub base_none : (l : List ℕ) → l ≡ [] → 10 ≡ number_base l
unfolding number_base
base_none l e = rw e

pub base_other : (l k : List ℕ) (c : ℕ) → l ≡ c ∷ k → (c ≡ 48 → ⊥) → 10 ≡ number_base l
unfolding number_base
base_other l [] c e h = rw e
base_other l (d ∷ k) c e h = rw (e, ne_eqb c 48 h)

module _ (l k : List ℕ) (c : ℕ) (e : l ≡ c ∷ k) where
  pub base_one : k ≡ [] → 10 ≡ number_base l
  unfolding number_base
  base_one f = rw (e, f)

  pub base_octal : c ≡ 48 → (d : ℕ) (m : List ℕ) → k ≡ d ∷ m → 8 ≡ number_base l
  unfolding number_base
  base_octal h d m f = rw (e, f, eq-eqb c 48 h)

-- ---- the digits

-- The digits of the field at `at` up to the place `i` are `k`, with the value `v`, in the base that the definition gives the field.
pub record Counted (base : ℕ) (s : List ℕ) (at i k v : ℕ) : Type 0 where
  pub few : k ≤ 6
  pub in_base : number_base (field_at s at) ≡ base
  pub passed : Passed s at i k
  pub read : ReadSoFar base (field_at s at) (field_at s i) k v

pub counted_none : (base : ℕ) (s : List ℕ) (at : ℕ) → base ≡ number_base (field_at s at) → Counted base s at at 0 0
counted_none base s at e = record {
  few = omega arith;
  in_base = sym e;
  passed = passed_none s at;
  read = read_none base (field_at s at);
}

-- ---- what is no number

bad-length : (l : List ℕ) → between 1 6 (length l) ≡ false → good_number l ≡ false
unfolding good_number
bad-length l e = rw e

bad_digit : (l : List ℕ) → are_digits (number_base l) l ≡ false → good_number l ≡ false
unfolding good_number
bad_digit l e = rw (e, both_false (between 1 6 (length l)))

bad-value : (l : List ℕ) → 65535 < number_value l → good_number l ≡ false
unfolding good_number
bad-value l h = rw (lt-leb (number_value l) 65535 h, both_false (are_digits (number_base l) l), both_false (between 1 6 (length l)))

long : (l : List ℕ) → 6 < length l → between 1 6 (length l) ≡ false
long l h = rw (lt-leb (length l) 6 h, both_false (leb 1 (length l)))

-- at most six digits, in a base of at most ten
counted-small : (base : ℕ) (s : List ℕ) (at i k v : ℕ) → Counted base s at i k v → v < 1000000
counted-small base s at i k v q =
    let range = rw q.in_base at (base_range (field_at s at)) in
    let below : v < base ^ 6 = read_below base _ _ k v q.read 6 q.few range.0 in
    let top : base ^ 6 ≤ 10 ^ 6 = pow-le-pow_left range.1 6 in
    omega arith

module _ (base : ℕ) (s : List ℕ) (at i k v : ℕ) (q : Counted base s at i k v) where
  module _ (b n : ℕ) (e : field_at s i ≡ b ∷ field_at s n) where
    pub counted_long : 6 ≤ k → good_number (field_at s at) ≡ false
    counted_long h = bad-length (field_at s at) (long (field_at s at) (omega (arith, q.passed.count, ap length e)))

    pub counted_not : is_digit base b ≡ false → good_number (field_at s at) ≡ false
    unfolding are_digits
    counted_not d = bad_digit (field_at s at) (rw q.in_base (read_digits base _ _ k v q.read ∙ rw (e, d)))

    pub counted_on : Passed s i n 1 → is_digit base b ≡ true → k < 6 → Counted base s at n (k + 1) (v * base + (b - 48))
    counted_on p d h = record {
      few = omega arith;
      in_base = q.in_base;
      passed = passed_over s at i n k 1 q.passed p;
      read = read_more base _ _ k v q.read b (field_at s n) e d;
    }

    -- the value with one digit more is as small
    pub counted-room : Passed s i n 1 → is_digit base b ≡ true → k < 6 → v * base + (b - 48) < 1000000
    counted-room p d h = counted-small base s at n (k + 1) (v * base + (b - 48)) (counted_on p d h)

  module _ (e : field_at s i ≡ []) where
    counted-value : number_value (field_at s at) ≡ v
    unfolding number_value value_from
    counted-value = rw q.in_base (read_value_lem base _ _ k v q.read ∙ rw e)

    pub counted_empty : k ≡ 0 → good_number (field_at s at) ≡ false
    counted_empty h =
        let none : length (field_at s at) ≡ 0 = omega (arith, q.passed.count, ap length e) in
        bad-length (field_at s at) (rw none)

    pub counted_large : 65535 < v → good_number (field_at s at) ≡ false
    counted_large h = bad-value (field_at s at) (rw counted-value h)

    pub counted-good : (k ≡ 0 → ⊥) → v ≤ 65535 → (good_number (field_at s at) ≡ true) × (number_value (field_at s at) ≡ v)
    unfolding good_number are_digits
    counted-good h m =
        let all : are_digits (number_base (field_at s at)) (field_at s at) ≡ true = rw q.in_base (read_digits base _ _ k v q.read ∙ rw e) in
        let length-is : length (field_at s at) ≡ k = omega (arith, q.passed.count, ap length e) in
        (rw (all, counted-value, length-is, le-leb v 65535 m, le-leb k 6 q.few, le-leb 1 k (omega arith)), counted-value)
