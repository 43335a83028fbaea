-- Names and ids by their bytes, as a reader of a field meets them.
-- Assumes nothing.
use Prim.Native.Nat.{ℕ, ◌+◌, ◌≤◌, ◌<◌}
use mathlib.Core.Path.{◌≡◌, ◌∙◌, ap}
use mathlib.Core.Bool.{true, false}
use mathlib.Core.List.{List, [], ◌∷◌}
use mathlib.Core.Logic.{◌⊎◌, inl, inr}
use native.Mathlib.Omega.{arith}
use borrow.Author.Tests.{ne_eqb, le-leb, lt-leb}
use lib.Dec.{leb}
use lib.ListN.{length}
use Rattle.spec.specs.Choice.{between}
use Rattle.spec.specs.Lines.{blank}
use Rattle.spec.specs.Refusals.{name_byte, name_bytes, good_name, id_byte, id_bytes}
use Rattle.laws.proofs.FieldSteps.{outside}
use Rattle.laws.proofs.Tests.{both_false}
use Rattle.field_bounds.specs.Answers.{field_at, Passed}
use Rattle.field_bounds.proofs.FieldBytes.{passed_over}

-- ---- one byte

pub id_outside : (b : ℕ) → ((33 ≤ b) × (b ≤ 126) → ⊥) → id_byte b ≡ false
unfolding id_byte
id_outside b h = rw (outside 33 126 b h)

-- ---- an id

pub id_first : (a b : ℕ) → id_byte a ≡ false → id_bytes a b ≡ false
unfolding id_bytes
id_first a b e = rw e

-- ---- a name: `k` good bytes of the field at `at` were passed up to the place `i`

pub record Named (s : List ℕ) (at i k : ℕ) : Type 0 where
  pub few : k ≤ 64
  pub passed : Passed s at i k
  pub bytes : name_bytes (field_at s at) ≡ name_bytes (field_at s i)

good-short : (n : List ℕ) → length n ≡ 0 → good_name n ≡ false
unfolding good_name
good-short n e = rw e

good_long : (n : List ℕ) → 64 < length n → good_name n ≡ false
unfolding good_name
good_long n h = rw (lt-leb (length n) 64 h, both_false (leb 1 (length n)))

good_not : (n : List ℕ) → name_bytes n ≡ false → good_name n ≡ false
unfolding good_name
good_not n e = rw (e, both_false (between 1 64 (length n)))

good_is : (n : List ℕ) → 1 ≤ length n → length n ≤ 64 → name_bytes n ≡ true → good_name n ≡ true
unfolding good_name
good_is n h k e = rw (e, le-leb (length n) 64 k, le-leb 1 (length n) h)

module _ (s : List ℕ) (at i k : ℕ) (q : Named s at i k) where
  module _ (b n : ℕ) (e : field_at s i ≡ b ∷ field_at s n) where
    pub named_long : 64 ≤ k → good_name (field_at s at) ≡ false
    named_long h = good_long (field_at s at) (omega (arith, q.passed.count, ap length e))

    pub named_not : name_byte b ≡ false → good_name (field_at s at) ≡ false
    unfolding name_bytes
    named_not h = good_not (field_at s at) (q.bytes ∙ rw (e, h))

    pub named_on : Passed s i n 1 → name_byte b ≡ true → k < 64 → Named s at n (k + 1)
    unfolding name_bytes
    named_on p h m = record {
      few = omega arith;
      passed = passed_over s at i n k 1 q.passed p;
      bytes = q.bytes ∙ rw (e, h);
    }

  module _ (e : field_at s i ≡ []) where
    pub named_empty : k ≡ 0 → good_name (field_at s at) ≡ false
    named_empty h = good-short (field_at s at) (omega (arith, q.passed.count, ap length e))

    pub named_done : (k ≡ 0 → ⊥) → good_name (field_at s at) ≡ true
    unfolding name_bytes
    named_done h =
        let size : length (field_at s at) ≡ k = omega (arith, q.passed.count, ap length e) in
        good_is (field_at s at) (omega arith) (omega (arith, q.few)) (q.bytes ∙ rw e)

-- ---- blanks

module _ (b : ℕ) (l : List ℕ) where
  pub blank-next : (b ≡ 9) ⊎ (b ≡ 32) → blank (b ∷ l) ≡ blank l
  unfolding blank
  blank-next (inl e) = rw (e)
  blank-next (inr e) = rw (e)

  pub blank-stops : ((b ≡ 9) ⊎ (b ≡ 32) → ⊥) → blank (b ∷ l) ≡ false
  unfolding blank
  blank-stops h = rw (ne_eqb b 32 (λ e. h (inr e)), ne_eqb b 9 (λ e. h (inl e)))

-- Only blanks of the field at `at` were passed up to the place `i`: `k` bytes with the one before `at`.
pub record Blanks (s : List ℕ) (at i k : ℕ) : Type 0 where
  pub few : k ≤ i
  pub same : blank (field_at s at) ≡ blank (field_at s i)
  pub passed : (start : ℕ) → Passed s start at 1 → Passed s start i k

module _ (s : List ℕ) (at i k : ℕ) (q : Blanks s at i k) (b n : ℕ) (e : field_at s i ≡ b ∷ field_at s n) where
  pub blanks_on : i < n → Passed s i n 1 → (b ≡ 9) ⊎ (b ≡ 32) → Blanks s at n (k + 1)
  blanks_on h p w = record {
    few = omega (arith, q.few);
    same = q.same ∙ rw e (blank-next b _ w);
    passed = λ start o. passed_over s start i n k 1 (q.passed start o) p;
  }

  pub blanks_not : ((b ≡ 9) ⊎ (b ≡ 32) → ⊥) → blank (field_at s at) ≡ false
  blanks_not h = q.same ∙ rw e (blank-stops b _ h)

pub blanks_all : (s : List ℕ) (at i k : ℕ) → Blanks s at i k → field_at s i ≡ [] → blank (field_at s at) ≡ true
unfolding blank
blanks_all s at i k q e = q.same ∙ rw e
