-- A field's start compared byte by byte.
-- Assumes nothing.
use Prim.Native.Nat.{ℕ, ◌+◌, ◌≤◌, ◌<◌}
use mathlib.Core.Path.{◌≡◌, refl, ◌∙◌}
use mathlib.Core.Bool.{false}
use mathlib.Core.List.{List, [], ◌∷◌, ◌++◌, append_assoc}
use native.Mathlib.Numerals.{add-one}
use native.Mathlib.Omega.{arith}
use borrow.Author.Tests.{eq-eqb, ne_eqb}
use lib.ListN.{length, take, get_or}
use lib.Seq.{take-suc}
use Rattle.laws.proofs.TextSteps.{rest, drop-next}
use Rattle.field_bounds.specs.Answers.{field_at, Passed}
use Rattle.field_bounds.proofs.FieldBytes.{passed_none, passed_over}
use Rattle.fields.specs.Readings.{starts}

-- The first `k` bytes of the start were met up to the place `i`.
pub record Started (s : List ℕ) (at : ℕ) (start : List ℕ) (i k : ℕ) : Type 0 where
  pub few : k ≤ length start
  pub same : starts start (field_at s at) ≡ starts (rest start k) (field_at s i)
  pub read : field_at s at ≡ take k start ++ field_at s i
  pub passed : Passed s at i k

pub started_none : (s : List ℕ) (at : ℕ) (start : List ℕ) → Started s at start at 0
unfolding rest
started_none s at start = record { few = omega arith; same = refl; read = refl; passed = passed_none s at }

module _ (s : List ℕ) (at : ℕ) (start : List ℕ) (i k : ℕ) (q : Started s at start i k) where
  module _ (h : k < length start) where
    next_of : rest start k ≡ get_or start k 0 ∷ rest start (k + 1)
    unfolding rest
    next_of = drop-next start k h

    module _ (b n : ℕ) (e : field_at s i ≡ b ∷ field_at s n) where
      pub started_on : b ≡ get_or start k 0 → Passed s i n 1 → Started s at start n (k + 1)
      unfolding starts
      started_on f m =
          let first : take (k + 1) start ≡ take k start ++ (get_or start k 0 ∷ []) = rw add-one (take-suc start k 0 h) in
          record {
            few = omega arith;
            same = q.same ∙ rw (e, next_of, eq-eqb b (get_or start k 0) f);
            read = q.read ∙ rw (e, first, append_assoc, f);
            passed = passed_over s at i n k 1 q.passed m;
          }

      pub started_not : (b ≡ get_or start k 0 → ⊥) → starts start (field_at s at) ≡ false
      unfolding starts
      started_not f = q.same ∙ rw (e, next_of, ne_eqb b (get_or start k 0) f)

    pub started_short : field_at s i ≡ [] → starts start (field_at s at) ≡ false
    unfolding starts
    started_short e = q.same ∙ rw (e, next_of)
