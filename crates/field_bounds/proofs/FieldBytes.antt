-- The bytes of a field and of a line at a place, as a reader meets them.
-- Assumes nothing.
use Prim.Native.Nat.{ℕ, ◌+◌, ◌<◌}
use mathlib.Core.Path.{◌≡◌, refl, ◌∙◌, ap}
use mathlib.Core.Bool.{true, false}
use mathlib.Core.List.{List, [], ◌∷◌}
use mathlib.Core.Logic.{◌⊎◌, inl, inr, ⊎_elim}
use native.Mathlib.Omega.{arith}
use borrow.Author.Tests.{eq-eqb, ne_eqb}
use lib.ListN.{length}
use Rattle.spec.specs.Lists.{holds, past}
use Rattle.spec.specs.Lines.{end, byte, text_at, line_text, line_at}
use Rattle.laws.proofs.TextSteps.{line-end, line_on}
use Rattle.laws.proofs.FieldSteps.{field_nil, field_end, field_on, past_here, past_on}
use Rattle.field_bounds.specs.Answers.{field_at, Passed}

-- ---- the field at a place, by what the text there starts with

module _ (s : List ℕ) (at b n : ℕ) (p : text_at s at ≡ byte b n (text_at s n)) where
  pub field_ends : (b ≡ 10) ⊎ (b ≡ 58) → field_at s at ≡ []
  unfolding line_at
  field_ends e = rw p (field_end b n _ e)

  pub field_goes : ((b ≡ 10) ⊎ (b ≡ 58) → ⊥) → field_at s at ≡ b ∷ field_at s n
  unfolding line_at
  field_goes h = rw p (field_on b n _ h)

pub field_over : (s : List ℕ) (at : ℕ) → text_at s at ≡ end → field_at s at ≡ []
unfolding line_at
field_over s at p = rw p field_nil

-- ---- the bytes passed from a place on

pub passed_none : (s : List ℕ) (at : ℕ) → Passed s at at 0
passed_none s at = record { onward = omega arith; count = omega arith; colon = refl; rest = refl }

pub passed_over : (s : List ℕ) (at i j n m : ℕ) → Passed s at i n → Passed s i j m → Passed s at j (n + m)
passed_over s at i j n m q p = record {
  onward = omega (arith, q.onward, p.onward);
  count = omega (arith, q.count, p.count);
  colon = q.colon ∙ p.colon;
  rest = q.rest ∙ p.rest;
}

pub passed-byte : (s : List ℕ) (at b n : ℕ) → text_at s at ≡ byte b n (text_at s n) → at < n → ((b ≡ 10) ⊎ (b ≡ 58) → ⊥) → Passed s at n 1
unfolding line_at holds
passed-byte s at b n p h r = record {
  onward = omega arith;
  count = omega (arith, ap length (field_goes s at b n p r));
  colon = rw (p, line_on b n (text_at s n) (λ e. r (inl e)), ne_eqb b 58 (λ e. r (inr e)));
  rest = rw p (past_on b n _ r);
}

-- ---- the next colon of a line: what was passed up to a place is n bytes without one

module _ (s : List ℕ) (at i n b j : ℕ) (q : Passed s at i n) (p : text_at s i ≡ byte b j (text_at s j)) (h : i < j) where
  pub passed_on : (b ≡ 10 → ⊥) → (b ≡ 58 → ⊥) → Passed s at j (n + 1)
  passed_on m k = passed_over s at i j n 1 q (passed-byte s i b j p h (λ e. ⊎_elim m k e))

  pub passed-colon : b ≡ 58 → (holds 58 (line_at s at) ≡ true) × (past 58 (line_at s at) ≡ line_at s j) × (length (field_at s at) ≡ n)
  unfolding line_at holds
  passed-colon e = (
    q.colon ∙ rw (p, line_on b j (text_at s j) (omega arith), eq-eqb b 58 e),
    q.rest ∙ rw p (past_here b j _ e),
    omega (arith, ap length (field_ends s i b j p (inr e)), q.count),
  )

  pub passed-newline : b ≡ 10 → (holds 58 (line_at s at) ≡ false) × (length (field_at s at) ≡ n)
  unfolding line_at holds
  passed-newline e = (q.colon ∙ rw (p, line-end b j (text_at s j) e), omega (arith, ap length (field_ends s i b j p (inl e)), q.count))

pub passed-end : (s : List ℕ) (at i n : ℕ) → Passed s at i n → text_at s i ≡ end → (holds 58 (line_at s at) ≡ false) × (length (field_at s at) ≡ n)
unfolding line_at holds line_text
passed-end s at i n q p = (q.colon ∙ rw p, omega (arith, ap length (field_over s i p), q.count))
