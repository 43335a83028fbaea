-- The digits of an octal escape, read one by one.
-- Assumes nothing.
use Prim.Native.Nat.{ℕ, ◌+◌, ◌-◌, ◌*◌, ◌≤◌, ◌<◌}
use mathlib.Core.Path.{◌≡◌, refl, sym, ◌∙◌}
use mathlib.Core.Bool.{true}
use mathlib.Core.List.{List, [], ◌∷◌}
use native.Mathlib.Omega.{arith}
use borrow.Author.Tests.{le-leb, lt-leb}
use lib.ListN.{length}
use Rattle.spec.specs.Digits.{is_digit}
use Rattle.spec.specs.Strings.{one_digit, slash, decode}
use Rattle.laws.proofs.DigitBytes.{digit_is, digit_not}
use Rattle.laws.proofs.DigitReading.{ReadSoFar, read_none, read_more, read_below}
use Rattle.laws.proofs.FieldSteps.{decode_first}
use Rattle.laws.proofs.OctalEscapes.{octal_escape, octal-end, octal-other}
use Rattle.field_bounds.specs.Answers.{field_at, Passed}
use Rattle.field_bounds.proofs.FieldBytes.{passed_over}
use Rattle.escapes.specs.Steps.{TextBegins}
use Rattle.escapes.specs.declared.TextStep.TheVariants.{Byte, Bad}

-- Of the escape with this first digit, before the place `at`, k digits are read up to the place `i`, with the value v.
pub record EscapeRead (s : List ℕ) (at first i k v : ℕ) : Type 0 where
  pub octal : is_digit 8 first ≡ true
  pub some : 0 < k
  pub few : k ≤ 3
  pub digits : ReadSoFar 8 (first ∷ field_at s at) (field_at s i) k v
  pub onward : at + k ≤ i + 1
  pub within : 1 < k → i ≤ length s
  pub passed : (p : ℕ) → Passed s p at 2 → Passed s p i (k + 1)

pub escape_first : (s : List ℕ) (at first : ℕ) → is_digit 8 first ≡ true → EscapeRead s at first at 1 (first - 48)
escape_first s at first d =
    let value : 0 * 8 + (first - 48) ≡ first - 48 = omega arith in
    let one = read_more 8 _ _ 0 0 (read_none 8 (first ∷ field_at s at)) first (field_at s at) refl d in
    record {
      octal = d;
      some = omega arith;
      few = omega arith;
      digits = rw value at one;
      onward = omega arith;
      within = λ h. absurd (omega arith);
      passed = λ p q. q;
    }

module _ (s : List ℕ) (at first i k v : ℕ) (q : EscapeRead s at first i k v) where
  pub escape_small : v < 512
  escape_small = read_below 8 _ _ k v q.digits 3 q.few (omega arith)

  -- the mode after the first digit
  mode : decode (one_digit (first - 48)) (field_at s at) ≡ decode slash (first ∷ field_at s at)
  mode = sym (decode_first first (field_at s at) q.octal)

  module _ (b n : ℕ) (e : field_at s i ≡ b ∷ field_at s n) (h : k < 3) where
    pub escape_more : i < n → n ≤ length s → Passed s i n 1 → 48 ≤ b → b ≤ 55 → EscapeRead s at first n (k + 1) (v * 8 + (b - 48))
    escape_more on within p low high = record {
      octal = q.octal;
      some = omega arith;
      few = omega arith;
      digits = read_more 8 _ _ k v q.digits b (field_at s n) e (digit_is 8 b low (omega arith));
      onward = omega (arith, q.onward);
      within = λ l. within;
      passed = λ o w. passed_over s o i n (k + 1) 1 (q.passed o w) p;
    }

    pub escape_other : ((48 ≤ b) × (b ≤ 55) → ⊥) → TextBegins (one_digit (first - 48)) s at Bad
    escape_other other = mode ∙ octal-other k v _ _ q.digits q.some h b (field_at s n) e (digit_not 8 b (λ w. other (w.0, omega (arith, w.1))))

  pub escape_end : field_at s i ≡ [] → k < 3 → TextBegins (one_digit (first - 48)) s at Bad
  escape_end e h = mode ∙ octal-end k v _ _ q.digits q.some h e

  module _ (h : 3 ≤ k) where
    three : ReadSoFar 8 (first ∷ field_at s at) (field_at s i) 3 v
    three = let is : k ≡ 3 = omega (arith, q.few) in rw is at q.digits

    pub escape_large : 255 < v → TextBegins (one_digit (first - 48)) s at Bad
    escape_large l = mode ∙ octal_escape v _ _ three ∙ rw (lt-leb v 255 l)

    pub escape_byte : v ≤ 255 → TextBegins (one_digit (first - 48)) s at (Byte v i 4)
    escape_byte l =
        let all : k + 1 ≡ 4 = omega (arith, q.few) in
        (mode ∙ octal_escape v _ _ three ∙ rw (le-leb v 255 l), omega (arith, q.onward), q.within (omega arith), λ p o. rw all at (q.passed p o))
