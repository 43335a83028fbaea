-- Digits read one by one, once over the base and over how many were read. Numbers, the digits of padding and octal escapes are read by it.
-- Assumes nothing.
use Prim.Native.Nat.{ℕ, ◌+◌, ◌-◌, ◌*◌, ◌^◌, ◌≤◌, ◌<◌}
use mathlib.Core.Path.{◌≡◌, refl, sym, ap, ◌∙◌}
use mathlib.Core.Bool.{true}
use mathlib.Core.List.{List, [], ◌∷◌, ◌++◌, append_assoc}
use native.Mathlib.Omega.{arith}
use lib.ListN.{length, length-append}
use Rattle.spec.specs.Digits.{is_digit, are_digits, value_from, value}
use Rattle.laws.proofs.Tests.{both_true}
use Rattle.laws.proofs.DigitLaws.{value-few}

-- ---- digits, and a text behind them

digits_append : (base : ℕ) (d s : List ℕ) → are_digits base d ≡ true → are_digits base (d ++ s) ≡ are_digits base s
unfolding are_digits
digits_append base [] s e = refl
digits_append base (c ∷ d) s e =
    let w = both_true (is_digit base c) (are_digits base d) e in
    rw w.0 (digits_append base d s w.1)

value-append : (base n : ℕ) (d s : List ℕ) → value_from base n (d ++ s) ≡ value_from base (value_from base n d) s
unfolding value_from
value-append base n [] s = refl
value-append base n (c ∷ d) s = value-append base (n * base + (c - 48)) d s

-- ---- THE LAW OF READING, digit by digit

-- The text l starts with k digits, whose value is v, and `rest` stands behind them.
pub record ReadSoFar (base : ℕ) (l rest : List ℕ) (k v : ℕ) : Type 0 where
  pub digits : List ℕ
  pub text : l ≡ digits ++ rest
  pub all : are_digits base digits ≡ true
  pub count : length digits ≡ k
  pub worth : value base digits ≡ v

pub read_none : (base : ℕ) (l : List ℕ) → ReadSoFar base l l 0 0
unfolding are_digits value_from
read_none base l = record { digits = []; text = refl; all = refl; count = refl; worth = refl }

module _ (base : ℕ) (l rest : List ℕ) (k v : ℕ) (q : ReadSoFar base l rest k v) where
  -- one digit more
  pub read_more : (c : ℕ) (s : List ℕ) → rest ≡ c ∷ s → is_digit base c ≡ true → ReadSoFar base l s (k + 1) (v * base + (c - 48))
  unfolding are_digits value_from
  read_more c s e d = record {
    digits = q.digits ++ c ∷ [];
    text = q.text ∙ ap (λ (r : List ℕ). q.digits ++ r) e ∙ sym (append_assoc q.digits (c ∷ []) s);
    all = digits_append base q.digits (c ∷ []) q.all ∙ rw d;
    count = length-append q.digits (c ∷ []) ∙ omega (arith, q.count);
    worth = value-append base 0 q.digits (c ∷ []) ∙ ap (λ (x : ℕ). x * base + (c - 48)) q.worth;
  }

  -- at most m digits are a number below base ^ m
  pub read_below : (m : ℕ) → k ≤ m → 0 < base → v < base ^ m
  read_below m h b = let few = value-few base m q.digits b q.all (omega (arith, q.count)) in rw q.worth at few

  -- what the whole text is, by what is left of it
  pub read_digits : are_digits base l ≡ are_digits base rest
  read_digits = ap (are_digits base) q.text ∙ digits_append base q.digits rest q.all

  pub read_value_lem : value base l ≡ value_from base v rest
  read_value_lem = ap (value base) q.text ∙ value-append base 0 q.digits rest ∙ ap (λ (x : ℕ). value_from base x rest) q.worth

  pub read_length : length l ≡ k + length rest
  read_length = ap length q.text ∙ length-append q.digits rest ∙ omega (arith, q.count)
