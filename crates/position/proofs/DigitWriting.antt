-- Digits that are written from the last one on. Assumes nothing.
use mathlib.Core.Path.{◌≡◌, refl, ap, ◌∙◌}
use mathlib.Core.List.{List, [], ◌∷◌, ◌++◌, append_assoc}
use Prim.Native.Nat.{ℕ, suc, ◌+◌, ◌*◌, ◌/◌, ◌%◌, ◌^◌, ◌<◌, ◌≤◌}
use native.Mathlib.Numerals.{add-one}
use native.Mathlib.Omega.{arith}
use native.Mathlib.Nat.{pow-suc}
use lib.ListN.{length, set, length-set}
use lib.Seq.{sets, set_comm}
use Rattle.spec.specs.Digits.{spell, written, Fewest}
use Rattle.laws.proofs.DigitLaws.{spell_last, spell-length, written_is}

-- a byte in front of a stretch that is written already
pub set-sets : (out : List ℕ) (j k x : ℕ) (l : List ℕ) → j < k → set (sets out k l) j x ≡ sets (set out j x) k l
set-sets out j k x [] h = refl
set-sets out j k x (y ∷ l) h =
    let n : (k ≡ j → ⊥) = λ e. omega arith in
    set-sets (set out k y) j (suc k) x l (omega arith) ∙ ap (λ (o : List ℕ). sets o (suc k) l) (set_comm out k j y x n)

-- the digits from place i on are stored, and i digits of what is left of the number are to come
pub record Spelt (out₀ out : List ℕ) (at n k i left : ℕ) : Type 0 where
  pub inside : i ≤ k
  pub below : left < 10 ^ i
  pub behind : List ℕ
  pub spelled : spell 10 k n ≡ spell 10 i left ++ behind
  pub stored : out ≡ sets out₀ (at + i) behind
  pub same : length out ≡ length out₀

pub spelt_more : (out₀ out out' : List ℕ) (at n k i j left : ℕ) → Spelt out₀ out at n k i left → j + 1 ≡ i → out' ≡ set out (at + j) (48 + left % 10)
    → Spelt out₀ out' at n k j (left / 10)
spelt_more out₀ out out' at n k i j left s e o =
    let i-is : i ≡ suc j = omega arith in
    let below : left < 10 ^ suc j = rw i-is at s.below in
    let lower : left < 10 ^ j * 10 = rw pow-suc at below in
    let here : at + i ≡ suc (at + j) = omega arith in
    let stored : out ≡ sets out₀ (suc (at + j)) s.behind = rw here at s.stored in
    let spelled : spell 10 k n ≡ spell 10 (suc j) left ++ s.behind = rw i-is at s.spelled in
    record {
      inside = omega (arith, s.inside);
      below = omega arith;
      behind = (48 + left % 10) ∷ s.behind;
      spelled = spelled ∙ ap (λ (l : List ℕ). l ++ s.behind) (spell_last 10 j left (omega arith) below) ∙ append_assoc (spell 10 j (left / 10))
          ((48 + left % 10) ∷ []) s.behind;
      stored = o ∙ ap (λ (l : List ℕ). set l (at + j) (48 + left % 10)) stored ∙ set-sets out₀ (at + j) (suc (at + j)) (48 + left % 10) s.behind
          (omega arith);
      same = ap length o ∙ simp length-set s.same;
    }

pub spelt_all : (out₀ out : List ℕ) (at n k i left : ℕ) → Spelt out₀ out at n k i left → i ≡ 0 → out ≡ sets out₀ at (spell 10 k n)
unfolding spell
spelt_all out₀ out at n k i left s e =
    let spelled : spell 10 k n ≡ s.behind = rw e at s.spelled in
    let here : at + i ≡ at = omega arith in
    rw (here, ← spelled) at s.stored

-- a number in as few digits as hold it
pub number_is : (least n k : ℕ) → Fewest 10 least n k → written 10 least n ≡ spell 10 k n
number_is least n k f = written_is 10 least n (omega arith) k f

pub number-length : (least n k : ℕ) → Fewest 10 least n k → length (written 10 least n) ≡ k
number-length least n k f = ap length (number_is least n k f) ∙ spell-length 10 k n

pub two_stored : (out m o : List ℕ) (at x y : ℕ) → m ≡ set out at x → o ≡ set m (at + 1) y → o ≡ sets out at (x ∷ y ∷ [])
two_stored out m o at x y em eo = eo ∙ rw (em, add-one)

-- one digit, and two
spell_one : (n : ℕ) → n < 10 → spell 10 1 n ≡ (48 + n) ∷ []
unfolding spell
spell_one n h =
    let m : n % 10 ≡ n = omega arith in
    spell_last 10 0 n (omega arith) (omega arith) ∙ rw m

pub one_digit_lem : (least n : ℕ) → least ≡ 1 → n < 10 → written 10 least n ≡ (48 + n) ∷ []
one_digit_lem least n e h = number_is least n 1 (omega arith, omega arith, λ l. absurd (omega arith)) ∙ spell_one n h

pub two_digits_lem : (least n : ℕ) → least ≡ 1 → 10 ≤ n → n < 100 → written 10 least n ≡ (48 + n / 10) ∷ (48 + n % 10) ∷ []
two_digits_lem least n e l h =
    let q : n / 10 < 10 = omega arith in
    number_is least n 2 (omega arith, omega arith, λ k. omega arith) ∙ spell_last 10 1 n (omega arith) (omega arith) ∙ rw (spell_one (n / 10) q)
