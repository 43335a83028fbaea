-- Digits there and back, once over the base and over the least width. Assumes nothing.
use mathlib.Core.Path.{◌≡◌, refl, sym, ap, ap₂, ◌∙◌}
use mathlib.Core.Bool.{Bool, true, false}
use mathlib.Core.List.{List, [], ◌∷◌, ◌++◌}
use Prim.Native.Nat.{ℕ, zero, suc, ◌+◌, ◌-◌, ◌*◌, ◌/◌, ◌%◌, ◌^◌, ◌≤◌, ◌<◌}
use native.Mathlib.Nat.{pow-zero, pow-suc, pow-le-pow_right, add-mul, mul_assoc, mul_comm, one-mul, zero-mul, add-zero, mul-le-mul_left}
use native.Mathlib.Nat.{mod-lt, mod-eq_of_lt, div-one, div-add-mod', div-div-eq-div-mul, le-div_iff_mul-le}
use native.Mathlib.Decide.{dec_lt}
use native.Mathlib.Omega.{arith}
use borrow.Author.Tests.{ltb-true, ltb-false}
use lib.Dec.{ltb}
use lib.Arith.{mod-mul, digits_lt, digits_div, digits_mod}
use lib.ListN.{length, get_or}
use Rattle.spec.specs.Choice.{pick}
use Rattle.laws.proofs.Tests.{both_true}
use Rattle.laws.proofs.DigitBytes.{digit_low, digit_high}
use Rattle.spec.specs.Digits.{is_digit, are_digits, value_from, value, spell, places, written, Fewest}

-- a power of a base above 0 is above 0
pub pow_above : (base k : ℕ) → 0 < base → 0 < base ^ k
pow_above base k h = let p : base ^ 0 ≤ base ^ k = pow-le-pow_right h (omega arith) in rw (pow-zero base) at p

-- one factor more is one power more
one_power : (n base k : ℕ) → n * base * base ^ k ≡ n * base ^ suc k
one_power n base k = mul_assoc n base (base ^ k) ∙ ap (λ (x : ℕ). n * x) (mul_comm base (base ^ k) ∙ sym (pow-suc base k))

-- ---- reading: what was spelled is read back, in any base

pub read_back : (base k acc n : ℕ) → 0 < base → n < base ^ k → value_from base acc (spell base k n) ≡ acc * base ^ k + n
unfolding value_from spell
read_back base zero acc n b h =
    let h' : n < 1 = rw pow-zero at h in
    rw pow-zero (omega arith)
read_back base (suc k) acc n b h =
    let above : 0 < base ^ k = pow_above base k b in
    let digit : 48 + n / base ^ k - 48 ≡ n / base ^ k = omega arith in
    let ih = read_back base k (acc * base + n / base ^ k) (n % base ^ k) b (mod-lt n above) in
    let sum : (acc * base + n / base ^ k) * base ^ k ≡ acc * base * base ^ k + n / base ^ k * base ^ k = add-mul (acc * base) (n / base ^ k) (base ^ k) in
    let turn = one_power acc base k in
    ap (λ (d : ℕ). value_from base (acc * base + d) (spell base k (n % base ^ k))) digit ∙ ih ∙ omega (arith, sum, turn, div-add-mod' n (base ^ k))

pub spell-length : (base k n : ℕ) → length (spell base k n) ≡ k
unfolding spell
spell-length base zero n = refl
spell-length base (suc k) n = ap suc (spell-length base k (n % base ^ k))

-- digits that were read before stand in front
pub value-from : (base acc : ℕ) (s : List ℕ) → value_from base acc s ≡ acc * base ^ length s + value base s
unfolding value_from
value-from base acc [] = rw pow-zero (omega arith)
value-from base acc (c ∷ s) =
    let here = value-from base (acc * base + (c - 48)) s in
    let there = value-from base (0 * base + (c - 48)) s in
    let one = add-mul (acc * base) (c - 48) (base ^ length s) in
    let two : (0 * base + (c - 48)) * base ^ length s ≡ (c - 48) * base ^ length s = rw zero-mul (ap (λ (x : ℕ). x * base ^ length s) (omega arith)) in
    let turn = one_power acc base (length s) in
    omega arith

value_first : (base c : ℕ) (s : List ℕ) → value base (c ∷ s) ≡ (c - 48) * base ^ length s + value base s
unfolding value_from
value_first base c s =
    let none : 0 * base + (c - 48) ≡ c - 48 = rw zero-mul (omega arith) in
    ap (λ (x : ℕ). value_from base x s) none ∙ value-from base (c - 48) s

-- the last digit apart
pub spell_last : (base k n : ℕ) → 0 < base → n < base ^ suc k → spell base (suc k) n ≡ spell base k (n / base) ++ (48 + n % base) ∷ []
unfolding spell
spell_last base zero n b h =
    let low : n < base = rw (pow-suc, pow-zero, one-mul) at h in
    rw (pow-zero, div-one, mod-eq_of_lt low)
spell_last base (suc k) n b h =
    let above : 0 < base ^ k = pow_above base k b in
    let top : 0 < base ^ suc k = pow_above base (suc k) b in
    let first : n / base ^ suc k ≡ n / base / base ^ k = rw (pow-suc, mul_comm (base ^ k) base) (sym (div-div-eq-div-mul n base (base ^ k))) in
    let split : n % base ^ suc k ≡ (n / base % base ^ k) * base + n % base = rw pow-suc (mod-mul n above b) in
    let most : n % base ^ suc k / base ≡ n / base % base ^ k = rw split (digits_div (n / base % base ^ k) (mod-lt n b)) in
    let last : n % base ^ suc k % base ≡ n % base = rw split (digits_mod (n / base % base ^ k) (mod-lt n b)) in
    ap₂ (λ (x : ℕ) (l : List ℕ). (48 + x) ∷ l) first
    (spell_last base k (n % base ^ suc k) b (mod-lt n top) ∙ ap₂ (λ (x y : ℕ). spell base k x ++ (48 + y) ∷ []) most last)

-- fewest digits, and then no fewer than a width
pub fewest_at_least : (base least n d : ℕ) → 0 < base → Fewest base 0 n d → d ≤ least → Fewest base least n least
fewest_at_least base least n d b f l =
    let up : base ^ d ≤ base ^ least = pow-le-pow_right b l in
    (omega arith, omega (arith, f.1), λ k. absurd (omega arith))

pub fewest_above : (base least n d : ℕ) → Fewest base 0 n d → least ≤ d → Fewest base least n d
fewest_above base least n d f l = (l, f.1, λ k. f.2 (omega arith))

-- THE LAW OF READING, in any base: k digits are a number below base ^ k, and spelled in k digits that number is the same text
pub value-below : (base : ℕ) (s : List ℕ) → are_digits base s ≡ true → value base s < base ^ length s
unfolding are_digits value_from
value-below base [] e = rw pow-zero (omega arith)
value-below base (c ∷ s) e =
    let one = (both_true (is_digit base c) (are_digits base s) e).0 in
    let low = digit_low base c one in
    let high = digit_high base c one in
    let ih = value-below base s (both_true (is_digit base c) (are_digits base s) e).1 in
    let digit : c - 48 < base = omega arith in
    rw (value_first base c s, pow-suc, mul_comm (base ^ length s) base) (digits_lt digit ih)

-- and what is below a power is below a higher one, so no more than k digits are below base ^ k too
pub below_more : (base j k n : ℕ) → 0 < base → j ≤ k → n < base ^ j → n < base ^ k
below_more base j k n b h l = let up : base ^ j ≤ base ^ k = pow-le-pow_right b h in omega arith

pub value-few : (base k : ℕ) (s : List ℕ) → 0 < base → are_digits base s ≡ true → length s ≤ k → value base s < base ^ k
value-few base k s b e h = below_more base (length s) k (value base s) b h (value-below base s e)

pub spell-value : (base : ℕ) (s : List ℕ) → are_digits base s ≡ true → spell base (length s) (value base s) ≡ s
unfolding are_digits spell
spell-value base [] e = refl
spell-value base (c ∷ s) e =
    let one = (both_true (is_digit base c) (are_digits base s) e).0 in
    let low = digit_low base c one in
    let rest = (both_true (is_digit base c) (are_digits base s) e).1 in
    let below = value-below base s rest in
    let back : 48 + (c - 48) ≡ c = omega arith in
    rw (value_first base c s, digits_div (c - 48) below, digits_mod (c - 48) below, spell-value base s rest, back)

-- ---- writing: the fewest digits

lt_pow : (base n : ℕ) → 1 < base → n < base ^ n
lt_pow base zero h = rw pow-zero (omega arith)
lt_pow base (suc n) h =
    let ih = lt_pow base n h in
    let two : base ^ n * 2 ≤ base ^ n * base = mul-le-mul_left (base ^ n) h in
    rw pow-suc (omega arith)

pub places_fewest : (base more k n : ℕ) → n < base ^ (k + more) → Fewest base k n (places base more k n)
unfolding places
places_fewest base zero k n h = (omega arith, rw add-zero at h, λ l. absurd (omega arith))
places_fewest base (suc more) k n h =
    let more-is : k + suc more ≡ k + 1 + more = omega arith in
    go (ltb n (base ^ k)) refl (places_fewest base more (k + 1) n (rw more-is at h))
  where
    go : (t : Bool) → ltb n (base ^ k) ≡ t → Fewest base (k + 1) n (places base more (k + 1) n) → Fewest base k n (pick t k (places base more (k + 1) n))
    go true e ih = (omega arith, ltb-true n (base ^ k) e, λ l. absurd (omega arith))
    go false e ih = (omega (arith, ih.0), ih.1, λ l. last (dec_lt (k + 1) (places base more (k + 1) n)))
      where
        last : Dec (k + 1 < places base more (k + 1) n) → base ^ (places base more (k + 1) n - 1) ≤ n
        last (yes l) = ih.2 l
        last (no l) =
            let is : places base more (k + 1) n - 1 ≡ k = omega (arith, ih.0) in
            rw is (ltb-false n (base ^ k) e)

pub fewest_one : (base least n j k : ℕ) → 1 < base → Fewest base least n j → Fewest base least n k → j ≡ k
fewest_one base least n j k b f g = go (dec_lt j k) (dec_lt k j)
  where
    below : (x y : ℕ) → Fewest base least n x → Fewest base least n y → x < y → ⊥
    below x y p q l =
        let up : base ^ x ≤ base ^ (y - 1) = pow-le-pow_right (omega arith) (omega arith) in
        let high = q.2 (omega (arith, p.0)) in
        omega (arith, p.1)

    go : Dec (j < k) → Dec (k < j) → j ≡ k
    go (yes l) d = absurd (below j k f g l)
    go (no l) (yes m) = absurd (below k j g f m)
    go (no l) (no m) = omega arith

module _ (base least n : ℕ) (b : 1 < base) where
  pub written_fewest : Fewest base least n (length (written base least n))
  unfolding written
  written_fewest =
      let low : base ^ n ≤ base ^ (least + n) = pow-le-pow_right (omega arith) (omega arith) in
      let holds : n < base ^ (least + n) = omega (arith, lt_pow base n b) in
      rw spell-length (places_fewest base n least n holds)

  -- what a count of digits that is the fewest spells is what is written
  pub written_is : (k : ℕ) → Fewest base least n k → written base least n ≡ spell base k n
  unfolding written
  written_is k f =
      let w = written_fewest in
      let same : places base n least n ≡ k = fewest_one base least n (places base n least n) k b (rw spell-length at w) f in
      rw same

  -- THE LAW OF WRITING: it reads back as the number, it is no shorter than the width, and past the width it has no leading zero
  pub written_back : value base (written base least n) ≡ n
  unfolding written
  written_back =
      let w = written_fewest in
      let f : Fewest base least n (places base n least n) = rw spell-length at w in
      read_back base (places base n least n) 0 n (omega arith) f.1 ∙ omega (arith, zero-mul (base ^ places base n least n))

  pub written_least : least ≤ length (written base least n)
  written_least = written_fewest.0

  pub written_no_zero : least < length (written base least n) → get_or (written base least n) 0 0 ≡ 48 → ⊥
  unfolding written spell
  written_no_zero l e =
      let w = written_fewest in
      let f : Fewest base least n (places base n least n) = rw spell-length at w in
      first (places base n least n) f (rw spell-length at l) e
    where
      first : (k : ℕ) → Fewest base least n k → least < k → get_or (spell base k n) 0 0 ≡ 48 → ⊥
      first zero f l e = omega arith
      first (suc k) f l e =
          let same : suc k - 1 ≡ k = omega arith in
          let low : base ^ k ≤ n = rw same at (f.2 l) in
          let above : 0 < base ^ k = pow_above base k (omega arith) in
          let one : 1 ≤ n / base ^ k = (le-div_iff_mul-le above).1 (rw one-mul low) in
          omega arith

  -- and it is no longer than any count that holds the number and is no fewer than the width
  pub written-most : (k : ℕ) → least ≤ k → n < base ^ k → length (written base least n) ≤ k
  written-most k l h = go (dec_lt k (length (written base least n)))
    where
      go : Dec (k < length (written base least n)) → length (written base least n) ≤ k
      go (yes m) =
          let low : base ^ (length (written base least n) - 1) ≤ n = written_fewest.2 (omega arith) in
          let up : base ^ k ≤ base ^ (length (written base least n) - 1) = pow-le-pow_right (omega arith) (omega arith) in
          absurd (omega arith)
      go (no m) = omega arith
