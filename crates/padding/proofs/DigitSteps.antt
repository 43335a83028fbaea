-- The digits of a prefix, read byte by byte: a digit more, or the end of the digits. Assumes nothing.
use mathlib.Core.Path.{◌≡◌, ap, ◌∙◌}
use mathlib.Core.Bool.{true, false}
use mathlib.Core.List.{List, [], ◌∷◌}
use Prim.Native.Nat.{ℕ, ◌+◌, ◌-◌, ◌*◌, ◌^◌, ◌≤◌, ◌<◌}
use native.Mathlib.Omega.{arith}
use lib.ListN.{length, drop, get_or, drop_of_length-le}
use Rattle.spec.specs.Digits.{is_digit, leading}
use Rattle.laws.proofs.TextSteps.{drop-next}
use Rattle.laws.proofs.DigitLaws.{below_more}
use Rattle.laws.proofs.DigitReading.{ReadSoFar, read_none, read_more, read_below, read_value_lem, read_length}
use Rattle.laws.proofs.LeadingDigits.{leading_digit, leading-other}
use Rattle.padding.specs.Reading.{DigitsRead}

lead_end : (s : List ℕ) (i : ℕ) → length s ≤ i → leading 10 (drop i s) ≡ []
unfolding leading
lead_end s i h = rw (drop_of_length-le s h)

lead_digit : (s : List ℕ) (i : ℕ) → i < length s → is_digit 10 (get_or s i 0) ≡ true → leading 10 (drop i s) ≡ get_or s i 0 ∷ leading 10 (drop (i + 1) s)
lead_digit s i h d = ap (leading 10) (drop-next s i h) ∙ leading_digit 10 (get_or s i 0) (drop (i + 1) s) d

lead_other : (s : List ℕ) (i : ℕ) → i < length s → is_digit 10 (get_or s i 0) ≡ false → leading 10 (drop i s) ≡ []
lead_other s i h d = ap (leading 10) (drop-next s i h) ∙ leading-other 10 (get_or s i 0) (drop (i + 1) s) d

-- five digits are below 100,000: the code's arithmetic fits
pub value-small : (at n i : ℕ) → i ≤ at + 5 → n < 10 ^ (i - at) → n < 100000
value-small at n i f h = below_more 10 (i - at) 5 n (omega arith) (omega arith) h

-- the loop: as DigitsRead, but it has not ended
pub record DigitsSoFar (s : List ℕ) (at n i : ℕ) : Type 0 where
  pub after : at ≤ i
  pub within : i ≤ length s
  pub five : i ≤ at + 5
  pub read : ReadSoFar 10 (leading 10 (drop at s)) (leading 10 (drop i s)) (i - at) n

pub so_far_none : (s : List ℕ) (at : ℕ) → at ≤ length s → DigitsSoFar s at 0 at
so_far_none s at h =
    let z : at - at ≡ 0 = omega arith in
    record { after = omega arith; within = h; five = omega arith; read = rw z (read_none 10 (leading 10 (drop at s))) }

module _ (s : List ℕ) (at n i : ℕ) (r : DigitsSoFar s at n i) where
  pub so_far_more : i < length s → i < at + 5 → is_digit 10 (get_or s i 0) ≡ true → DigitsSoFar s at (n * 10 + (get_or s i 0 - 48)) (i + 1)
  so_far_more h f d =
      let e : i + 1 - at ≡ i - at + 1 = omega (arith, r.after) in
      record {
        after = omega (arith, r.after);
        within = omega arith;
        five = omega (arith, r.after, r.five);
        read = rw e (read_more 10 _ _ (i - at) n r.read (get_or s i 0) _ (lead_digit s i h d) d);
      }

  below : n < 10 ^ (i - at)
  below = read_below 10 _ _ (i - at) n r.read (i - at) (omega arith) (omega arith)

  pub so_far_small : n < 100000
  so_far_small = value-small at n i r.five below

  done : (i < at + 5 → leading 10 (drop i s) ≡ []) → DigitsRead s at n i
  done e = record {
    after = r.after;
    within = r.within;
    five = r.five;
    below = below;
    reads = read_value_lem 10 _ _ (i - at) n r.read;
    counts = omega (arith, r.after, read_length 10 _ _ (i - at) n r.read);
    ends = e;
  }

  pub so_far_other : i < length s → is_digit 10 (get_or s i 0) ≡ false → DigitsRead s at n i
  so_far_other h d = done (λ k. lead_other s i h d)

  -- where the loop ends: the text ends there, or five digits are read
  pub so_far_end : (end : ℕ) → end ≡ i → (i < at + 5 → length s ≤ i) → DigitsRead s at n end
  so_far_end end e h = rw e (done (λ k. lead_end s i (h k)))
