-- The count of pads is the least that lasts as long as the delay; a prefix's delay is below 100,000, and its body no longer than the command.
-- Assumes nothing.
use mathlib.Core.Path.{◌≡◌}
use mathlib.Core.Bool.{Bool, true, false}
use mathlib.Core.List.{List, [], ◌∷◌}
use Prim.Native.Nat.{ℕ, suc, ◌-◌, ◌*◌, ◌^◌, ◌≤◌, ◌<◌}
use native.Mathlib.Nat.{mul-pos, zero-mul, mul-zero}
use native.Mathlib.Omega.{arith}
use borrow.Author.Tests.{ltb-false}
use lib.Dec.{eqb, ltb}
use lib.ListN.{length, length-drop}
use Rattle.spec.specs.Choice.{pick, is_empty}
use Rattle.spec.specs.Padding.{Split, Prefix, split, refused, tenths, past_tenths, past_star, prefix_of, pad_count}
use Rattle.spec.specs.Digits.{value, value_from, leading, trailing}
use Rattle.spec.specs.declared.Refusal.TheVariants.{NoRoom, BadPadding}
use Rattle.laws.proofs.Buffers.{not_nine}
use Rattle.laws.proofs.Tests.{pick_all, pick-told}
use Rattle.laws.proofs.DigitLaws.{value-few}
use Rattle.laws.proofs.LeadingDigits.{leading_digits, trailing-drop}

-- ---- the count of pads

module _ (delay speed : ℕ) where
  pub pads_last : delay * speed ≤ pad_count delay speed * 100000
  unfolding pad_count
  pads_last = omega arith

  pub pads_fewest : 0 < delay → 0 < speed → (pad_count delay speed - 1) * 100000 < delay * speed
  unfolding pad_count
  pads_fewest d s = let above : 0 < delay * speed = mul-pos d s in omega arith

  pub pads_no_delay : delay ≡ 0 → pad_count delay speed ≡ 0
  unfolding pad_count
  pads_no_delay e = rw (e, zero-mul) (omega arith)

  pub pads_no_speed : speed ≡ 0 → pad_count delay speed ≡ 0
  unfolding pad_count
  pads_no_speed e = rw (e, mul-zero) (omega arith)

-- ---- the prefix: its delay is at most 99,999 tenths

abbrev pub Splits : (Split → Type 0) → Prefix → Type 0
Splits P (split p) = P p
Splits P (refused n) = Unit

-- at most k decimal digits are below 10 ^ k
few_digits : (k : ℕ) (s : List ℕ) → length (leading 10 s) ≤ k → value 10 (leading 10 s) < 10 ^ k
few_digits k s h = value-few 10 k (leading 10 s) (omega arith) (leading_digits 10 s) h

tenth_below : (s : List ℕ) → length (tenths s) ≤ 1 → value 10 (tenths s) < 10
unfolding tenths value_from
tenth_below [] h = omega arith
tenth_below (c ∷ s) h = go (eqb c 46) h
  where
    go : (t : Bool) → length (pick t (leading 10 s) []) ≤ 1 → value 10 (pick t (leading 10 s) []) < 10
    go true l = few_digits 1 s l
    go false l = omega arith

pub delay-below : (cmd : List ℕ) → Splits (λ (p : Split). p.delay < 100000) (prefix_of cmd)
unfolding prefix_of
delay-below cmd =
    pick-told Small (is_empty (leading 10 cmd)) (λ e. omega arith) λ e.
    pick-told Small (ltb 4 (length (leading 10 cmd))) (λ f. tt) λ f.
    pick-told Small (ltb 1 (length (tenths (trailing 10 cmd)))) (λ h. tt) λ h.
    let whole = few_digits 4 cmd (ltb-false 4 (length (leading 10 cmd)) f) in
    let tenth = tenth_below (trailing 10 cmd) (ltb-false 1 (length (tenths (trailing 10 cmd))) h) in
    omega arith
  where
    Small : Prefix → Type 0
    Small = Splits (λ (p : Split). p.delay < 100000)

-- ---- the body is no longer than the command, and no refusal is for want of room

abbrev pub Shortened : ℕ → Prefix → Type 0
Shortened n (split p) = length p.body ≤ n
Shortened n (refused r) = r ≡ NoRoom → ⊥

trailing-short : (s : List ℕ) → length (trailing 10 s) ≤ length s
trailing-short s = rw (trailing-drop, length-drop) (omega arith)

tenths-short : (s : List ℕ) → length (past_tenths s) ≤ length s
tenths-short [] = omega arith
tenths-short (c ∷ s) =
    pick_all (λ (l : List ℕ). length l ≤ suc (length s)) (is_empty (tenths (c ∷ s))) (omega arith) (omega (arith, trailing-short s))

star-short : (s : List ℕ) → length (past_star s) ≤ length s
star-short [] = omega arith
star-short (c ∷ s) = pick_all (λ (l : List ℕ). length l ≤ suc (length s)) (eqb c 42) (omega arith) (omega arith)

pub body-short : (cmd : List ℕ) → Shortened (length cmd) (prefix_of cmd)
unfolding prefix_of
body-short cmd =
    let rest = trailing 10 cmd in
    pick_all Short (is_empty (leading 10 cmd)) (omega arith)
    (pick_all Short (ltb 4 (length (leading 10 cmd))) bad
    (pick_all Short (ltb 1 (length (tenths rest))) bad (omega (arith, star-short (past_tenths rest), tenths-short rest, trailing-short cmd))))
  where
    Short : Prefix → Type 0
    Short = Shortened (length cmd)

    bad : BadPadding ≡ NoRoom → ⊥
    bad = not_nine BadPadding (omega arith)
