-- An octal escape stands for the value of its digits, by the law that all digits are read by (DigitReading).
-- Assumes nothing.
use Prim.Native.Nat.{ℕ, zero, suc, ◌+◌, ◌-◌, ◌*◌, ◌<◌}
use mathlib.Core.Path.{◌≡◌, refl, ap, sym, ◌∙◌, subst}
use mathlib.Core.Bool.{Bool, true, false}
use mathlib.Core.List.{List, [], ◌∷◌, ◌++◌}
use native.Mathlib.Omega.{arith}
use lib.Dec.{leb}
use lib.ListN.{length}
use Rattle.spec.specs.Choice.{pick, both}
use Rattle.spec.specs.Digits.{are_digits, value_from}
use Rattle.spec.specs.Strings.{Decoded, bad, emit, plain, slash, one_digit, two_digits, octal, decode}
use Rattle.laws.proofs.Tests.{both_true}
use Rattle.laws.proofs.DigitReading.{ReadSoFar}

-- An escape of which m digits are left, after digits with the value v.
unfoldable escape_from : ℕ → ℕ → List ℕ → Decoded
escape_from zero v l = pick (leb v 255) (emit v (decode plain l)) bad
escape_from (suc m) v [] = bad
escape_from (suc m) v (b ∷ l) = pick (octal b) (escape_from m (v * 8 + (b - 48)) l) bad

-- ---- the modes of the definition are the escapes with one digit left, two and three

last_digit : (v : ℕ) (l : List ℕ) → decode (two_digits v) l ≡ escape_from 1 v l
unfolding decode escape_from
last_digit v [] = refl
last_digit v (b ∷ l) = go (octal b) (leb (v * 8 + (b - 48)) 255)
  where
    go : (x y : Bool) → pick (both x y) (emit (v * 8 + (b - 48)) (decode plain l)) bad ≡ pick x (pick y (emit (v * 8 + (b - 48)) (decode plain l)) bad) bad
    go true y = refl
    go false y = refl

last_two : (v : ℕ) (l : List ℕ) → decode (one_digit v) l ≡ escape_from 2 v l
unfolding decode escape_from
last_two v [] = refl
last_two v (b ∷ l) = ap (λ (o : Decoded). pick (octal b) o bad) (last_digit (v * 8 + (b - 48)) l)

all_three : (b : ℕ) (l : List ℕ) → octal b ≡ true → decode slash (b ∷ l) ≡ escape_from 3 0 (b ∷ l)
unfolding decode escape_from
all_three b l e =
    let first : 0 * 8 + (b - 48) ≡ b - 48 = omega arith in
    rw e (subst (λ (v : ℕ). decode (one_digit (b - 48)) l ≡ escape_from 2 v l) (sym first) (last_two (b - 48) l))

-- ---- over the width

pass_digits : (d : List ℕ) (m v : ℕ) (l : List ℕ) → are_digits 8 d ≡ true → escape_from (length d + m) v (d ++ l) ≡ escape_from m (value_from 8 v d) l
unfolding escape_from are_digits value_from
pass_digits [] m v l e = let width : 0 + m ≡ m = omega arith in rw width
pass_digits (b ∷ d) m v l e =
    let w = both_true (octal b) (are_digits 8 d) e in
    let width : suc (length d) + m ≡ suc (length d + m) = omega arith in
    rw (width, w.0) (pass_digits d m (v * 8 + (b - 48)) l w.1)

-- k digits were read, with the value v, and m are left
escape_read : (k m v : ℕ) (l rest : List ℕ) → ReadSoFar 8 l rest k v → 0 < k → k + m ≡ 3 → decode slash l ≡ escape_from m v rest
unfolding are_digits
escape_read k m v l rest q some sum = ap (decode slash) q.text ∙ starts q.digits q.all (omega (arith, q.count)) ∙ passes
  where
    starts : (d : List ℕ) → are_digits 8 d ≡ true → 0 < length d → decode slash (d ++ rest) ≡ escape_from 3 0 (d ++ rest)
    starts [] e h = absurd (omega arith)
    starts (b ∷ d) e h = all_three b (d ++ rest) (both_true (octal b) (are_digits 8 d) e).0

    passes : escape_from 3 0 (q.digits ++ rest) ≡ escape_from m v rest
    passes =
        let width : 3 ≡ length q.digits + m = omega (arith, q.count) in
        ap (λ (n : ℕ). escape_from n 0 (q.digits ++ rest)) width ∙ pass_digits q.digits m 0 rest q.all ∙ ap (λ (n : ℕ). escape_from m n rest) q.worth

-- a backslash and three octal digits stand for the value of the digits, "up to 377" (255)
pub octal_escape : (v : ℕ) (l rest : List ℕ) → ReadSoFar 8 l rest 3 v → decode slash l ≡ pick (leb v 255) (emit v (decode plain rest)) bad
unfolding escape_from
octal_escape v l rest q = escape_read 3 0 v l rest q (omega arith) refl

-- a backslash and fewer digits are malformed: the text ends, or another byte follows
module _ (k v : ℕ) (l rest : List ℕ) (q : ReadSoFar 8 l rest k v) (some : 0 < k) (few : k < 3) where
  short : decode slash l ≡ escape_from (suc (2 - k)) v rest
  short = escape_read k (suc (2 - k)) v l rest q some (omega arith)

  pub octal-end : rest ≡ [] → decode slash l ≡ bad
  unfolding escape_from
  octal-end e = short ∙ ap (escape_from (suc (2 - k)) v) e

  pub octal-other : (b : ℕ) (s : List ℕ) → rest ≡ b ∷ s → octal b ≡ false → decode slash l ≡ bad
  unfolding escape_from
  octal-other b s e n = short ∙ ap (escape_from (suc (2 - k)) v) e ∙ rw n
