-- Names, fields and string texts as a reader meets them, byte by byte.
-- Assumes nothing.
use Prim.Native.Nat.{ℕ, suc, ◌+◌, ◌-◌, ◌%◌, ◌≤◌, ◌<◌}
use mathlib.Core.Path.{◌≡◌, refl, ap}
use mathlib.Core.Bool.{Bool, true, false}
use mathlib.Core.List.{List, [], ◌∷◌, ◌++◌}
use mathlib.Core.Logic.{◌⊎◌, inl, inr}
use native.Mathlib.Omega.{arith}
use borrow.Author.Tests.{eq-eqb, ne_eqb, le-leb, lt-leb, leb-true}
use lib.Dec.{eqb, leb}
use lib.ListN.{length, length-append}
use Rattle.spec.specs.Choice.{pick, both, between}
use Rattle.spec.specs.Lines.{Text, end, byte, line_text}
use Rattle.spec.specs.Lists.{upto, holds, past}
use Rattle.laws.proofs.DigitBytes.{digit_not}
use Rattle.laws.proofs.TextSteps.{line-end, line_on}
use Rattle.spec.specs.Strings.{Decoded, bad, good, emit, plain, slash, caret, one_digit, octal, escaped, control, decode}
use Rattle.spec.specs.Fields.{names_of, grow, split, fields_of, size, line_size}
use Rattle.laws.proofs.FieldTexts.{line_parts}

-- ---- the text up to the next colon (58), and what follows it, of a line at a place

pub field_nil : upto 58 (line_text end) ≡ []
unfolding upto line_text
field_nil = refl

module _ (b n : ℕ) (t : Text) where
  pub field_end : (b ≡ 10) ⊎ (b ≡ 58) → upto 58 (line_text (byte b n t)) ≡ []
  unfolding upto
  field_end (inl e) = rw (line-end b n t e)
  field_end (inr e) = rw (line_on b n t (omega arith), eq-eqb b 58 e)

  pub field_on : ((b ≡ 10) ⊎ (b ≡ 58) → ⊥) → upto 58 (line_text (byte b n t)) ≡ b ∷ upto 58 (line_text t)
  unfolding upto
  field_on h = rw (line_on b n t (λ e. h (inl e)), ne_eqb b 58 (λ e. h (inr e)))

  pub past_here : b ≡ 58 → past 58 (line_text (byte b n t)) ≡ line_text t
  unfolding past
  past_here e = rw (line_on b n t (omega arith), eq-eqb b 58 e)

  pub past_on : ((b ≡ 10) ⊎ (b ≡ 58) → ⊥) → past 58 (line_text (byte b n t)) ≡ past 58 (line_text t)
  unfolding past
  past_on h = rw (line_on b n t (λ e. h (inl e)), ne_eqb b 58 (λ e. h (inr e)))

-- ---- the fields: the first, then those after its colon

pub split_nil : split [] ≡ []
unfolding split
split_nil = refl

pub split_first : (b : ℕ) (l : List ℕ) → split (b ∷ l) ≡ upto 58 (b ∷ l) ∷ split (past 58 (b ∷ l))
unfolding split upto past grow
split_first b [] = go (eqb b 58)
  where
    go : (x : Bool) → pick x ([] ∷ split []) (grow b (split [])) ≡ pick x [] (b ∷ []) ∷ split (pick x [] [])
    go true = refl
    go false = refl
split_first b (c ∷ l) = go (eqb b 58) (split_first c l)
  where
    go : (x : Bool) → split (c ∷ l) ≡ upto 58 (c ∷ l) ∷ split (past 58 (c ∷ l))
        → pick x ([] ∷ split (c ∷ l)) (grow b (split (c ∷ l))) ≡ pick x [] (b ∷ upto 58 (c ∷ l)) ∷ split (pick x (c ∷ l) (past 58 (c ∷ l)))
    go true e = refl
    go false e = rw e

-- ---- decoding

pub outside : (low high b : ℕ) → ((low ≤ b) × (b ≤ high) → ⊥) → between low high b ≡ false
outside low high b n = go (leb low b) refl (leb b high) refl
  where
    go : (x : Bool) → leb low b ≡ x → (y : Bool) → leb b high ≡ y → both x y ≡ false
    go true e true f = absurd (n (leb-true low b e, leb-true b high f))
    go true e false f = refl
    go false e y f = refl

not_octal : (b : ℕ) → ((48 ≤ b) × (b ≤ 55) → ⊥) → octal b ≡ false
not_octal b n = digit_not 8 b (λ w. n (w.0, omega (arith, w.1)))

-- Bytes before a decoded text: what a writer has put out so far.
unfoldable pub after : List ℕ → Decoded → Decoded
after out bad = bad
after out (good l) = good (out ++ l)

pub after-emit : (out : List ℕ) (b : ℕ) (o : Decoded) → after out (emit b o) ≡ after (out ++ b ∷ []) o
unfolding emit after
after-emit [] b bad = refl
after-emit [] b (good l) = refl
after-emit (x ∷ out) b bad = refl
after-emit (x ∷ out) b (good l) = ap good (ap (λ (m : List ℕ). x ∷ m) (out_snoc out))
  where
    out_snoc : (o : List ℕ) → o ++ b ∷ l ≡ (o ++ b ∷ []) ++ l
    out_snoc [] = refl
    out_snoc (y ∷ o) = ap (λ (m : List ℕ). y ∷ m) (out_snoc o)

pub decode_done : decode plain [] ≡ good []
unfolding decode
decode_done = refl

module _ (b : ℕ) (l : List ℕ) where
  pub decode-slash : b ≡ 92 → decode plain (b ∷ l) ≡ decode slash l
  unfolding decode
  decode-slash e = rw (eq-eqb b 92 e)

  pub decode-caret : b ≡ 94 → decode plain (b ∷ l) ≡ decode caret l
  unfolding decode
  decode-caret e = rw (ne_eqb b 92 (omega arith), eq-eqb b 94 e)

  pub decode-byte : (b ≡ 92 → ⊥) → (b ≡ 94 → ⊥) → (32 ≤ b) × (b ≤ 126) → decode plain (b ∷ l) ≡ emit b (decode plain l)
  unfolding decode
  decode-byte h k i = rw (ne_eqb b 92 h, ne_eqb b 94 k, le-leb 32 b i.0, le-leb b 126 i.1)

  pub decode_odd : (b ≡ 92 → ⊥) → (b ≡ 94 → ⊥) → ((32 ≤ b) × (b ≤ 126) → ⊥) → decode plain (b ∷ l) ≡ bad
  unfolding decode
  decode_odd h k i = rw (ne_eqb b 92 h, ne_eqb b 94 k, outside 32 126 b i)

  pub decode-control : (63 ≤ b) × (b ≤ 126) → decode caret (b ∷ l) ≡ emit (control b) (decode plain l)
  unfolding decode
  decode-control i = rw (le-leb 63 b i.0, le-leb b 126 i.1)

  pub decode_no_control : ((63 ≤ b) × (b ≤ 126) → ⊥) → decode caret (b ∷ l) ≡ bad
  unfolding decode
  decode_no_control i = rw (outside 63 126 b i)

  pub decode-letter : (v : ℕ) → ((48 ≤ b) × (b ≤ 55) → ⊥) → escaped b ≡ v → v ≤ 255 → decode slash (b ∷ l) ≡ emit v (decode plain l)
  unfolding decode
  decode-letter v h e k = rw (not_octal b h, e, le-leb v 255 k)

  pub decode_no_letter : ((48 ≤ b) × (b ≤ 55) → ⊥) → 255 < escaped b → decode slash (b ∷ l) ≡ bad
  unfolding decode
  decode_no_letter h k = rw (not_octal b h, lt-leb (escaped b) 255 k)

  pub decode_first : octal b ≡ true → decode slash (b ∷ l) ≡ decode (one_digit (b - 48)) l
  unfolding decode
  decode_first e = rw e

pub control_127 : (b : ℕ) → b ≡ 63 → control b ≡ 127
unfolding control
control_127 b e = rw (eq-eqb b 63 e)

pub control-mod : (b : ℕ) → 63 < b → control b ≡ b % 32
unfolding control
control-mod b h = rw (ne_eqb b 63 (omega arith))

-- ---- a line's size by its length: one more if its last field is open

unfoldable pub open_end : List ℕ → ℕ
open_end [] = 0
open_end (b ∷ []) = pick (eqb b 58) 0 1
open_end (b ∷ c ∷ l) = open_end (c ∷ l)

grow-size : (b : ℕ) (f : List ℕ) (fs : List (List ℕ)) → size (grow b (f ∷ fs)) ≡ 1 + size (f ∷ fs)
unfolding grow size
grow-size b f fs = omega arith

pub split-size : (l : List ℕ) → size (split l) ≡ length l + open_end l
unfolding split open_end size grow
split-size [] = refl
split-size (b ∷ []) = go (eqb b 58)
  where
    go : (x : Bool) → size (pick x ([] ∷ []) ((b ∷ []) ∷ [])) ≡ 1 + pick x 0 1
    go true = refl
    go false = refl
split-size (b ∷ c ∷ l) = go (eqb b 58) (split-size (c ∷ l))
  where
    go : (x : Bool) → size (split (c ∷ l)) ≡ length (c ∷ l) + open_end (c ∷ l)
        → size (pick x ([] ∷ split (c ∷ l)) (grow b (split (c ∷ l)))) ≡ suc (length (c ∷ l)) + open_end (c ∷ l)
    go true h = omega arith
    go false h = rw (split_first c l) (omega (arith, grow-size b (upto 58 (c ∷ l)) (split (past 58 (c ∷ l))), ap size (split_first c l)))

-- For a line with a colon: its joined length, and one more if it does not end in a colon.
pub line-size : (l : List ℕ) → holds 58 l ≡ true → line_size l ≡ length l + open_end (past 58 l)
unfolding line_size fields_of
line-size l h = omega (arith, split-size (past 58 l), ap length (line_parts l h), length-append (names_of l) (58 ∷ past 58 l))
