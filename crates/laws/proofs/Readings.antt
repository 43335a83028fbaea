-- What is known of a field that is read as an entry: its first two bytes are its name, which is an id, and its value is at most 65,535 or
-- the field's length.
-- Assumes nothing.
use Prim.Native.Nat.{ℕ, suc, ◌+◌, ◌-◌, ◌*◌, ◌≤◌, max}
use mathlib.Core.Path.{◌≡◌, refl}
use mathlib.Core.Bool.{Bool, true, false}
use mathlib.Core.List.{List, [], ◌∷◌}
use native.Mathlib.Omega.{arith}
use borrow.Author.Tests.{leb-true}
use lib.Dec.{eqb, leb}
use lib.ListN.{length}
use Rattle.spec.specs.Choice.{pick, both, either, between}
use Rattle.spec.specs.Lines.{blank}
use Rattle.laws.proofs.Tests.{both_true}
use Rattle.spec.specs.Refusals.{is_tc, id_bytes, good_name}
use Rattle.spec.specs.Digits.{are_digits}
use Rattle.spec.specs.Fields.{
  number_base,
  number_value,
  good_number,
  Content,
  cancel,
  flag,
  number,
  string,
  Reading,
  malformed,
  ignored,
  link,
  capability,
  string_reading,
  content_reading,
  link_reading,
  named_reading,
  reading,
  content_value,
}
use Rattle.spec.specs.Strings.{Decoded, bad, good, emit, Mode, plain, slash, caret, one_digit, two_digits, octal, escaped, control, decode}

-- ---- a decoded text is no longer than the text

abbrev Short : Decoded → ℕ → Type 0
Short o n = (d : List ℕ) → o ≡ good d → length d ≤ n

short-bad : (n : ℕ) → Short bad n
short-bad n d e = let z : ◌≡◌ {A = ℕ} 0 1 = cc in absurd (omega arith)

short_pick : (x : Bool) (o q : Decoded) (n : ℕ) → Short o n → Short q n → Short (pick x o q) n
short_pick true o q n h k = h
short_pick false o q n h k = k

short_on : (o : Decoded) (n : ℕ) → Short o n → Short o (suc n)
short_on o n h d e = omega (arith, h d e)

short-emit : (b : ℕ) (o : Decoded) (n : ℕ) → Short o n → Short (emit b o) (suc n)
unfolding emit
short-emit b bad n h d e = let z : ◌≡◌ {A = ℕ} 0 1 = cc in absurd (omega arith)
short-emit b (good l) n h d e =
    let q : d ≡ b ∷ l = cc in
    rw q (omega (arith, h l refl))

pub decode-short : (m : Mode) (l : List ℕ) → Short (decode m l) (length l)
unfolding decode
decode-short plain [] d e = let q : d ≡ [] = cc in rw q (omega arith)
decode-short slash [] d e = short-bad 0 d e
decode-short caret [] d e = short-bad 0 d e
decode-short (one_digit v) [] d e = short-bad 0 d e
decode-short (two_digits v) [] d e = short-bad 0 d e
decode-short plain (b ∷ l) d e =
    short_pick (eqb b 92) _ _ _ (short_on _ _ (decode-short slash l))
    (short_pick (eqb b 94) _ _ _ (short_on _ _ (decode-short caret l))
    (short_pick (between 32 126 b) _ _ _ (short-emit b _ _ (decode-short plain l)) (short-bad _))) d e
decode-short slash (b ∷ l) d e =
    short_pick (octal b) _ _ _ (short_on _ _ (decode-short (one_digit (b - 48)) l))
    (short_pick (leb (escaped b) 255) _ _ _ (short-emit (escaped b) _ _ (decode-short plain l)) (short-bad _)) d e
decode-short caret (b ∷ l) d e =
    short_pick (between 63 126 b) _ _ _ (short-emit (control b) _ _ (decode-short plain l)) (short-bad _) d e
decode-short (one_digit v) (b ∷ l) d e =
    short_pick (octal b) _ _ _ (short_on _ _ (decode-short (two_digits (v * 8 + (b - 48))) l)) (short-bad _) d e
decode-short (two_digits v) (b ∷ l) d e =
    short_pick (both (octal b) (leb (v * 8 + (b - 48)) 255)) _ _ _ (short-emit (v * 8 + (b - 48)) _ _ (decode-short plain l)) (short-bad _) d e

-- ---- entries

pub record Entered (t : List ℕ) (a b : ℕ) (s : Content) : Type 0 where
  pub start : (l : List ℕ) × (t ≡ a ∷ b ∷ l)
  pub id : id_bytes a b ≡ true
  pub bound : content_value s ≤ max 65535 (length t)

abbrev Valued : ℕ → ℕ → ℕ → Reading → Type 0
Valued a b n r = (c d : ℕ) (s : Content) → r ≡ capability c d s → (c ≡ a) × (d ≡ b) × (content_value s ≤ max 65535 n)

valued_not : (a b n : ℕ) → Valued a b n malformed
valued_not a b n c d s e = let z : ◌≡◌ {A = ℕ} 0 1 = cc in absurd (omega arith)

valued_pick : (a b n : ℕ) (x : Bool) (q r : Reading) → (x ≡ true → Valued a b n q) → Valued a b n r → Valued a b n (pick x q r)
valued_pick a b n true q r h k = h refl
valued_pick a b n false q r h k = k

valued_entry : (a b n : ℕ) (u : Content) → content_value u ≤ max 65535 n → Valued a b n (capability a b u)
valued_entry a b n u h c d s e =
    let p : c ≡ a = cc in
    let q : d ≡ b = cc in
    let r : s ≡ u = cc in
    (p, q, rw r h)

number_bound : (l : List ℕ) → good_number l ≡ true → number_value l ≤ 65535
unfolding good_number
number_bound l e = leb-true (number_value l) 65535 (both_true (are_digits (number_base l) l) _ (both_true (between 1 6 (length l)) _ e).1).1

valued_text : (a b n : ℕ) (o : Decoded) → Short o n → Valued a b n (string_reading a b o)
unfolding string_reading
valued_text a b n bad h = valued_not a b n
valued_text a b n (good l) h = valued_entry a b n (string l) (omega (arith, h l refl))

valued_is : (a b : ℕ) (l : List ℕ) → Valued a b (length l) (content_reading a b l)
unfolding content_reading
valued_is a b [] = valued_entry a b 0 flag (omega arith)
valued_is a b (c ∷ l) =
    valued_pick a b n (eqb c 35) _ _
    (λ e. valued_pick a b n (good_number l) _ _ (λ g. valued_entry a b n (number (number_value l)) (omega (arith, number_bound l g))) (valued_not a b n))
    (valued_pick a b n (eqb c 61) _ _
    (λ e. valued_text a b n (decode plain l) (short_on _ _ (decode-short plain l)))
    (valued_pick a b n (eqb c 64) _ _
    (λ e. valued_pick a b n (eqb (length l) 0) _ _ (λ g. valued_entry a b n cancel (omega arith)) (valued_not a b n))
    (valued_not a b n)))
  where
    n : ℕ
    n = suc (length l)

not_linked : (l : List ℕ) (c d : ℕ) (s : Content) → link_reading l ≡ capability c d s → ⊥
unfolding link_reading
not_linked [] c d s e = let z : ◌≡◌ {A = ℕ} 0 1 = cc in omega arith
not_linked (x ∷ l) c d s e = go (both (eqb x 61) (good_name l)) e
  where
    go : (y : Bool) → pick y (link l) malformed ≡ capability c d s → ⊥
    go true q = let z : ◌≡◌ {A = ℕ} 0 1 = cc in omega arith
    go false q = let z : ◌≡◌ {A = ℕ} 0 1 = cc in omega arith

named_entered : (x : ℕ) (l : List ℕ) (a b : ℕ) (s : Content) → named_reading x l ≡ capability a b s → Entered (x ∷ l) a b s
unfolding named_reading
named_entered x [] a b s e = let z : ◌≡◌ {A = ℕ} 0 1 = cc in absurd (omega arith)
named_entered x (y ∷ l) a b s e = go (is_tc x y) (id_bytes x y) refl e
  where
    go : (t i : Bool) → id_bytes x y ≡ i → pick t (link_reading l) (pick i (content_reading x y l) malformed) ≡ capability a b s → Entered (x ∷ y ∷ l) a b s
    go true i h q = absurd (not_linked l a b s q)
    go false true h q =
        let w = valued_is x y l a b s q in
        record { start = (l, rw (w.0, w.1)); id = rw (w.0, w.1) h; bound = omega (arith, w.2) }
    go false false h q = let z : ◌≡◌ {A = ℕ} 0 1 = cc in absurd (omega arith)

pub reading-entered : (t : List ℕ) (a b : ℕ) (s : Content) → reading t ≡ capability a b s → Entered t a b s
unfolding reading
reading-entered [] a b s e = let z : ◌≡◌ {A = ℕ} 0 1 = cc in absurd (omega arith)
reading-entered (x ∷ l) a b s e = go (either (blank (x ∷ l)) (eqb x 46)) e
  where
    go : (y : Bool) → pick y ignored (named_reading x l) ≡ capability a b s → Entered (x ∷ l) a b s
    go true q = let z : ◌≡◌ {A = ℕ} 0 1 = cc in absurd (omega arith)
    go false q = named_entered x l a b s q
