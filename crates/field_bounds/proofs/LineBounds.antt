-- A line at a place is no longer than what it is read from, and so are its fields.
-- Assumes nothing.
use Prim.Native.Nat.{ℕ, suc, ◌+◌, ◌-◌, ◌≤◌, ◌<◌}
use mathlib.Core.Path.{◌≡◌}
use mathlib.Core.Bool.{Bool, true, false}
use mathlib.Core.List.{List, [], ◌∷◌}
use native.Mathlib.Decide.{dec_lt}
use native.Mathlib.Omega.{arith}
use lib.Dec.{eqb}
use lib.ListN.{length, drop, length-drop}
use Rattle.spec.specs.Choice.{pick, both}
use Rattle.spec.specs.Lists.{upto}
use Rattle.spec.specs.Lines.{byte, join, text_at, line_text, line_at}
use Rattle.spec.specs.Strings.{good, plain, decode}
use Rattle.spec.specs.Fields.{split, size}
use Rattle.laws.proofs.TextSteps.{text-end}
use Rattle.laws.proofs.FieldSteps.{split_nil, open_end, split-size}
use Rattle.laws.proofs.Readings.{decode-short}
use Rattle.laws.proofs.Tests.{pick_all}
use Rattle.field_bounds.specs.Answers.{field_at, Passed}

line-short : (at : ℕ) (l : List ℕ) → length (line_text (join at l)) ≤ length l
unfolding join line_text
line-short at [] = omega arith
line-short at (b ∷ []) = pick_all (λ (l : List ℕ). length l ≤ 1) (eqb b 10) (omega arith) (omega arith)
line-short at (b ∷ c ∷ l) = go (both (eqb b 92) (eqb c 10)) (line-short (at + 1 + 1) l) (line-short (at + 1) (c ∷ l))
  where
    go : (x : Bool) → length (line_text (join (at + 1 + 1) l)) ≤ length l → length (line_text (join (at + 1) (c ∷ l))) ≤ suc (length l)
        → length (line_text (pick x (join (at + 1 + 1) l) (byte b (at + 1) (join (at + 1) (c ∷ l))))) ≤ suc (suc (length l))
    go true h k = omega arith
    go false h k = pick_all (λ (m : List ℕ). length m ≤ suc (suc (length l))) (eqb b 10) (omega arith) (omega arith)

pub line_bound : (s : List ℕ) (at : ℕ) → length (line_at s at) ≤ length s
unfolding line_at text_at
line_bound s at = omega (arith, line-short at (drop at s), length-drop at s)

-- so a field has no more bytes than stand from its place on
upto-short : (l : List ℕ) → length (upto 58 l) ≤ length l
unfolding upto
upto-short [] = omega arith
upto-short (b ∷ l) = pick_all (λ (m : List ℕ). length m ≤ suc (length l)) (eqb b 58) (omega arith) (omega (arith, upto-short l))

pub passed_bound : (s : List ℕ) (at i n : ℕ) → Passed s at i n → n ≤ length s - at
unfolding line_at text_at
passed_bound s at i n q = omega (arith, q.count, upto-short (line_text (join at (drop at s))), line-short at (drop at s), length-drop at s)

pub field_bound : (s : List ℕ) (at : ℕ) → length (field_at s at) ≤ length s
field_bound s at = omega (arith, upto-short (line_at s at), line_bound s at)

-- nor is a decoded text longer
pub text_bound : (s : List ℕ) (text : ℕ) (l : List ℕ) → decode plain (field_at s text) ≡ good l → length l ≤ length s
text_bound s text l e = omega (arith, decode-short plain (field_at s text) l e, field_bound s text)

pub open_bound : (l : List ℕ) → open_end l ≤ 1
unfolding open_end
open_bound [] = omega arith
open_bound (b ∷ []) = pick_all (λ (n : ℕ). n ≤ 1) (eqb b 58) (omega arith) (omega arith)
open_bound (b ∷ c ∷ l) = open_bound (c ∷ l)

pub size_bound : (s : List ℕ) (at : ℕ) → size (split (line_at s at)) ≤ length s + 1
size_bound s at = omega (arith, split-size (line_at s at), open_bound (line_at s at), line_bound s at)

-- ---- past the end there is no field

fields-end : (s : List ℕ) (at : ℕ) → length s ≤ at → split (line_at s at) ≡ []
unfolding line_at line_text
fields-end s at h = rw (text-end s at h) split_nil

pub field_inside : (s : List ℕ) (at : ℕ) (f : List ℕ) (fs : List (List ℕ)) → split (line_at s at) ≡ f ∷ fs → at < length s
field_inside s at f fs e = go (dec_lt at (length s))
  where
    go : Dec (at < length s) → at < length s
    go (yes h) = h
    go (no n) =
        let past : length s ≤ at = omega arith in
        let none = fields-end s at past in
        let z : ◌≡◌ {A = ℕ} 0 1 = cc in
        absurd (omega arith)

-- the fields after a last one are those at the end
pub last_field : (s : List ℕ) (at : ℕ) (f : List ℕ) → split (line_at s at) ≡ f ∷ [] → split (line_at s at) ≡ f ∷ split (line_at s (length s))
last_field s at f e = rw (fields-end s (length s) (omega arith)) e
