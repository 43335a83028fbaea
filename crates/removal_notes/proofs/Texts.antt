-- The laws of the text that a record names. Assumes nothing.
use Prim.Native.Nat.{ℕ, zero, suc, ◌+◌, ◌-◌, ◌<◌}
use mathlib.Core.Path.{◌≡◌, refl, sym, ◌∙◌}
use mathlib.Core.Bool.{Bool, true, false}
use native.Mathlib.Nat.{zero-add, suc-add}
use native.Mathlib.Omega.{arith}
use borrow.Author.Tests.{eq-eqb, ne_eqb}
use lib.Dec.{eqb}
use Rattle.spec.specs.Choice.{pick}
use Rattle.spec.specs.Lines.{Text, end, byte}
use Rattle.removal_notes.specs.Notes.{text_from}

pub from_start : (t : Text) → text_from 0 0 t ≡ t
unfolding text_from
from_start t = refl

pub from_end : (line place : ℕ) → text_from line place end ≡ end
unfolding text_from
from_end zero zero = refl
from_end zero (suc k) = refl
from_end (suc line) place = refl

module _ (b n : ℕ) (t : Text) where
  pub line-passed : (line place : ℕ) → 0 < line → b ≡ 10 → text_from line place (byte b n t) ≡ text_from (line - 1) place t
  unfolding text_from
  line-passed zero place h e = absurd (omega arith)
  line-passed (suc line) place h e = let one : suc line - 1 ≡ line = omega arith in rw (eq-eqb b 10 e, one)

  pub line_on : (line place : ℕ) → 0 < line → (b ≡ 10 → ⊥) → text_from line place (byte b n t) ≡ text_from line place t
  unfolding text_from
  line_on zero place h e = absurd (omega arith)
  line_on (suc line) place h e = rw (ne_eqb b 10 e)

  pub byte_stop : (k : ℕ) → 0 < k → b ≡ 10 → text_from 0 k (byte b n t) ≡ byte b n t
  unfolding text_from
  byte_stop zero h e = absurd (omega arith)
  byte_stop (suc k) h e = rw (eq-eqb b 10 e)

  pub byte_on : (k : ℕ) → 0 < k → (b ≡ 10 → ⊥) → text_from 0 k (byte b n t) ≡ text_from 0 (k - 1) t
  unfolding text_from
  byte_on zero h e = absurd (omega arith)
  byte_on (suc k) h e = let one : suc k - 1 ≡ k = omega arith in rw (ne_eqb b 10 e, one)

-- ---- from one place to a later one

-- both sides of a choice
chosen : {A B : Type 0} (f : A → B) (x : Bool) {a b : A} {c d : B} → f a ≡ c → f b ≡ d → f (pick x a b) ≡ pick x c d
chosen f true e g = e
chosen f false e g = g

-- a place further in the line
pub bytes_further : (line k j : ℕ) (t : Text) → text_from 0 j (text_from line k t) ≡ text_from line (k + j) t
unfolding text_from
bytes_further zero zero j t = rw (zero-add j) refl
bytes_further zero (suc k) j end = from_end 0 j ∙ sym (from_end 0 (suc k + j))
bytes_further zero (suc k) j (byte b n t) = rw (suc-add k j) (go (eqb b 10) refl (bytes_further zero k j t))
  where
    stay : (j : ℕ) → eqb b 10 ≡ true → text_from 0 j (byte b n t) ≡ byte b n t
    stay zero e = refl
    stay (suc j) e = rw e

    go : (x : Bool) → eqb b 10 ≡ x → text_from 0 j (text_from 0 k t) ≡ text_from 0 (k + j) t
        → text_from 0 j (pick x (byte b n t) (text_from 0 k t)) ≡ pick x (byte b n t) (text_from 0 (k + j) t)
    go true e i = stay j e
    go false e i = i
bytes_further (suc line) k j end = from_end 0 j
bytes_further (suc line) k j (byte b n t) = chosen (text_from 0 j) (eqb b 10) (bytes_further line k j t) (bytes_further (suc line) k j t)

-- a later line
lines_further : (line m place k : ℕ) (t : Text) → text_from (suc m) place (text_from line k t) ≡ text_from (line + suc m) place t
unfolding text_from
lines_further line m place k end = rw (from_end line k) (sym (from_end (line + suc m) place))
lines_further zero m place zero (byte b n t) = rw (zero-add (suc m)) refl
lines_further zero m place (suc k) (byte b n t) = rw (zero-add (suc m)) (go (eqb b 10) refl (rw (zero-add (suc m)) at (lines_further zero m place k t)))
  where
    go : (x : Bool) → eqb b 10 ≡ x → text_from (suc m) place (text_from 0 k t) ≡ text_from (suc m) place t
        → text_from (suc m) place (pick x (byte b n t) (text_from 0 k t)) ≡ pick x (text_from m place t) (text_from (suc m) place t)
    go true e i = rw e
    go false e i = i
lines_further (suc line) m place k (byte b n t) =
    let later = rw (suc-add line (suc m)) at (lines_further (suc line) m place k t) in
    rw (suc-add line (suc m)) (chosen (text_from (suc m) place) (eqb b 10) (lines_further line m place k t) later)

pub lines_later : (from to place k : ℕ) (t : Text) → from < to → text_from (to - from) place (text_from from k t) ≡ text_from to place t
lines_later from to place k t h =
    let e : to - from ≡ suc (to - from - 1) = omega arith in
    let f : from + suc (to - from - 1) ≡ to = omega arith in
    rw e (lines_further from (to - from - 1) place k t ∙ rw f)

pub lines_and_bytes : (lines bytes : ℕ) (t : Text) → text_from 0 bytes (text_from lines 0 t) ≡ text_from lines bytes t
lines_and_bytes lines bytes t = bytes_further lines 0 bytes t ∙ rw (zero-add bytes)
