-- Texts that are stored one after the other, and what is shown of a text. Assumes nothing.
use Prim.Native.Nat.{ℕ, zero, suc, ◌+◌, ◌-◌, ◌/◌, ◌%◌, ◌≤◌, ◌<◌}
use mathlib.Core.Path.{◌≡◌, refl, sym, ◌∙◌}
use mathlib.Core.Bool.{true, false}
use mathlib.Core.List.{List, [], ◌∷◌, ◌++◌}
use native.Mathlib.Numerals.{add-one}
use native.Mathlib.Omega.{arith}
use borrow.Author.Tests.{lt-ltb, le-ltb}
use lib.ListN.{set, length-append}
use Rattle.spec.specs.Choice.{between}
use Rattle.spec.specs.Lines.{Text, end, byte}
use Rattle.laws.proofs.Stores.{stored-append}
use Rattle.removal_notes.specs.Notes.{Put, shown_byte, shown_bytes, shown}

-- a text behind a text
pub put_then : {out m o x y : List ℕ} {at r q : ℕ} → Put x out at m r → Put y m r o q → Put (x ++ y) out at o q
put_then {out} {m} {o} {x} {y} {at} p s = record {
  place = omega (arith, length-append x y, p.place, s.place);
  stored = s.stored ∙ rw (p.stored, p.place) (sym (stored-append out at x y));
}

-- a text behind a byte
pub put-after : {out m o w : List ℕ} {at b q : ℕ} → m ≡ set out at b → Put w m (at + 1) o q → Put (b ∷ w) out at o q
put-after e s = record { place = omega (arith, s.place); stored = s.stored ∙ rw (e, add-one) }

module _ (b : ℕ) where
  pub shown-plain : between 32 126 b ≡ true → shown_byte b ≡ b ∷ []
  unfolding shown_byte
  shown-plain e = rw e

  pub shown-other : between 32 126 b ≡ false → shown_byte b ≡ 92 ∷ (48 + b / 64) ∷ (48 + b / 8 % 8) ∷ (48 + b % 8) ∷ []
  unfolding shown_byte
  shown-other e = rw e

pub shown-none : (t : Text) → shown_bytes 0 t ≡ []
unfolding shown_bytes
shown-none t = refl

pub shown-end : (k : ℕ) → shown_bytes k end ≡ []
unfolding shown_bytes
shown-end zero = refl
shown-end (suc k) = refl

pub shown-next : (b n : ℕ) (t : Text) (k : ℕ) → 0 < k → shown_bytes k (byte b n t) ≡ shown_byte b ++ shown_bytes (k - 1) t
unfolding shown_bytes
shown-next b n t zero h = absurd (omega arith)
shown-next b n t (suc k) h = let one : suc k - 1 ≡ k = omega arith in rw one

pub shown_long : (count : ℕ) (t : Text) → 60 < count → shown count t ≡ shown_bytes 60 t ++ 46 ∷ 46 ∷ 46 ∷ []
unfolding shown
shown_long count t h = rw (lt-ltb 60 count h)

pub shown-short : (count : ℕ) (t : Text) → count ≤ 60 → shown count t ≡ shown_bytes count t
unfolding shown
shown-short count t h = rw (le-ltb 60 count h)
