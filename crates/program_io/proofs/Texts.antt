-- Digits as `io` writes them, and the place of a byte. Assumes nothing.
use Prim.Native.Nat.{ℕ, zero, suc, ◌+◌, ◌*◌, ◌/◌, ◌%◌, ◌^◌, ◌≤◌, ◌<◌}
use mathlib.Core.Path.{◌≡◌, refl, sym, ap, ap₂, ◌∙◌}
use mathlib.Core.Bool.{Bool, true, false, cond, not}
use mathlib.Core.List.{List, [], ◌∷◌, ◌++◌}
use native.Mathlib.Nat.{pow-suc, mod-lt}
use native.Mathlib.Omega.{arith}
use borrow.Author.Tests.{lt-ltb, ltb-false}
use lib.Dec.{eqb, ltb}
use lib.ListN.{length}
use Rattle.std.specs.Prelude.{None, Some}
use Rattle.std.specs.List.{position, position_or_len}
use Rattle.std.proofs.lemmas.List.Recursion.{is_position_or_len}
use Rattle.std.proofs.lemmas.List.Sums.{prefix_len-le-length}
use Rattle.spec.specs.Choice.{pick}
use Rattle.io.specs.Digits.{last_digits, IsDigitCount}
use Rattle.spec.specs.Digits.{spell, written}
use Rattle.spec.specs.Lists.{upto}
use Rattle.laws.proofs.DigitLaws.{spell_last, spell-length, written_is}

digits_spelled : (k n : ℕ) → n < 10 ^ k → last_digits 10 k n ≡ spell 10 k n
unfolding spell
digits_spelled zero n h = refl
digits_spelled (suc k) n h =
    let below : n / 10 < 10 ^ k = (let g : n < 10 ^ k * 10 = rw pow-suc at h in omega arith) in
    let low : n % 10 < 10 = mod-lt n (omega arith) in
    ap₂ (λ (l : List ℕ) (d : ℕ). l ++ (d ∷ [])) (digits_spelled k (n / 10) below) (rw (lt-ltb (n % 10) 10 low))
    ∙ sym (spell_last 10 k n (omega arith) h)

-- the fewest digits are those that are written
module _ (n k : ℕ) (f : IsDigitCount 10 1 n k) where
  pub digits_written : last_digits 10 k n ≡ written 10 1 n
  digits_written = digits_spelled k n f.1 ∙ sym (written_is 10 1 n (omega arith) k f)

  pub written-length : length (written 10 1 n) ≡ k
  written-length = ap length (written_is 10 1 n (omega arith) k f) ∙ spell-length 10 k n

-- ---- where a byte first stands, as `position` counts it

module _ (c : ℕ) where
  place : List ℕ → ℕ
  place l = position_or_len (λ b. eqb b c) l

  upto_place : (l : List ℕ) → length (upto c l) ≡ place l
  unfolding upto place
  upto_place l = is_position_or_len (λ (m : List ℕ). length (upto c m)) (λ (b : ℕ). eqb b c) refl (λ b m. go b m (eqb b c)) l
    where
      go : (b : ℕ) (m : List ℕ) (x : Bool) → length (pick x [] (b ∷ upto c m)) ≡ cond x 0 (1 + length (upto c m))
      go b m true = refl
      go b m false = omega arith

  pub upto_found : (l : List ℕ) {i : ℕ} → Some i ≡ position (λ b. eqb b c) l → (i ≡ length (upto c l)) × (i ≤ length l)
  unfolding place
  upto_found l {i} e =
      let at : i ≡ place l = go (ltb (place l) (length l)) e in
      (at ∙ sym (upto_place l), omega (arith, at, prefix_len-le-length (λ b. not (eqb b c)) l))
    where
      go : {i : ℕ} (x : Bool) → Some i ≡ cond x (Some (place l)) None → i ≡ place l
      go true e = cc
      go false e = cc

  pub upto_all : (l : List ℕ) → None ≡ position (λ b. eqb b c) l → length l ≡ length (upto c l)
  unfolding place
  upto_all l e = go (ltb (place l) (length l)) refl e ∙ sym (upto_place l)
    where
      go : (x : Bool) → ltb (place l) (length l) ≡ x → None ≡ cond x (Some (place l)) None → length l ≡ place l
      go true f e = cc
      go false f e = omega (arith, ltb-false _ _ f, prefix_len-le-length (λ b. not (eqb b c)) l)
