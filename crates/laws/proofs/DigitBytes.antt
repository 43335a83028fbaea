-- Whether a byte is a digit, once over the base. Assumes nothing.
use Prim.Native.Nat.{ℕ, ◌+◌, ◌≤◌, ◌<◌}
use mathlib.Core.Path.{◌≡◌, refl}
use mathlib.Core.Bool.{Bool, true, false}
use borrow.Author.Tests.{le-leb, lt-ltb, leb-true, ltb-true}
use lib.Dec.{leb, ltb}
use Rattle.spec.specs.Choice.{both}
use Rattle.spec.specs.Digits.{is_digit}
use Rattle.laws.proofs.Tests.{both_true}

module _ (base b : ℕ) where
  pub digit_is : 48 ≤ b → b < 48 + base → is_digit base b ≡ true
  digit_is low high = rw (le-leb 48 b low, lt-ltb b (48 + base) high)

  pub digit_not : ((48 ≤ b) × (b < 48 + base) → ⊥) → is_digit base b ≡ false
  digit_not n = go (leb 48 b) refl (ltb b (48 + base)) refl
    where
      go : (x : Bool) → leb 48 b ≡ x → (y : Bool) → ltb b (48 + base) ≡ y → both x y ≡ false
      go true e true f = absurd (n (leb-true 48 b e, ltb-true b (48 + base) f))
      go true e false f = refl
      go false e y f = refl

  pub digit_low : is_digit base b ≡ true → 48 ≤ b
  digit_low e = leb-true 48 b (both_true (leb 48 b) (ltb b (48 + base)) e).0

  pub digit_high : is_digit base b ≡ true → b < 48 + base
  digit_high e = ltb-true b (48 + base) (both_true (leb 48 b) (ltb b (48 + base)) e).1
