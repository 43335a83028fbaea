-- Tests and choices: what holds of both sides of a choice, and what a test of two says of each.
-- Assumes nothing.
use Prim.Native.Nat.{ℕ}
use mathlib.Core.Path.{◌≡◌, refl}
use mathlib.Core.Bool.{Bool, true, false, not}
use native.Mathlib.Omega.{arith}
use Rattle.spec.specs.Choice.{pick, both}

pub clash : {A : Type 0} → true ≡ false → A
clash e = let z : ◌≡◌ {A = ℕ} 0 1 = cc in absurd (omega arith)

pub pick_all {ℓ} : {A : Type ℓ} (P : A → Type 0) (t : Bool) {a b : A} → P a → P b → P (pick t a b)
pick_all P true x y = x
pick_all P false x y = y

-- each side may use how the test came out
pub pick-told {ℓ} : {A : Type ℓ} (P : A → Type 0) (t : Bool) {a b : A} → (t ≡ true → P a) → (t ≡ false → P b) → P (pick t a b)
pick-told P true x y = x refl
pick-told P false x y = y refl

pub both_false : (x : Bool) → both x false ≡ false
both_false true = refl
both_false false = refl

pub both_true : (x y : Bool) → both x y ≡ true → (x ≡ true) × (y ≡ true)
both_true true y e = (refl, e)
both_true false y e = let z : ◌≡◌ {A = ℕ} 0 1 = cc in absurd (omega arith)

pub not_is_true : (x : Bool) → not x ≡ true → x ≡ false
not_is_true true e = let z : ◌≡◌ {A = ℕ} 0 1 = cc in absurd (omega arith)
not_is_true false e = refl
