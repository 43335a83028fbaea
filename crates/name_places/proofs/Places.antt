-- Laws of tests that are joined by "or", of what holds of each place of a range, and of places passed over.
-- Assumes nothing.
use Prim.Native.Nat.{ℕ, ◌+◌, ◌≤◌, ◌<◌}
use mathlib.Core.Path.{◌≡◌, refl}
use mathlib.Core.Bool.{Bool, true, false, ◌||◌, true≢false}
use mathlib.Core.List.{List}
use native.Mathlib.Omega.{arith}
use borrow.Author.Tests.{eqb-true, eqb-false, ltb-true, ltb-false}
use lib.Dec.{eqb, ltb}
use lib.ListN.{length}
use Rattle.name_places.specs.Marks.{Each, Passed}

pub or_left : (x y : Bool) → (x || y) ≡ false → x ≡ false
or_left true y e = e
or_left false y e = refl

pub or_right : (x y : Bool) → (x || y) ≡ false → y ≡ false
or_right true y e = absurd (true≢false e)
or_right false y e = e

-- ---- each place of a range

module _ {P : ℕ → Type 0} {a : ℕ} where
  pub each_none : (b : ℕ) → b ≤ a → Each P a b
  each_none b h = record { holds = λ k l m. absurd (omega arith) }

  pub each_to : {b : ℕ} (c : ℕ) → Each P a b → c ≤ b → Each P a c
  each_to c q h = record { holds = λ k l m. q.holds k l (omega arith) }

  pub each_in : {b : ℕ} {p q : ℕ} → Each P p q → p ≤ a → b ≤ q → Each P a b
  each_in x h l = record { holds = λ k g m. x.holds k (omega arith) (omega arith) }

  pub each_one : (j : ℕ) → Each P a j → P j → Each P a (j + 1)
  each_one j q x = record { holds = λ k l m. go k l m (eqb k j) refl }
    where
      go : (k : ℕ) → a ≤ k → k < j + 1 → (y : Bool) → eqb k j ≡ y → P k
      go k l m true e =
          let z = eqb-true k j e in
          rw z x
      go k l m false e =
          let z = eqb-false k j e in
          q.holds k l (omega arith)

  pub each_join : {b : ℕ} (j : ℕ) → Each P a j → Each P j b → Each P a b
  each_join {b = b} j x y = record { holds = λ k l m. go k l m (ltb k j) refl }
    where
      go : (k : ℕ) → a ≤ k → k < b → (z : Bool) → ltb k j ≡ z → P k
      go k l m true e = x.holds k l (ltb-true k j e)
      go k l m false e = y.holds k (ltb-false k j e) m

-- ---- places passed over

module _ {s n : List ℕ} {a : ℕ} where
  pub passed_none : (r : ℕ) → r ≡ a → r + 2 ≤ length s → Passed s n a r
  passed_none r e h = record { from = omega arith; inside = h; settled = each_none r (omega arith) }

  pub passed-join : {i r : ℕ} → Passed s n a i → Passed s n i r → Passed s n a r
  passed-join {i = i} x y =
      let f = x.from in
      let g = y.from in
      record { from = omega arith; inside = y.inside; settled = each_join i x.settled y.settled }
