-- Sixteen places at once: the marks of their names, the measure of one name, and what they settle.
-- Assumes nothing.
use Prim.Native.Nat.{ℕ, ◌+◌, ◌-◌, ◌≤◌, ◌<◌}
use mathlib.Core.Path.{◌≡◌, refl}
use mathlib.Core.Bool.{Bool, true, false}
use mathlib.Core.List.{List}
use mathlib.Core.Logic.{◌⊎◌, inl, inr, ⊎_elim}
use native.Mathlib.Omega.{arith}
use borrow.Author.Tests.{eqb-true, eqb-false}
use Rattle.std.specs.Ordering.{nat_cmp, ord_max}
use Rattle.std.proofs.lemmas.Bool.Decides.{nat_tests}
use lib.Dec.{eqb}
use lib.ListN.{length, get_or}
use Rattle.name_places.specs.Marks.{Separator, Alone, Ending, Stop, Spelled, Whole, Fits, Settled, AllSettled, mark_of, Marked, Measured}

-- ---- the marks

-- `max` of two of them
pub higher : {a b r : ℕ} → r ≡ ord_max nat_cmp a b → (a ≤ r) × (b ≤ r) × ((r ≡ a) ⊎ (r ≡ b))
higher e = grind (arith, nat_tests)

-- one place more, by the tests of it
module _ (s n : List ℕ) (a k : ℕ) (fits cut : Bool) (low-k : k < 16) (near : a + k + 3 + length n < length s) where
  abbrev Unfit : Type 0
  Unfit =
      fits ≡ false → Separator (get_or s (a + k + 2) 0) → Alone (get_or s (a + k + 1) 0) (get_or s (a + k + 2) 0)
      → Stop (get_or s (a + k + 3 + length n) 0) → ⊥

  abbrev Uncut : Type 0
  Uncut = get_or s (a + k + 2) 0 ≡ 10 → get_or s (a + k + 1) 0 ≡ 92 → (get_or s (a + k) 0 ≡ 58 → ⊥) → ⊥

  must_fit : Unfit → Fits s n (a + k) → fits ≡ true
  must_fit f x = go fits refl
    where
      go : (y : Bool) → fits ≡ y → fits ≡ true
      go true e = e
      go false e = absurd (⊎_elim (λ w. f e x.separator x.alone w) (λ w. omega arith) x.stops)

  pub marked_more :
      {high low high' low' m l : ℕ} → Marked s n a k high low → Unfit → (fits ≡ true → Separator (get_or s (a + k + 2) 0)) → (cut ≡ false → Uncut)
      → m ≡ mark_of cut fits (k + 1) → high ≤ high' → m ≤ high' → (high' ≡ high) ⊎ (high' ≡ m)
      → l ≡ mark_of false fits (16 - k) → low ≤ low' → l ≤ low' → (low' ≡ low) ⊎ (low' ≡ l)
      → Marked s n a (k + 1) high' low'
  marked_more {high} {low} {high'} {low'} {m} {l} x f g c e h i q d o p r =
      record {
        uncut = λ u j v. uncut u j v (eqb j k) refl;
        upto = λ j v w. upto j v w (eqb j k) refl;
        from = λ j v w. from j v w (eqb j k) refl;
        separator = ⊎_elim (λ w. rw w x.separator) (λ w. separator cut fits refl refl (rw e at w)) q;
        highest = ⊎_elim (λ w. ⊎_elim (λ z. inl (omega arith)) (λ z. inr (omega arith)) x.highest) (λ w. highest cut fits (rw e at w)) q;
        lowest = ⊎_elim (λ w. let z = x.lowest in omega arith) (λ w. lowest fits (rw d at w)) r;
      }
    where
      uncut : high' < 64 → (j : ℕ) → j < k + 1 → (y : Bool) → eqb j k ≡ y → get_or s (a + j + 2) 0 ≡ 10 → get_or s (a + j + 1) 0 ≡ 92 →
          (get_or s (a + j) 0 ≡ 58 → ⊥) → ⊥
      uncut u j v true y = rw (eqb-true j k y) (c (go cut refl))
        where
          go : (z : Bool) → cut ≡ z → cut ≡ false
          go false z = z
          go true z =
              let w : m ≡ 64 = rw z at e in
              absurd (omega arith)
      uncut u j v false y = let z = eqb-false j k y in x.uncut (omega arith) j (omega arith)

      upto : (j : ℕ) → j < k + 1 → Fits s n (a + j) → (y : Bool) → eqb j k ≡ y → j + 1 ≤ high'
      upto j v w true y =
          let z = eqb-true j k y in
          let t = must_fit f (rw z at w) in
          go cut (rw t at e)
        where
          go : (b : Bool) → m ≡ mark_of b true (k + 1) → j + 1 ≤ high'
          go true o = let z = eqb-true j k y in omega arith
          go false o = let z = eqb-true j k y in omega arith
      upto j v w false y =
          let z = eqb-false j k y in
          let t = x.upto j (omega arith) w in
          omega arith

      from : (j : ℕ) → j < k + 1 → Fits s n (a + j) → (y : Bool) → eqb j k ≡ y → 16 ≤ low' + j
      from j v w true y =
          let z = eqb-true j k y in
          let t = must_fit f (rw z at w) in
          let b : l ≡ 16 - k = rw t at d in
          omega arith
      from j v w false y =
          let z = eqb-false j k y in
          let t = x.from j (omega arith) w in
          omega arith

      separator : (y z : Bool) → cut ≡ y → fits ≡ z → high' ≡ mark_of y z (k + 1) → (high' ≡ 0) ⊎ ((64 ≤ high') ⊎ Separator (get_or s (a + high' + 1) 0))
      separator true z u v w = inr (inl (omega arith))
      separator false true u v w =
          let same : a + high' + 1 ≡ a + k + 2 = omega arith in
          inr (inr (rw same (g v)))
      separator false false u v w = inl w

      highest : (y z : Bool) → high' ≡ mark_of y z (k + 1) → (high' ≤ k + 1) ⊎ (high' ≡ 64)
      highest true z w = inr w
      highest false true w = inl (omega arith)
      highest false false w = inl (omega arith)

      lowest : (z : Bool) → low' ≡ mark_of false z (16 - k) → low' ≤ 16
      lowest true w = omega arith
      lowest false w = omega arith

-- ---- the measure of a name

-- Of the k bytes from the place p on, the first that ends a name stands at p + 32 - far, or there is none.
pub record Far (s : List ℕ) (p k far : ℕ) : Type 0 where
  pub most : far ≤ 32
  pub none : (j : ℕ) → j < k → Ending (get_or s (p + j) 0) → 32 ≤ far + j
  pub ends : (far ≡ 0) ⊎ Ending (get_or s (p + (32 - far)) 0)

pub measured : (s : List ℕ) (p far : ℕ) → Far s p 32 far → Measured s p (32 - far)
measured s p far x =
    record {
      most = omega arith;
      whole = record { holds = λ i h g w. none i h g w };
      ends = λ h. ⊎_elim (λ w. absurd (omega arith)) (λ w. w) x.ends;
    }
  where
    none : (i : ℕ) → p ≤ i → i < p + (32 - far) → Ending (get_or s i 0) → ⊥
    none i h g w =
        let same : i ≡ p + (i - p) = omega arith in
        let t = x.none (i - p) (omega arith) (rw same at w) in
        omega arith

-- ---- the last of the marked places is the only one that matters

is_ending : (b : ℕ) → Separator b → Ending b
is_ending b (inl e) = inl e
is_ending b (inr e) = inr (inr e)

pub settled-marked :
    (s n : List ℕ) (a high low : ℕ) → Marked s n a 16 high low → high ≤ 16 → high + low ≤ length n + 17
    → (0 < high → Spelled s n (a + high + 2) → Whole s (a + high + 2) (a + high + 2 + length n) → ⊥) → AllSettled s n a (a + 16)
settled-marked s n a high low x h g unlike = record { holds = λ k l m. settled k l m (k - a) (omega arith) }
  where
    other : (j : ℕ) → j < 16 → Fits s n (a + j) → Spelled s n (a + j + 3) → Whole s (a + j + 3) (a + j + 3 + length n) → (y : Bool) → eqb (j + 1) high ≡ y → ⊥
    other j l f sp wh true y =
        let z = eqb-true (j + 1) high y in
        let same : a + high + 2 ≡ a + j + 3 = omega arith in
        unlike (omega arith) (rw same sp) (rw same wh)
    other j l f sp wh false y =
        let z = eqb-false (j + 1) high y in
        let u = x.upto j l f in
        let v = x.from j l f in
        ⊎_elim (λ w. omega arith) (λ w. ⊎_elim (λ o. omega arith) (λ o. wh.holds (a + high + 1) (omega arith) (omega arith) (is_ending _ o)) w)
        x.separator

    settled : (k : ℕ) → a ≤ k → k < a + 16 → (j : ℕ) → k ≡ a + j → Settled s n k
    settled k l m j e =
        rw e (record {
          uncut = λ u v w z. x.uncut (omega arith) j (omega arith) u v w;
          other = λ u v w. absurd (other j (omega arith) u v w (eqb (j + 1) high) refl);
        })
