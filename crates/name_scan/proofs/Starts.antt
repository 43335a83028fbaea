-- Places that are settled because no plain name starts there, or none can have the asked length.
-- Assumes nothing.
use Rattle.std.proofs.Common.{◌≡◌, ℕ, ◌+◌, ◌-◌, ◌<◌, ◌≤◌, Bool, true, false, ◌&&◌, ◌||◌, List, length, get_or, sym, refl, inl, inr, ⊎_elim, arith}
use Rattle.name_places.specs.Marks.{Separator, Alone, Stop, Spelled, Inside, Settled, AllSettled}
use Rattle.name_places.proofs.Places.{or_left, or_right}
use Rattle.name_scan.specs.Blocks.{Start, Startless, Plain}

-- ---- a place is settled

-- where no plain name starts
inside-plain : (n : List ℕ) (b : ℕ) → Plain n → Inside n b → (36 ≤ b) × (b < 128)
inside-plain n b plain (inl x) =
    let w = plain.holds x.0 (omega arith) x.1 in
    rw (← x.2) w
inside-plain n b plain (inr e) = (omega arith, omega arith)

module _ (s n : List ℕ) (plain : Plain n) (some : 0 < length n) where
  settled-start : (k : ℕ) → (Start (get_or s (k + 2) 0) (get_or s (k + 2 + 1) 0) → ⊥) → Settled s n k
  settled-start k none =
      record { uncut = λ x y z w. start (inl x) w; other = λ x y z. absurd (start x.separator (inl (0, some, sym (first y)))) }
    where
      start : Separator (get_or s (k + 2) 0) → Inside n (get_or s (k + 3) 0) → ⊥
      start x w =
          let next : k + 3 ≡ k + 2 + 1 = omega arith in
          let r = rw next at (inside-plain n (get_or s (k + 3) 0) plain w) in
          none (x, r.0, r.1)

      first : Spelled s n (k + 3) → get_or s (k + 3) 0 ≡ get_or n 0 0
      first y =
          let same : k + 3 + 0 ≡ k + 3 = omega arith in
          rw same at (y 0 some)

  -- where the tests of `any_plain_fit` fail
  pub settled_unended :
      (k : ℕ) (start pair stop : Bool)
      → k + 3 + length n < length s
      → (start ≡ false → Start (get_or s (k + 2) 0) (get_or s (k + 3) 0) → ⊥)
      → (pair ≡ false → get_or s (k + 1) 0 ≡ 92 → ⊥)
      → (stop ≡ false → Stop (get_or s (k + 3 + length n) 0) → ⊥)
      → (start && (pair || stop)) ≡ false
      → Settled s n k
  settled_unended k true pair stop h f g j e =
      record {
        uncut = λ x y z w. g (or_left pair stop e) y;
        other = λ x y z. absurd (⊎_elim (λ w. j (or_right pair stop e) w) (λ w. omega arith) x.stops);
      }
  settled_unended k false pair stop h f g j e =
      let next : k + 3 ≡ k + 2 + 1 = omega arith in
      settled-start k (rw next at (f refl))

  pub settled_startless : {a b : ℕ} (c : ℕ) → Startless s c b → c ≡ a + 2 → AllSettled s n a (b - 2)
  settled_startless {a} {b} c x e = record { holds = λ k l m. settled-start k (x.holds (k + 2) (omega arith) (omega arith)) }

-- where the tests of `any_fit` fail
pub settled_unfit :
    (s n : List ℕ) (k : ℕ) (fits cut : Bool)
    → k + 3 + length n < length s
    → (fits ≡ false → Separator (get_or s (k + 2) 0) → Alone (get_or s (k + 1) 0) (get_or s (k + 2) 0) → Stop (get_or s (k + 3 + length n) 0) → ⊥)
    → (cut ≡ false → get_or s (k + 2) 0 ≡ 10 → get_or s (k + 1) 0 ≡ 92 → (get_or s k 0 ≡ 58 → ⊥) → ⊥)
    → (fits || cut) ≡ false
    → Settled s n k
settled_unfit s n k fits cut h f c e =
    record {
      uncut = λ x y z w. c (or_right fits cut e) x y z;
      other = λ x y z. absurd (⊎_elim (λ w. f (or_left fits cut e) x.separator x.alone w) (λ w. omega arith) x.stops);
    }
