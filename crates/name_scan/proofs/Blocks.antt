-- Lists of blocks: the laws of `Listed`, and what they say of the places before a block.
-- Assumes nothing.
use Rattle.std.proofs.Common.{◌≡◌, ℕ, zero, suc, ◌+◌, ◌-◌, ◌*◌, ◌<◌, ◌≤◌, Bool, true, false, eqb, ltb, ◌⊎◌, List, length, get_or, set, sym, refl, ◌∙◌}
use Rattle.std.proofs.Common.{inl, inr, ⊎_elim, arith, get_or-set_other, get_or-set_same, ltb-false, ltb-true, eqb-true}
use borrow.Author.Tests.{eqb-false}
use Rattle.name_places.specs.Marks.{AllSettled}
use Rattle.name_scan.specs.Blocks.{Listed, counted, StartsListed, BlocksListed, Plain}
use Rattle.name_places.proofs.Places.{each_none, each_to, each_in, each_join}
use Rattle.name_scan.proofs.Starts.{settled_startless}

module _ {F : ℕ → Type 0} {l : List ℕ} where
  module _ {n k : ℕ} (x : Listed F l n k) where
    -- what is free by another measure
    pub listed_as : {G : ℕ → Type 0} → ((j : ℕ) → j < k → F j → G j) → Listed G l n k
    listed_as f =
        record {
          few = x.few;
          below = x.below;
          rising = x.rising;
          all = λ j h. ⊎_elim (λ w. inl (f j h w)) (λ w. inr w) (x.all j h);
        }

    -- a free number
    pub listed-past : F k → Listed F l n (k + 1)
    listed-past free =
        record {
          few = let h = x.few in omega arith;
          below = λ c h. let w = x.below c h in omega arith;
          rising = x.rising;
          all = λ j h. go j h (eqb j k) refl;
        }
      where
        go : (j : ℕ) → j < k + 1 → (y : Bool) → eqb j k ≡ y → F j ⊎ ((c : ℕ) × (c < n) × (get_or l c 0 ≡ j))
        go j h true e = let z = eqb-true j k e in inl (rw z free)
        go j h false e = let z = eqb-false j k e in x.all j (omega arith)

    -- a number that is stored next
    listed_more : get_or l n 0 ≡ k → Listed F l (n + 1) (k + 1)
    listed_more f =
        record {
          few = let h = x.few in omega arith;
          below = λ c h. below c h (eqb c n) refl;
          rising = λ c d g h. rising c d g h (eqb d n) refl;
          all = λ j h. all j h (eqb j k) refl;
        }
      where
        below : (c : ℕ) → c < n + 1 → (y : Bool) → eqb c n ≡ y → get_or l c 0 < k + 1
        below c h true e = let z = eqb-true c n e in rw (z, f) (omega arith)
        below c h false e = let z = eqb-false c n e in let w = x.below c (omega arith) in omega arith

        rising : (c d : ℕ) → c < d → d < n + 1 → (y : Bool) → eqb d n ≡ y → get_or l c 0 < get_or l d 0
        rising c d g h true e = let z = eqb-true d n e in rw (z, f) (x.below c (omega arith))
        rising c d g h false e = let z = eqb-false d n e in x.rising c d g (omega arith)

        all : (j : ℕ) → j < k + 1 → (y : Bool) → eqb j k ≡ y → F j ⊎ ((c : ℕ) × (c < n + 1) × (get_or l c 0 ≡ j))
        all j h true e = let z = eqb-true j k e in inr (n, omega arith, f ∙ sym z)
        all j h false e =
            let z = eqb-false j k e in
            ⊎_elim (λ w. inl w) (λ w. inr (w.0, let v = w.1 in omega arith, w.2)) (x.all j (omega arith))

    -- a store behind the listed ones
    listed_store : (b : ℕ) → Listed F (set l n b) n k
    listed_store b =
        record {
          few = x.few;
          below = λ c h. rw (kept c h) (x.below c h);
          rising = λ c d g h. rw (kept c (omega arith), kept d h) (x.rising c d g h);
          all = λ j h. ⊎_elim (λ w. inl w) (λ w. inr (w.0, w.1, kept w.0 w.1 ∙ w.2)) (x.all j h);
        }
      where
        kept : (c : ℕ) → c < n → get_or (set l n b) c 0 ≡ get_or l c 0
        kept c h = get_or-set_other l n c b 0 (λ e. omega arith)

-- `note`, with the number k
pub listed-note : {F : ℕ → Type 0} {l : List ℕ} {n k : ℕ} → Listed F l n k → n < length l → (keep : Bool) → (keep ≡ false → F k) → Listed F (set l n k)
    (counted keep n) (k + 1)
listed-note {l = l} {n = n} {k = k} x h true f = listed_more (listed_store x k) (get_or-set_same l n k 0 h)
listed-note {k = k} x h false f = listed-past (listed_store x k) (f refl)

pub noted : {F : ℕ → Type 0} {l m : List ℕ} {n k q r : ℕ} (keep : Bool) → Listed F l n k → n < length l → (keep ≡ false → F k) → r ≡ counted keep n → m ≡ set
    l n q → q ≡ k → Listed F m r (k + 1)
noted keep x h f e g i = rw (e, g, i) (listed-note x h keep f)

pub counted-most : (keep : Bool) (n : ℕ) → counted keep n ≤ n + 1
counted-most true n = omega arith
counted-most false n = omega arith

-- blocks without a start are settled
pub settled-starts : (s n : List ℕ) (a : ℕ) {l : List ℕ} {m k : ℕ} → Plain n → 0 < length n → StartsListed s (a + 2) l m k → BlocksListed 48 s n a l m k
settled-starts s n a plain some x = listed_as x (λ j h w. each_to (a + j * 48 + 48) (settled_startless s n plain some _ w (omega arith)) (omega arith))

-- ---- the three parts of a block, of 16 places each

module _ {s n : List ℕ} (a : ℕ) {l : List ℕ} {m : ℕ} where
  -- of a block that is settled
  parts_past : (j : ℕ) → BlocksListed 16 s n a l m (j * 3) → AllSettled s n (a + j * 48) (a + j * 48 + 48) → BlocksListed 16 s n a l m ((j + 1) * 3)
  parts_past j x y =
      let three : (j + 1) * 3 ≡ j * 3 + 1 + 1 + 1 = omega arith in
      rw three (listed-past (listed-past (listed-past x (each_in y (omega arith) (omega arith))) (each_in y (omega arith) (omega arith)))
      (each_in y (omega arith) (omega arith)))

  -- of d blocks that are
  parts_over : (d e : ℕ) → BlocksListed 16 s n a l m (e * 3) → ((j : ℕ) → e ≤ j → j < e + d → AllSettled s n (a + j * 48) (a + j * 48 + 48)) → BlocksListed 16
      s n a l m ((e + d) * 3)
  parts_over zero e x q =
      let same : e + 0 ≡ e = omega arith in
      rw same x
  parts_over (suc d) e x q =
      let next : e + suc d ≡ e + d + 1 = omega arith in
      rw next (parts_past (e + d) (parts_over d e x (λ j h g. q j h (omega arith))) (q (e + d) (omega arith) (omega arith)))

-- The blocks before e are done, of those that are listed: the first c of the list l.
pub record Reached (l : List ℕ) (c count e : ℕ) : Type 0 where
  pub done : (d : ℕ) → d < c → get_or l d 0 < e
  pub ahead : (d : ℕ) → c ≤ d → d < count → e ≤ get_or l d 0

module _ {s n : List ℕ} (a : ℕ) {blocks : List ℕ} {count k : ℕ} (x : BlocksListed 48 s n a blocks count k) where
  -- from one listed block to the next, or to the end
  pub parts_to : {l : List ℕ} {m c e : ℕ} (f : ℕ) → e ≤ f → f ≤ k → Reached blocks c count e → ((d : ℕ) → c ≤ d → d < count → f ≤ get_or blocks d 0) →
      BlocksListed 16 s n a l m (e * 3) → BlocksListed 16 s n a l m (f * 3)
  parts_to {c = c} {e = e} f h u r q y = rw (← sum) (parts_over a (f - e) e y (λ j g v. free j g (omega arith)))
    where
      sum : e + (f - e) ≡ f
      sum = omega arith

      free : (j : ℕ) → e ≤ j → j < f → AllSettled s n (a + j * 48) (a + j * 48 + 48)
      free j g v = ⊎_elim (λ w. w) (λ w. absurd (listed w.0 w.1 w.2 (ltb w.0 c) refl)) (x.all j (omega arith))
        where
          listed : (d : ℕ) → d < count → get_or blocks d 0 ≡ j → (z : Bool) → ltb d c ≡ z → ⊥
          listed d i o true z = let w = r.done d (ltb-true d c z) in omega arith
          listed d i o false z = let w = q d (ltb-false d c z) i in omega arith

  pub rising-from : (c d : ℕ) → c ≤ d → d < count → get_or blocks c 0 ≤ get_or blocks d 0
  rising-from c d h g = go (eqb c d) refl
    where
      go : (y : Bool) → eqb c d ≡ y → get_or blocks c 0 ≤ get_or blocks d 0
      go true y = let z = eqb-true c d y in rw z (omega arith)
      go false y =
          let z = eqb-false c d y in
          let w = x.rising c d (omega arith) g in
          omega arith

  pub reached_more : {c e : ℕ} → Reached blocks c count e → c < count → Reached blocks (c + 1) count (get_or blocks c 0 + 1)
  reached_more {c = c} r h = record { done = λ d g. go d g (eqb d c) refl; ahead = λ d g i. let w = x.rising c d (omega arith) i in omega arith }
    where
      go : (d : ℕ) → d < c + 1 → (z : Bool) → eqb d c ≡ z → get_or blocks d 0 < get_or blocks c 0 + 1
      go d g true z = let w = eqb-true d c z in rw w (omega arith)
      go d g false z =
          let w = eqb-false d c z in
          let v = x.rising d c (omega arith) h in
          omega arith

-- ---- parts that are settled, one after the other

settled_parts : (s n : List ℕ) (a k : ℕ) → ((j : ℕ) → j < k → AllSettled s n (a + j * 16) (a + j * 16 + 16)) → AllSettled s n a (a + k * 16)
settled_parts s n a zero q = each_none _ (omega arith)
settled_parts s n a (suc k) q = each_to (a + suc k * 16) (each_join (a + k * 16) (settled_parts s n a k (λ j h. q j (omega arith))) (q k (omega arith)))
    (omega arith)

module _ (s n : List ℕ) (a : ℕ) (l : List ℕ) (m k : ℕ) (x : BlocksListed 16 s n a l m k) where
  settled_part :
      (c : ℕ) → ((d : ℕ) → d < c → AllSettled s n (a + get_or l d 0 * 16) (a + get_or l d 0 * 16 + 16)) → (j : ℕ) → j < k
      → ((d : ℕ) → d < m → get_or l d 0 ≡ j → d < c) → AllSettled s n (a + j * 16) (a + j * 16 + 16)
  settled_part c q j h before = ⊎_elim (λ w. w) (λ w. listed w.0 w.2 (before w.0 w.1 w.2)) (x.all j h)
    where
      listed : (d : ℕ) → get_or l d 0 ≡ j → d < c → AllSettled s n (a + j * 16) (a + j * 16 + 16)
      listed d e g = rw e at (q d g)

  -- before the part at c of the list
  pub settled_before : (c : ℕ) → c < m → ((d : ℕ) → d < c → AllSettled s n (a + get_or l d 0 * 16) (a + get_or l d 0 * 16 + 16)) → AllSettled s n a
      (a + get_or l c 0 * 16)
  settled_before c h q = settled_parts s n a (get_or l c 0)
      (λ j g. settled_part c q j (let w = x.below c h in omega arith) (λ d u e. before j g d u e (ltb d c) (eqb d c) refl refl))
    where
      before : (j : ℕ) → j < get_or l c 0 → (d : ℕ) → d < m → get_or l d 0 ≡ j → (y z : Bool) → ltb d c ≡ y → eqb d c ≡ z → d < c
      before j g d u e true z f i = ltb-true d c f
      before j g d u e false true f i =
          let same = eqb-true d c i in
          let w = rw same at e in
          absurd (omega arith)
      before j g d u e false false f i =
          let v = ltb-false d c f in
          let o = eqb-false d c i in
          let w = x.rising c d (omega arith) u in
          absurd (omega arith)

  -- all of them
  pub settled-all : ((d : ℕ) → d < m → AllSettled s n (a + get_or l d 0 * 16) (a + get_or l d 0 * 16 + 16)) → AllSettled s n a (a + k * 16)
  settled-all q = settled_parts s n a k (λ j h. settled_part m q j h (λ d u e. u))
