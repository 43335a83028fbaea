-- The machine by the kinds of its bytes, as the code takes them apart.
-- Assumes nothing.
use Prim.Native.Nat.{ℕ, zero, suc, ◌+◌, ◌-◌, ◌≤◌, ◌<◌}
use mathlib.Core.Path.{◌≡◌, refl, ◌∙◌, ap, sym}
use mathlib.Core.Bool.{Bool, true, false, not, true≢false}
use mathlib.Core.Logic.{◌⊎◌, inl, inr}
use mathlib.Core.List.{List}
use native.Mathlib.Numerals.{add-one}
use native.Mathlib.Omega.{arith}
use borrow.Author.Tests.{eq-eqb, ne_eqb, eqb-true, eqb-false, leb-true}
use lib.Dec.{eqb, ltb, leb}
use lib.ListN.{length, drop, get_or, set, get_or-eq_default}
use lib.Seq.{drop-cons}
use Rattle.spec.specs.Choice.{pick, both, either, between}
use Rattle.spec.specs.Refusals.{name_byte}
use Rattle.spec.specs.declared.finder.LineState.{LineState}
use Rattle.spec.specs.Finder.{Collecting, collecting, collect, matched_after, names_byte, line_byte, line_ends}
use Rattle.spec.specs.Finder.{Feeding, feeding, joined_byte, unheld_byte, one_byte, fed}
use Rattle.laws.proofs.Tests.{both_true}
use Rattle.line_collector.specs.Answers.{at, NoNewline, OtherName}

module _ (name : List ℕ) (k b : ℕ) where
  pub after_over : length name ≤ k → (256 ≡ b → ⊥) → matched_after name k b ≡ 65
  unfolding matched_after
  after_over h n = rw (get_or-eq_default name 256 h, ne_eqb 256 b n)

module _ (name : List ℕ) (l : LineState) (t : List ℕ) (b : ℕ) where
  pub names-other : both (eqb l.count 0) (eqb b 35) ≡ false → (b ≡ 58 → ⊥) → (b ≡ 124 → ⊥) → (s m : ℕ)
      → s ≡ pick (either (eqb b 32) (eqb b 9)) l.stage 1 → m ≡ matched_after name l.matched b
      → names_byte name (at l t) b ≡ collect (collecting s m l.count t) b
  unfolding names_byte
  names-other plain n v s m e q = rw (plain, ne_eqb b 58 n, ne_eqb b 124 v, e, q)

  pub line-passed : l.stage ≡ 3 → line_byte name (at l t) b ≡ at l t
  unfolding line_byte
  line-passed e = rw e

  pub line-names : (l.stage ≡ 2 → ⊥) → (l.stage ≡ 3 → ⊥) → (l.stage ≡ 4 → ⊥) → line_byte name (at l t) b ≡ names_byte name (at l t) b
  unfolding line_byte
  line-names h i j = rw (ne_eqb l.stage 2 h, ne_eqb l.stage 3 i, ne_eqb l.stage 4 j)

  pub joined_end : b ≡ 10 → joined_byte name (at l t) b ≡ line_ends name (at l t)
  unfolding joined_byte
  joined_end e = rw (eq-eqb b 10 e)

  pub joined_on : (b ≡ 10 → ⊥) → joined_byte name (at l t) b ≡ line_byte name (at l t) b
  unfolding joined_byte
  joined_on n = rw (ne_eqb b 10 n)

  pub unheld_slash : b ≡ 92 → unheld_byte name (at l t) b ≡ feeding 1 (at l t)
  unfolding unheld_byte
  unheld_slash e = rw (eq-eqb b 92 e)

  pub unheld_other : (b ≡ 92 → ⊥) → unheld_byte name (at l t) b ≡ feeding 0 (joined_byte name (at l t) b)
  unfolding unheld_byte
  unheld_other n = rw (ne_eqb b 92 n)

module _ (name : List ℕ) (l : LineState) where
  pub end-passed : l.stage ≡ 3 → (t : List ℕ) → line_ends name (at l t) ≡ collecting 0 0 0 t
  unfolding line_ends
  end-passed e t = rw e

-- ---- a byte as it arrives

module _ (name : List ℕ) (x : Collecting) (b h : ℕ) where
  pub held_released : (b ≡ 10 → ⊥) → (h ≡ 0 → ⊥) → one_byte name (feeding h x) b ≡ unheld_byte name (joined_byte name x 92) b
  unfolding one_byte
  held_released n q = rw (ne_eqb h 0 q, ne_eqb b 10 n)

  pub not_held : h ≡ 0 → one_byte name (feeding h x) b ≡ unheld_byte name x b
  unfolding one_byte
  not_held q = rw (eq-eqb h 0 q)

-- ---- a block

pub fed-next : (name s : List ℕ) (f : Feeding) (i : ℕ) → i < length s
    → fed name f (drop i s) ≡ fed name (one_byte name f (get_or s i 0)) (drop (i + 1) s)
unfolding fed
fed-next name s f i h = rw (add-one, drop-cons s i 0)

-- Whether a byte is held.
abbrev pub slash : ℕ → ℕ
slash b = pick (eqb b 92) 1 0

-- In a line that cannot have the name only the last byte counts, up to the next newline.
passed-byte : (name : List ℕ) (l : LineState) (t : List ℕ) (h b : ℕ) → l.stage ≡ 3 → (b ≡ 10 → ⊥)
    → one_byte name (feeding h (at l t)) b ≡ feeding (slash b) (at l t)
passed-byte name l t h b e n = go (eqb h 0) refl
  where
    still : (c : ℕ) → (c ≡ 10 → ⊥) → joined_byte name (at l t) c ≡ at l t
    still c m = joined_on name l t c m ∙ line-passed name l t c e

    plain : unheld_byte name (at l t) b ≡ feeding (slash b) (at l t)
    plain = by (eqb b 92) refl
      where
        by : (y : Bool) → eqb b 92 ≡ y → unheld_byte name (at l t) b ≡ feeding (pick y 1 0) (at l t)
        by true q = unheld_slash name l t b (eqb-true b 92 q)
        by false q = unheld_other name l t b (eqb-false b 92 q) ∙ ap (feeding 0) (still b n)

    go : (y : Bool) → eqb h 0 ≡ y → one_byte name (feeding h (at l t)) b ≡ feeding (slash b) (at l t)
    go true q = not_held name (at l t) b h (eqb-true h 0 q) ∙ plain
    go false q =
        held_released name (at l t) b h n (eqb-false h 0 q) ∙ ap (λ (x : Collecting). unheld_byte name x b) (still 92 (λ m. omega arith)) ∙ plain

-- n bytes and one more
fed-passed : (name : List ℕ) (l : LineState) (t s : List ℕ) (n h i : ℕ) → l.stage ≡ 3 → i + n < length s → NoNewline s i (i + n + 1)
    → fed name (feeding h (at l t)) (drop i s) ≡ fed name (feeding (slash (get_or s (i + n) 0)) (at l t)) (drop (i + n + 1) s)
fed-passed name l t s zero h i e b f =
    let z : i + 0 ≡ i = omega arith in
    let c : i < length s = omega (arith, b) in
    rw z
    (fed-next name s (feeding h (at l t)) i c
    ∙ ap (λ (g : Feeding). fed name g (drop (i + 1) s)) (passed-byte name l t h (get_or s i 0) e (f i (omega arith) (omega arith))))
fed-passed name l t s (suc n) h i e b f =
    let c : i < length s = omega (arith, b) in
    let z : i + 1 + n ≡ i + suc n = omega arith in
    let d : i + 1 + n < length s = omega (arith, b) in
    fed-next name s (feeding h (at l t)) i c
    ∙ ap (λ (g : Feeding). fed name g (drop (i + 1) s)) (passed-byte name l t h (get_or s i 0) e (f i (omega arith) (omega arith)))
    ∙ fed-passed name l t s n (slash (get_or s i 0)) (i + 1) e d (λ k lo hi. f k (omega (arith, lo)) (omega (arith, hi)))
    ∙ ap (λ (m : ℕ). fed name (feeding (slash (get_or s m 0)) (at l t)) (drop (m + 1) s)) z

-- up to a place behind the first
pub fed-to : (name : List ℕ) (l : LineState) (t s : List ℕ) (h i j : ℕ) → l.stage ≡ 3 → i < j → j ≤ length s → NoNewline s i j
    → fed name (feeding h (at l t)) (drop i s) ≡ fed name (feeding (slash (get_or s (j - 1) 0)) (at l t)) (drop j s)
fed-to name l t s h i j e lo hi f =
    let n : ℕ = j - i - 1 in
    let z : i + n ≡ j - 1 = omega (arith, lo) in
    let w : i + n + 1 ≡ j = omega (arith, lo) in
    let b : i + n < length s = omega (arith, lo, hi) in
    fed-passed name l t s n h i e b (λ k x y. f k x (omega (arith, y, lo))) ∙ rw (w, z)

comment-byte : (name t : List ℕ) → one_byte name (feeding 0 (collecting 0 0 0 t)) 35 ≡ feeding 0 (collecting 3 0 0 t)
unfolding one_byte unheld_byte joined_byte line_byte names_byte
comment-byte name t = refl

-- A newline, and a comment behind it.
pub fed-comment : (name : List ℕ) (l : LineState) (t s : List ℕ) (h i : ℕ) → l.stage ≡ 3 → h ≡ 0 → get_or s i 0 ≡ 10 → i + 1 < length s
    → get_or s (i + 1) 0 ≡ 35 → fed name (feeding h (at l t)) (drop i s) ≡ fed name (feeding 0 (collecting 3 0 0 t)) (drop (i + 2) s)
fed-comment name l t s h i e q newline inside hash =
    let c : i < length s = omega (arith, inside) in
    let z : i + 1 + 1 ≡ i + 2 = omega arith in
    fed-next name s (feeding h (at l t)) i c
    ∙ ap (λ (g : Feeding). fed name g (drop (i + 1) s)) ended
    ∙ fed-next name s (feeding 0 (collecting 0 0 0 t)) (i + 1) inside
    ∙ ap (λ (g : Feeding). fed name g (drop (i + 1 + 1) s)) comment
    ∙ ap (λ (m : ℕ). fed name (feeding 0 (collecting 3 0 0 t)) (drop m s)) z
  where
    ended : one_byte name (feeding h (at l t)) (get_or s i 0) ≡ feeding 0 (collecting 0 0 0 t)
    ended =
        rw newline
        (not_held name (at l t) 10 h q ∙ unheld_other name l t 10 (λ m. omega arith)
        ∙ ap (feeding 0) (joined_end name l t 10 refl ∙ end-passed name l e t))

    comment : one_byte name (feeding 0 (collecting 0 0 0 t)) (get_or s (i + 1) 0) ≡ feeding 0 (collecting 3 0 0 t)
    comment = rw hash (comment-byte name t)

-- ---- the bytes of a name that differs from the asked one

-- A byte that a name may have ends nothing.
ordinary : (b : ℕ) → name_byte b ≡ true → (b ≤ 126) × (b ≡ 10 → ⊥) × (b ≡ 92 → ⊥) × (b ≡ 58 → ⊥) × (b ≡ 124 → ⊥)
unfolding name_byte
ordinary b e =
    let w = both_true (between 32 126 b) (not (either (eqb b 124) (either (eqb b 58) (eqb b 92)))) e in
    let r = both_true (leb 32 b) (leb b 126) w.0 in
    let lo = leb-true 32 b r.0 in
    (leb-true b 126 r.1, λ q. omega (arith, lo, q), λ q. off (inr (inr q)) w.1, λ q. off (inr (inl q)) w.1, λ q. off (inl q) w.1)
  where
    off : (b ≡ 124) ⊎ ((b ≡ 58) ⊎ (b ≡ 92)) → not (either (eqb b 124) (either (eqb b 58) (eqb b 92))) ≡ true → ⊥
    off (inl q) h = true≢false (sym h ∙ rw (eq-eqb b 124 q))
    off (inr (inl q)) h = true≢false (sym h ∙ rw (ne_eqb b 124 (omega (arith, q)), eq-eqb b 58 q))
    off (inr (inr q)) h = true≢false (sym h ∙ rw (ne_eqb b 124 (omega (arith, q)), ne_eqb b 58 (omega (arith, q)), eq-eqb b 92 q))

module _ (name : List ℕ) (l : LineState) (t : List ℕ) (b : ℕ) (short : length name ≤ 64) (other : OtherName l) (plain : name_byte b ≡ true) where
  other_joined : joined_byte name (at l t) b ≡ collect (at l t) b
  other_joined =
      let o = ordinary b plain in
      let n : l.count ≡ 0 → ⊥ = λ q. omega (arith, q, other.2) in
      let free : both (eqb l.count 0) (eqb b 35) ≡ false = rw (ne_eqb l.count 0 n) in
      let over : length name ≤ 65 = omega (arith, short) in
      let differs : matched_after name 65 b ≡ 65 = after_over name 65 b over (λ q. omega (arith, q, o.0)) in
      joined_on name l t b o.1
      ∙ line-names name l t b (λ q. omega (arith, q, other.0)) (λ q. omega (arith, q, other.0)) (λ q. omega (arith, q, other.0))
      ∙ names-other name l t b free o.3 o.4 l.stage l.matched (stays (either (eqb b 32) (eqb b 9))) (rw other.1 (sym differs))
    where
      stays : (x : Bool) → l.stage ≡ pick x l.stage 1
      stays true = refl
      stays false = other.0

  pub other_byte : one_byte name (feeding 0 (at l t)) b ≡ feeding 0 (collect (at l t) b)
  other_byte = not_held name (at l t) b 0 refl ∙ unheld_other name l t b (ordinary b plain).2 ∙ ap (feeding 0) other_joined

pub other_stays : (l : LineState) (t : List ℕ) (b : ℕ) → OtherName l → OtherName (collect (at l t) b).line
unfolding collect
other_stays l t b h = go (ltb l.count 16385)
  where
    go : (x : Bool) → OtherName (pick x (collecting l.stage l.matched (l.count + 1) (set t l.count b)) (at l t)).line
    go true = (h.0, h.1, omega arith)
    go false = h
