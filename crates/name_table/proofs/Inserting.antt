-- Putting a number into the list, and the bounds of the list afterwards.
-- Assumes nothing.
use Prim.Native.Nat.{ℕ, zero, suc, ◌+◌, ◌-◌, ◌≤◌, ◌<◌}
use mathlib.Core.Path.{◌≡◌, refl, ◌∙◌}
use mathlib.Core.List.{List, [], ◌∷◌, ◌++◌}
use native.Mathlib.Numerals.{add-one}
use native.Mathlib.Omega.{arith}
use borrow.Author.Tests.{lt-ltb, le-ltb}
use lib.ListN.{length, take, drop, get_or, set}
use Rattle.std.specs.List.{copy_within}
use Rattle.std.proofs.Common.{append_assoc}
use Rattle.std.proofs.lemmas.Slice.{between_is}
use lib.Seq.{slice, take-suc, set_at, append_snoc, length-take-le, get_or-drop}
use Rattle.name_table.specs.Table.{AtMost, Table, text_of, place_in, slot_of, inserted, listed, listing, Lists}

-- What stands from a place on, of the first `count`, moved up by one, and a number put there.
pub inserted_is : (l : List ℕ) (count at : ℕ) → count < length l → at ≤ count
    → (new : List ℕ) (j : ℕ) → new ≡ copy_within l at count (at + 1) → set new at j ≡ inserted l count at j
unfolding inserted
inserted_is l count at room inside new j e =
    let here : at < length l = omega arith in
    let whole : at ≤ length l = omega arith in
    let behind : at + 1 + (count - at) ≡ count + 1 = omega arith in
    let moved = slice at count l ++ drop (count + 1) l in
    rw (e, between_is l at count, behind, append_assoc, add-one at, take-suc l at 0 here, append_snoc (take at l) (get_or l at 0) moved)
    (set_at (take at l) (get_or l at 0) moved j at (length-take-le at l whole))

module _ (most : ℕ) where
  at-most-append : (a b : List ℕ) → ((i : ℕ) → get_or a i 0 ≤ most) → ((i : ℕ) → get_or b i 0 ≤ most) → (i : ℕ) → get_or (a ++ b) i 0 ≤ most
  at-most-append [] b f g i = g i
  at-most-append (x ∷ a) b f g zero = f 0
  at-most-append (x ∷ a) b f g (suc i) = at-most-append a b (λ k. f (suc k)) g i

  at-most-take : (n : ℕ) (l : List ℕ) → ((i : ℕ) → get_or l i 0 ≤ most) → (i : ℕ) → get_or (take n l) i 0 ≤ most
  at-most-take zero l f i = omega arith
  at-most-take (suc n) [] f i = omega arith
  at-most-take (suc n) (x ∷ l) f zero = f 0
  at-most-take (suc n) (x ∷ l) f (suc i) = at-most-take n l (λ k. f (suc k)) i

  at-most-drop : (n : ℕ) (l : List ℕ) → ((i : ℕ) → get_or l i 0 ≤ most) → (i : ℕ) → get_or (drop n l) i 0 ≤ most
  at-most-drop n l f i = rw (get_or-drop n l i 0) (f (n + i))

  pub at-most-inserted : (l : List ℕ) (count at j : ℕ) → AtMost most l → j ≤ most → AtMost most (inserted l count at j)
  unfolding AtMost inserted
  at-most-inserted l count at j f m =
      let behind = at-most-append (slice at count l) (drop (count + 1) l) (at-most-drop at (take count l) (at-most-take count l f))
      (at-most-drop (count + 1) l f) in
      at-most-append (take at l) (j ∷ (slice at count l ++ drop (count + 1) l)) (at-most-take at l f)
      (at-most-append (j ∷ []) (slice at count l ++ drop (count + 1) l) (first j m) behind)
    where
      first : (j : ℕ) → j ≤ most → (i : ℕ) → get_or (j ∷ []) i 0 ≤ most
      first j m zero = m
      first j m (suc i) = omega arith

pub inserted_table : (bytes lens order : List ℕ) (count at j : ℕ) (new : List ℕ) → Table bytes lens order → j < length lens → length new ≡ length order
    → new ≡ inserted order count at j → Table bytes lens new
inserted_table bytes lens order count at j new t h e f =
    let within : j ≤ length lens - 1 = omega arith in
    record {
      some = t.some;
      few = t.few;
      room = t.room;
      short = t.short;
      listed = e ∙ t.listed;
      inside = rw f (at-most-inserted (length lens - 1) order count at j t.inside within);
    }

-- ---- one name more

module _ (bytes lens : List ℕ) (j : ℕ) (order : List ℕ) (count : ℕ) (name : List ℕ) (is : name ≡ text_of bytes lens j) (slot : ℕ)
    (found : slot ≡ slot_of bytes lens order count name) where
  pub listed_found : slot < length lens → Lists order count (listed bytes lens j order count)
  unfolding listed
  listed_found h =
      let t : slot_of bytes lens order count (text_of bytes lens j) < length lens = rw (← is, ← found) h in
      (rw (lt-ltb _ _ t), rw (lt-ltb _ _ t))

  pub listed_new : length lens ≤ slot → (at : ℕ) → at ≡ place_in bytes lens order count name → (new : List ℕ) → new ≡ inserted order count at j
      → Lists new (count + 1) (listed bytes lens j order count)
  unfolding listed
  listed_new h at e new f =
      let t : length lens ≤ slot_of bytes lens order count (text_of bytes lens j) = rw (← is, ← found) h in
      (rw (le-ltb _ _ t, ← is, ← e) f, rw (le-ltb _ _ t))

pub listing_first : (bytes lens order : List ℕ) → Lists order 0 (listing bytes lens order 0)
unfolding listing
listing_first bytes lens order = (refl, refl)

pub listing-next : (bytes lens old order new : List ℕ) (j count r : ℕ) → Lists order count (listing bytes lens old j)
    → Lists new r (listed bytes lens j order count) → Lists new r (listing bytes lens old (j + 1))
unfolding listing
listing-next bytes lens old order new j count r before now = rw (add-one j, ← before.0, ← before.1) now
