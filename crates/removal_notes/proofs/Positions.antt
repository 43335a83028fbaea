-- The laws of positions. Assumes nothing.
use Prim.Native.Nat.{ℕ, ◌+◌, ◌-◌, ◌≤◌, ◌<◌}
use mathlib.Core.Path.{◌≡◌, refl, sym}
use mathlib.Core.List.{List, [], ◌∷◌, ◌++◌}
use native.Mathlib.Numerals.{add-one}
use native.Mathlib.Omega.{arith}
use borrow.Author.Tests.{eq-eqb, ne_eqb}
use lib.Dec.{eqb}
use lib.ListN.{length, take, drop, get_or, length-take, length-drop}
use lib.Seq.{take-suc, get_or-take, get_or-drop}
use Rattle.laws.proofs.Tests.{pick_all}
use Rattle.removal_notes.specs.declared.Position.{Position}
use Rattle.removal_notes.specs.Notes.{behind, behind_all, position_at}

module _ (p : Position) (b : ℕ) where
  pub behind-newline : b ≡ 10 → behind p b ≡ record { row = p.row + 1; column = 1 }
  unfolding behind
  behind-newline e = rw (eq-eqb b 10 e)

  pub behind-other : (b ≡ 10 → ⊥) → behind p b ≡ record { row = p.row; column = p.column + 1 }
  unfolding behind
  behind-other n = rw (ne_eqb b 10 n)

behind_last : (p : Position) (l : List ℕ) (b : ℕ) → behind_all p (l ++ b ∷ []) ≡ behind (behind_all p l) b
unfolding behind_all
behind_last p [] b = refl
behind_last p (c ∷ l) b = behind_last (behind p c) l b

pub position-next : (db : List ℕ) (at : ℕ) → at < length db → position_at db (at + 1) ≡ behind (position_at db at) (get_or db at 0)
unfolding position_at
position-next db at h = rw (add-one, take-suc db at 0 h) (behind_last _ (take at db) (get_or db at 0))

-- the bytes of a stretch, one after the other
module _ (db : List ℕ) (from to : ℕ) where
  pub stretch_length : to ≤ length db → length (take (to - from) (drop from db)) ≡ to - from
  stretch_length h = simp (length-take, length-drop) (omega arith)

  pub position_on : (i : ℕ) → to ≤ length db → i < length (take (to - from) (drop from db))
      → behind (position_at db (from + i)) (get_or (take (to - from) (drop from db)) i 0) ≡ position_at db (from + (i + 1))
  position_on i h g =
      let near : i < to - from = omega (arith, stretch_length h) in
      let inside : from + i < length db = omega arith in
      let next : from + (i + 1) ≡ from + i + 1 = omega arith in
      rw (get_or-take (to - from) (drop from db) i 0 near, get_or-drop from db i 0, next) (sym (position-next db (from + i) inside))

behind-within : (p : Position) (b m : ℕ) → p.row ≤ m → p.column ≤ m → ((behind p b).row ≤ m + 1) × ((behind p b).column ≤ m + 1)
unfolding behind
behind-within p b m h i =
    pick_all (λ (q : Position). (q.row ≤ m + 1) × (q.column ≤ m + 1)) (eqb b 10) (omega arith, omega arith) (omega arith, omega arith)

-- a row or a column is at most one more than the bytes before it
behind-most : (p : Position) (l : List ℕ) (m : ℕ) → p.row ≤ m → p.column ≤ m → ((behind_all p l).row ≤ m + length l) × ((behind_all p l).column ≤ m + length l)
unfolding behind_all
behind-most p [] m h i = (omega arith, omega arith)
behind-most p (b ∷ l) m h i =
    let next = behind-within p b m h i in
    let q = behind-most (behind p b) l (m + 1) next.0 next.1 in
    (omega (arith, q.0), omega (arith, q.1))

pub position-most : (db : List ℕ) (at : ℕ) → ((position_at db at).row ≤ 1 + at) × ((position_at db at).column ≤ 1 + at)
unfolding position_at
position-most db at =
    let q = behind-most (record { row = 1; column = 1 }) (take at db) 1 (omega arith) (omega arith) in
    let n = simp length-take at q in
    (omega (arith, n.0), omega (arith, n.1))
