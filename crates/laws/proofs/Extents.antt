-- The raw extent of a line lies in the database, and so does the place of a line that is found.
-- Assumes nothing.
use Rattle.std.specs.Prelude.{Some}
use Prim.Native.Nat.{ℕ, ◌+◌, ◌-◌, ◌≤◌}
use mathlib.Core.Path.{◌≡◌, refl}
use mathlib.Core.Bool.{Bool, true, false, not}
use mathlib.Core.List.{List, [], ◌∷◌}
use native.Mathlib.Omega.{arith}
use borrow.Author.Tests.{eq-eqb, ne_eqb}
use lib.Dec.{eqb}
use lib.ListN.{length, drop, length-drop}
use Rattle.spec.specs.Choice.{pick, both}
use Rattle.spec.specs.Lines.{Text, end, byte, join, text_at, Line, line_text, later_lines, is_ignored, has_name, find, find_line, line_end, extent}

abbrev Inside : ℕ → ℕ → ℕ → Type 0
Inside low high e = (low ≤ e) × (e ≤ high)

end-inside : (size at : ℕ) (s : List ℕ) → at + length s ≤ size → Inside at size (line_end size (join at s))
unfolding join line_end
end-inside size at [] h = (omega arith, omega arith)
end-inside size at (b ∷ []) h = go (eqb b 10)
  where
    go : (x : Bool) → Inside at size (pick x (at + 1 - 1) size)
    go true = (omega arith, omega arith)
    go false = (omega arith, omega arith)
end-inside size at (b ∷ c ∷ s) h =
    go (both (eqb b 92) (eqb c 10)) (eqb b 10) refl (end-inside size (at + 1 + 1) s (omega arith)) (end-inside size (at + 1) (c ∷ s) (omega arith))
  where
    go : (x y : Bool) → eqb b 10 ≡ y → Inside (at + 1 + 1) size (line_end size (join (at + 1 + 1) s)) → Inside (at + 1) size
        (line_end size (join (at + 1) (c ∷ s)))
        → Inside at size (line_end size (pick x (join (at + 1 + 1) s) (byte b (at + 1) (join (at + 1) (c ∷ s)))))
    go true y e k m = (omega (arith, k.0), k.1)
    go false true e k m = rw e (omega arith, omega arith)
    go false false e k m = rw e (omega (arith, m.0), m.1)

pub extent-inside : (db : List ℕ) (at : ℕ) → at ≤ length db → (at ≤ extent db at) × (extent db at ≤ length db)
unfolding extent text_at
extent-inside db at h = end-inside (length db) at (drop at db) (omega (arith, length-drop at db))

-- ---- a line that is found

module _ (n : List ℕ) (size p : ℕ) where
  find_one : (l : Line) (ls : List Line) → l.start ≤ size → (find n ls ≡ Some p → p ≤ size) → find n (l ∷ ls) ≡ Some p → p ≤ size
  unfolding find
  find_one l ls h ih e = go (both (not (is_ignored l.text)) (has_name n l.text)) e
    where
      go : (x : Bool) → pick x (Some l.start) (find n ls) ≡ Some p → p ≤ size
      go true q = let s : l.start ≡ p = cc in omega arith
      go false q = ih q

  find-byte : (b at : ℕ) (t : Text) → at ≤ size → (find n (later_lines t) ≡ Some p → p ≤ size) → find n (later_lines (byte b at t)) ≡ Some p → p ≤ size
  unfolding later_lines
  find-byte b at t h ih e = go (eqb b 10) e
    where
      go : (x : Bool) → find n (pick x (record { start = at; text = line_text t } ∷ later_lines t) (later_lines t)) ≡ Some p → p ≤ size
      go true q = find_one (record { start = at; text = line_text t }) (later_lines t) h ih q
      go false q = ih q

  find-inside : (at : ℕ) (s : List ℕ) → at + length s ≤ size → find n (later_lines (join at s)) ≡ Some p → p ≤ size
  unfolding join later_lines find
  find-inside at [] h e = let z : ◌≡◌ {A = ℕ} 0 1 = cc in absurd (omega arith)
  find-inside at (b ∷ []) h e = find-byte b (at + 1) end (omega arith) (λ q. let z : ◌≡◌ {A = ℕ} 0 1 = cc in absurd (omega arith)) e
  find-inside at (b ∷ c ∷ s) h e =
      go (both (eqb b 92) (eqb c 10)) (find-inside (at + 1 + 1) s (omega arith)) (find-inside (at + 1) (c ∷ s) (omega arith)) e
    where
      go : (x : Bool) → (find n (later_lines (join (at + 1 + 1) s)) ≡ Some p → p ≤ size) → (find n (later_lines (join (at + 1) (c ∷ s))) ≡ Some p → p ≤ size)
          → find n (later_lines (pick x (join (at + 1 + 1) s) (byte b (at + 1) (join (at + 1) (c ∷ s))))) ≡ Some p → p ≤ size
      go true k m q = k q
      go false k m q = find-byte b (at + 1) (join (at + 1) (c ∷ s)) (omega arith) m q

pub found_inside : (db n : List ℕ) (p : ℕ) → find_line db n ≡ Some p → p ≤ length db
unfolding find_line text_at
found_inside db n p e =
    find_one n (length db) p (record { start = 0; text = line_text (join 0 db) }) (later_lines (join 0 db)) (omega arith)
    (find-inside n (length db) p 0 db (omega arith)) e

-- ---- the end of a line, byte by byte

module _ (db : List ℕ) (at : ℕ) where
  pub extent-end : text_at db at ≡ end → extent db at ≡ length db
  unfolding extent line_end
  extent-end e = rw e

  pub extent-newline : (b n : ℕ) (t : Text) → text_at db at ≡ byte b n t → b ≡ 10 → extent db at ≡ n - 1
  unfolding extent line_end
  extent-newline b n t e h = rw (e, eq-eqb b 10 h)

  pub extent_on : (b n : ℕ) → text_at db at ≡ byte b n (text_at db n) → (b ≡ 10 → ⊥) → extent db at ≡ extent db n
  unfolding extent line_end
  extent_on b n e h = rw (e, ne_eqb b 10 h)
