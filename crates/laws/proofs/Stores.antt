-- Bytes stored one by one from a place of a buffer on (`sets` of lib.Seq: a store past the end is no store).
-- Assumes nothing.
use Prim.Native.Nat.{ℕ, suc, ◌+◌, ◌≤◌, ◌<◌}
use mathlib.Core.Path.{◌≡◌, refl, ◌∙◌}
use mathlib.Core.List.{List, [], ◌∷◌, ◌++◌}
use native.Mathlib.Numerals.{add-one}
use native.Mathlib.Omega.{arith}
use lib.ListN.{length, take, drop, get_or, set}
use lib.Seq.{sets, sets-eq, take-append_seam, take-suc, length-take-le}

module _ (out text : List ℕ) (fits : length text ≤ length out) where
  zero_add : (n : ℕ) → 0 + n ≡ n
  zero_add n = omega arith

  pub stored_front : sets out 0 text ≡ text ++ drop (length text) out
  stored_front = let h : 0 + length text ≤ length out = omega arith in sets-eq text out 0 h ∙ rw (zero_add (length text))

  pub stored_taken : (n : ℕ) → n ≡ length text → take n (sets out 0 text) ≡ text
  stored_taken n e = rw (e, stored_front) (take-append_seam text (drop (length text) out))

-- An empty buffer keeps nothing.
pub stored_nowhere : (at : ℕ) (text : List ℕ) → sets [] at text ≡ []
stored_nowhere at [] = refl
stored_nowhere at (b ∷ text) = stored_nowhere (suc at) text

-- Two texts, one after the other.
pub stored-append : (out : List ℕ) (at : ℕ) (x y : List ℕ) → sets out at (x ++ y) ≡ sets (sets out at x) (at + length x) y
stored-append out at [] y = let e : at + 0 ≡ at = omega arith in rw e
stored-append out at (b ∷ x) y =
    let e : at + suc (length x) ≡ suc at + length x = omega arith in
    stored-append (set out at b) (suc at) x y ∙ rw e

-- One byte more of a text.
pub stored_next : (out : List ℕ) (at : ℕ) (text : List ℕ) (i : ℕ) → i < length text → sets out at (take (i + 1) text) ≡ set (sets out at (take i text))
    (at + i) (get_or text i 0)
stored_next out at text i h =
    let whole : i ≤ length text = omega arith in
    rw (add-one i, take-suc text i 0 h, stored-append out at (take i text) (get_or text i 0 ∷ []), length-take-le i text whole)
