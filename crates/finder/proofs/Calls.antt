-- The name of a finder in its state.
-- Assumes nothing.
use Prim.Native.Nat.{ℕ, ◌+◌, ◌-◌, ◌≤◌}
use mathlib.Core.Path.{◌≡◌, ◌∙◌, ap, sym}
use mathlib.Core.List.{List, ◌++◌}
use native.Mathlib.Omega.{arith}
use lib.ListN.{replicate, length-replicate, replicate-append-replicate, length, drop}
use lib.Seq.{drop-append_seam}
use Rattle.spec.specs.Finder.{with_zeros}

-- A name in the place of the first of 64 zeros.
pub named : (name front : List ℕ) → length name ≤ 64 → front ≡ name → front ++ drop (length name) (replicate 64 0) ≡ with_zeros name
named name front h e = rw (e, drop_zeros (length name) h)
  where
    drop_front : (p s : List ℕ) (n : ℕ) → length p ≡ n → drop n (p ++ s) ≡ s
    drop_front p s n e = rw (← e) (drop-append_seam p s)

    drop_zeros : (n : ℕ) → n ≤ 64 → drop n (replicate {A = ℕ} 64 0) ≡ replicate (64 - n) 0
    drop_zeros n h =
        let z : n + (64 - n) ≡ 64 = omega (arith, h) in
        let a : replicate {A = ℕ} 64 0 ≡ replicate n 0 ++ replicate (64 - n) 0 = ap (λ (k : ℕ). replicate {A = ℕ} k 0) (sym z)
        ∙ sym (replicate-append-replicate n (64 - n) 0) in
        rw a (drop_front (replicate {A = ℕ} n 0) (replicate (64 - n) 0) n (length-replicate n 0))
