-- A part of a command, as the code takes it. Assumes nothing.
use mathlib.Core.Path.{◌≡◌, refl}
use mathlib.Core.List.{List, [], ◌∷◌}
use Prim.Native.Nat.{ℕ, ◌-◌, ◌≤◌}
use native.Mathlib.Omega.{arith}
use lib.ListN.{length, take, drop, get_or, length-drop}
use lib.Seq.{take_all}

-- The part of a list from a place on, as `&s[from..]` has it.
abbrev pub part : List ℕ → ℕ → List ℕ
part s from = take (length s - from) (drop from s)

pub part_is : (s : List ℕ) (from : ℕ) → part s from ≡ drop from s
part_is s from = let l : length (drop from s) ≤ length s - from = rw length-drop (omega arith) in take_all (length s - from) (drop from s) l

-- What is left after the first byte.
abbrev pub rest : List ℕ → List ℕ
rest s = part s 1

-- A list that is not empty is its first element and what is left.
pub parts : (s : List ℕ) → (length s ≡ 0 → ⊥) → s ≡ get_or s 0 0 ∷ rest s
parts [] n = absurd (n refl)
parts (x ∷ s) n = rw (part_is (x ∷ s) 1)
