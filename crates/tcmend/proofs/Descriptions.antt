-- The lines that are counted, one after the other. Assumes nothing.
use Prim.Native.Nat.{ℕ, ◌+◌}
use mathlib.Core.Path.{◌≡◌, refl}
use mathlib.Core.Bool.{Bool, true, false}
use mathlib.Core.List.{List, []}
use native.Mathlib.Omega.{arith}
use Rattle.spec.specs.Choice.{pick}
use Rattle.spec.specs.Lines.{text_at, line_at, later_lines, lines_from, is_ignored}
use Rattle.spec.specs.Repair.{descriptions}

none_left : descriptions [] ≡ 0
unfolding descriptions
none_left = refl

first_counted : (db : List ℕ) (at n : ℕ) → n ≡ pick (is_ignored (line_at db at)) 0 1
    → descriptions (lines_from at (text_at db at)) ≡ n + descriptions (later_lines (text_at db at))
unfolding descriptions line_at
first_counted db at n e = go (is_ignored (line_at db at)) e
  where
    rest : ℕ
    rest = descriptions (later_lines (text_at db at))

    go : (x : Bool) → n ≡ pick x 0 1 → pick x rest (rest + 1) ≡ n + rest
    go true e = omega arith
    go false e = omega arith

-- from one line to the next, and to the end
module _ (db : List ℕ) (at before n total : ℕ) (e : before + descriptions (lines_from at (text_at db at)) ≡ total)
    (one : n ≡ pick (is_ignored (line_at db at)) 0 1) where
  pub counted_next : (next : ℕ) → later_lines (text_at db at) ≡ lines_from next (text_at db next)
      → before + n + descriptions (lines_from next (text_at db next)) ≡ total
  counted_next next f =
      let g : descriptions (lines_from at (text_at db at)) ≡ n + descriptions (lines_from next (text_at db next)) = rw (← f) (first_counted db at n one) in
      omega (arith, g, e)

  pub counted_last : later_lines (text_at db at) ≡ [] → before + n ≡ total
  counted_last f =
      let g : descriptions (lines_from at (text_at db at)) ≡ n + descriptions [] = rw (← f) (first_counted db at n one) in
      omega (arith, g, e, none_left)
