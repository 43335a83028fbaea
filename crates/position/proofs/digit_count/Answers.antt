-- `position::digit_count` meets its contract, by which of the two is the greater.
use Prim.Native.Nat.{ℕ, max}
use mathlib.Core.Path.{◌≡◌, refl}
use mathlib.Core.Bool.{Bool, true, false}
use native.Mathlib.Omega.{arith}
use lib.Dec.{ltb}
use borrow.Author.Tests.{ltb-true, ltb-false}
use Rattle.spec.specs.Digits.{Fewest}
use Rattle.laws.proofs.DigitLaws.{fewest_at_least, fewest_above}
use Rattle.position.proofs.digit_count.Goals as goal

greater : (least n d : ℕ) → Fewest 10 0 n d → Fewest 10 least n (max d least)
greater least n d f = go (ltb d least) refl
  where
    go : (t : Bool) → ltb d least ≡ t → Fewest 10 least n (max d least)
    go true e = let h = ltb-true d least e in let m : max d least ≡ least = omega arith in rw m (fewest_at_least 10 least n d (omega arith) f (omega arith))
    go false e = let h = ltb-false d least e in let m : max d least ≡ d = omega arith in rw m (fewest_above 10 least n d f (omega arith))

pub returns : goal.returns
returns c = rw c.max.ensures (greater c.args.least c.args.n _ c.digits_in.ensures)
