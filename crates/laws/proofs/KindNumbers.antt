-- A kind's number and the kind of a number are inverse to each other.
-- Assumes nothing.
use Rattle.std.specs.Prelude.{Some, None}
use Prim.Native.Nat.{ℕ}
use mathlib.Core.Path.{◌≡◌, refl, sym}
use mathlib.Core.Bool.{Bool, true, false}
use native.Mathlib.Omega.{arith}
use borrow.Author.Tests.{eqb-true}
use lib.Dec.{eqb}
use Rattle.spec.specs.Choice.{pick}
use Rattle.spec.specs.Fields.{kind_number, kind_of}
use Rattle.spec.specs.declared.Kind.{Kind}
use Rattle.spec.specs.declared.Kind.TheVariants.{Flag, Number, String}

pub kind_of-number : (k : Kind) → kind_of (kind_number k) ≡ Some k
kind_of-number Flag = refl
kind_of-number Number = refl
kind_of-number String = refl

pub number-of_kind : (n : ℕ) (k : Kind) → kind_of n ≡ Some k → kind_number k ≡ n
number-of_kind n k e = one (eqb n 1) refl e
  where
    three : (b : Bool) → eqb n 3 ≡ b → pick b (Some String) None ≡ Some k → kind_number k ≡ n
    three true h q = let s : k ≡ String = cc in rw s (sym (eqb-true n 3 h))
    three false h q = let z : ◌≡◌ {A = ℕ} 0 1 = cc in absurd (omega arith)

    two : (b : Bool) → eqb n 2 ≡ b → pick b (Some Number) (pick (eqb n 3) (Some String) None) ≡ Some k → kind_number k ≡ n
    two true h q = let s : k ≡ Number = cc in rw s (sym (eqb-true n 2 h))
    two false h q = three (eqb n 3) refl q

    one : (b : Bool) → eqb n 1 ≡ b → pick b (Some Flag) (pick (eqb n 2) (Some Number) (pick (eqb n 3) (Some String) None)) ≡ Some k → kind_number k ≡ n
    one true h q = let s : k ≡ Flag = cc in rw s (sym (eqb-true n 1 h))
    one false h q = two (eqb n 2) refl q
