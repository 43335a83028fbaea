-- A body that was filled in, and then its compensations. Assumes nothing.
use mathlib.Core.Path.{◌≡◌, ap, ◌∙◌}
use mathlib.Core.List.{List, ◌++◌}
use Prim.Native.Nat.{ℕ, ◌+◌, ◌<◌}
use native.Mathlib.Omega.{arith}
use lib.ListN.{length, length-append}
use lib.Seq.{sets}
use Rattle.spec.specs.Position.{Filled, compensations, body, compensated}
use Rattle.places.specs.Places.{parameters_of}
use Rattle.position.specs.Filling.{BodyFilled}
use Rattle.position.specs.declared.BodyEnd.{BodyEnd}
use Rattle.position.proofs.StepLaws.{sets-append}
use Rattle.compensations.specs.Appending.{BytesAppended, BodyFilledIn}
use Rattle.std.specs.Prelude.{Option, Some, None, Ok}

module _ (back up : List ℕ) (t : Filled) (out m : List ℕ) (b : BodyEnd) (f : BodyFilled t out (Ok b) m) (capacity : ℕ) where
  all : compensated back up t ≡ body (f.0 ++ compensations back up (parameters_of b.places))
  all = rw f.1

  pub no_room : capacity < b.end + length (compensations back up (parameters_of b.places))
      → (l : List ℕ) × (compensated back up t ≡ body l) × (capacity < length l)
  no_room h = (f.0 ++ compensations back up (parameters_of b.places), all, rw length-append (omega (arith, f.2)))

  pub then_compensated : (r : Option ℕ) (o : List ℕ) → BytesAppended (compensations back up (parameters_of b.places)) capacity m b.end r o
      → BodyFilledIn (compensated back up t) capacity out (Ok r) o
  then_compensated (Some end) o a = (
    f.0 ++ compensations back up (parameters_of b.places),
    all,
    rw length-append (omega (arith, a.0, f.2)),
    a.1,
    a.2 ∙ ap (λ (x : List ℕ). sets x b.end (compensations back up (parameters_of b.places))) f.3 ∙ sets-append out 0 b.end f.0
        (compensations back up (parameters_of b.places)) (omega (arith, f.2)),
  )
  then_compensated None o a = no_room a
