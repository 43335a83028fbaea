-- "Filling in a position": the body of a command for a row and a column, and the compensations after it.
use Rattle.std.specs.Prelude.{ℕ, zero, suc, ◌+◌, not, List, [], ◌∷◌, ◌++◌, eqb, Result, Ok, Err}
use Rattle.spec.specs.Choice.{pick, both, is_empty}
use Rattle.spec.specs.Sequences.{read_byte, perform, output_bytes}
use Rattle.spec.specs.declared.Refusal.{Refusal}
use Rattle.spec.specs.declared.Refusal.TheVariants.{UnknownSequence}
use Rattle.spec.specs.declared.position.Parameter.{Parameter}
use Rattle.spec.specs.declared.position.Parameter.TheVariants.{Row, Column}
use Rattle.spec.specs.declared.position.Used.{Used}
use Rattle.spec.specs.declared.position.Parameters.{Parameters}
use Rattle.spec.specs.declared.position.Parameters.TheVariants.{TwoUnused, OneUnused, AllUsed}
use Rattle.spec.specs.declared.position.Raising.{Raising}
use Rattle.spec.specs.declared.position.Pending.{Pending}
use Rattle.spec.specs.declared.position.Pending.TheVariants.{Letter}
use Rattle.spec.specs.declared.position.Progress.{Progress}
use Rattle.spec.specs.declared.position.Progress.TheVariants.{More, Whole, Unknown}
use Rattle.spec.specs.declared.position.Effect.{Effect}

-- ---- the body: "plain bytes and percent sequences alternate until the command is used up"

-- A body filled in: its bytes, and the parameters as they are left; or its first fault.
pub data Filled : Type 0 where
  filled : List ℕ → Parameters → Filled
  refused : Refusal → Filled

-- Bytes, and then what follows them.
abbrev pub then : List ℕ → Filled → Filled
then l (filled k ps) = filled (l ++ k) ps
then l (refused r) = refused r

-- A sequence that was done, and then what follows it.
abbrev pub onward : Result Effect Refusal → (Parameters → Filled) → Filled
onward (Ok e) rest = then (output_bytes e.output) (rest e.parameters)
onward (Err r) rest = refused r

-- A byte of a sequence: the rest of the sequence, or the sequence and what follows it. "Unknown, or cut off, percent sequence": 10.
abbrev pub on_byte : Progress → Raising → Parameters → (Pending → Filled) → (Parameters → Filled) → Filled
on_byte (More w) g ps more rest = more w
on_byte (Whole q) g ps more rest = onward (perform g q ps) rest
on_byte Unknown g ps more rest = refused UnknownSequence

unfoldable mutual
  -- Where a plain byte or a percent sign (37) is due; and where a sequence goes on, of which so much is still to be read.
  pub plain_of : List ℕ → Raising → Parameters → Filled
  plain_of [] g ps = filled [] ps
  plain_of (b ∷ s) g ps = pick (eqb b 37) (percent_of s Letter g ps) (then (b ∷ []) (plain_of s g ps))

  pub percent_of : List ℕ → Pending → Raising → Parameters → Filled
  percent_of [] w g ps = refused UnknownSequence
  percent_of (b ∷ s) w g ps = on_byte (read_byte w b) g ps (λ v. percent_of s v g ps) (λ qs. plain_of s g qs)

-- ---- compensations

-- "Both strings empty: off. ... Only up empty: rows aren't raised."
abbrev pub raising_for : List ℕ → List ℕ → Raising
raising_for back up = record { rows = not (is_empty up); columns = not (both (is_empty back) (is_empty up)) }

-- "Back string for a column, up string for a row, taken as they stand"; "only back empty: byte 8 stands for it".
abbrev pub compensation : List ℕ → List ℕ → Parameter → List ℕ
compensation back up (Row r) = up
compensation back up (Column c) = pick (is_empty back) (8 ∷ []) back

unfoldable pub repeated : ℕ → List ℕ → List ℕ
repeated zero l = []
repeated (suc n) l = l ++ repeated n l

abbrev pub compensations_of : List ℕ → List ℕ → Used → List ℕ
compensations_of back up u = repeated u.compensations (compensation back up u.parameter)

-- "In the order of the raised bytes."
unfoldable pub compensations : List ℕ → List ℕ → Parameters → List ℕ
compensations back up (TwoUnused p q) = []
compensations back up (OneUnused u p) = compensations_of back up u
compensations back up (AllUsed u v) = compensations_of back up u ++ compensations_of back up v

-- ---- the whole: "a compensation is appended after the body"

pub data Body : Type 0 where
  body : List ℕ → Body
  fault : Refusal → Body

abbrev pub compensated : List ℕ → List ℕ → Filled → Body
compensated back up (filled l ps) = body (l ++ compensations back up ps)
compensated back up (refused r) = fault r

-- "Row is the first parameter, column the second": as they are held.
abbrev pub at_place : ℕ → ℕ → Parameters
at_place row column = TwoUnused (Row (record { 0 = 32768 + row })) (Column (record { 0 = 32768 + column }))

unfoldable pub fill_in : List ℕ → ℕ → ℕ → List ℕ → List ℕ → Body
fill_in cmd row column back up = compensated back up (plain_of cmd (raising_for back up) (at_place row column))
