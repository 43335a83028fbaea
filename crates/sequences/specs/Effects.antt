-- What a sequence does to the parameters in eight bytes: the bridge to the effects that `spec` defines, and what changes both.
use Rattle.std.specs.Prelude.{ℕ, ◌+◌, Bool, leb, ltb, Result, Ok, Err}
use Rattle.spec.specs.Choice.{pick, both}
use Rattle.spec.specs.Values.{non_negative, plain_value, raised, changed}
use Rattle.spec.specs.Sequences.{gives, take_next, with_changed}
use Rattle.spec.specs.declared.Refusal.{Refusal}
use Rattle.spec.specs.declared.Refusal.TheVariants.{OutOfRange}
use Rattle.spec.specs.declared.position.Parameters.{Parameters}
use Rattle.spec.specs.declared.position.Raised.{Raised}
use Rattle.spec.specs.declared.position.Change.{Change}
use Rattle.spec.specs.declared.position.Output.TheVariants.{Nothing, Single, Number}
use Rattle.spec.specs.declared.position.Effect.{Effect}
use Rattle.places.specs.Places.{parameters_of}
use Rattle.places.specs.declared.Places.{Places}
use Rattle.sequences.specs.declared.Performed.{Performed}

abbrev pub effect_of : Result Performed Refusal → Result Effect Refusal
effect_of (Ok p) = gives p.output (parameters_of p.places)
effect_of (Err r) = Err r

-- The byte that is sent, where its axis is raised or not.
abbrev pub raised_if : Bool → ℕ → Raised
raised_if raises b = pick raises (raised b) (record { byte = b; compensations = 0 })

-- The next parameter, which holds h, as a decimal number, and as a byte.
abbrev pub decimal_effect : ℕ → ℕ → Parameters → Result Effect Refusal
decimal_effect least h ps = pick (non_negative h) (gives (Number (plain_value h) least) (take_next ps 0)) (Err OutOfRange)

abbrev pub byte_effect : Bool → ℕ → ℕ → Parameters → Result Effect Refusal
byte_effect raises c h ps =
    let r = raised_if raises (plain_value (h + c)) in
    pick (both (leb 32768 (h + c)) (ltb (plain_value (h + c)) 256))
    (gives (Single r.byte) (take_next ps r.compensations))
    (Err OutOfRange)

-- A change of both.
abbrev pub with_both : Places → ℕ → ℕ → Places
with_both s h k = record { row = record { 0 = h }; column = record { 0 = k }; turn = s.turn; ups = s.ups; backs = s.backs }

abbrev pub change_both_effect : Change → Places → Result Effect Refusal
change_both_effect c s = with_changed (changed c s.row.0) (λ h. with_changed (changed c s.column.0) (λ k. gives Nothing (parameters_of (with_both s h k))))
