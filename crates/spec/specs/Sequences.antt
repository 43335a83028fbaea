-- "Filling in a position": how each percent sequence is read, and what it does to the parameters. "For one sequence 10 is tested first,
-- then 11, then 12": the reading refuses with 10, then a parameter is taken or 11, then its range is tested.
use Rattle.std.specs.Prelude.{ℕ, ◌+◌, ◌≤◌, List, [], ◌∷◌, eqb, leb, ltb, Option, Some, None, Result, Ok, Err}
use Rattle.spec.specs.Choice.{pick, both}
use Rattle.spec.specs.Digits.{written}
use Rattle.spec.specs.Values.{held, holding, non_negative, plain_value, byte_for, changed}
use Rattle.spec.specs.declared.Refusal.{Refusal}
use Rattle.spec.specs.declared.Refusal.TheVariants.{TooFewParameters, OutOfRange}
use Rattle.spec.specs.declared.position.Parameter.{Parameter}
use Rattle.spec.specs.declared.position.Parameters.{Parameters}
use Rattle.spec.specs.declared.position.Parameters.TheVariants.{TwoUnused, OneUnused, AllUsed}
use Rattle.spec.specs.declared.position.Raising.{Raising}
use Rattle.spec.specs.declared.position.Change.{Change}
use Rattle.spec.specs.declared.position.Change.TheVariants.{Increment, Xor, AddAbove, Bcd, Delta}
use Rattle.spec.specs.declared.position.Sequence.{Sequence}
use Rattle.spec.specs.declared.position.Sequence.TheVariants.{Percent, Decimal, Byte, ChangeEvery, ChangeNext, Exchange}
use Rattle.spec.specs.declared.position.Pending.{Pending}
use Rattle.spec.specs.declared.position.Pending.TheVariants.{Letter, Added, Threshold, Addend}
use Rattle.spec.specs.declared.position.Progress.{Progress}
use Rattle.spec.specs.declared.position.Progress.TheVariants.{More, Whole, Unknown}
use Rattle.spec.specs.declared.position.Output.{Output}
use Rattle.spec.specs.declared.position.Output.TheVariants.{Nothing, Single, Number}
use Rattle.spec.specs.declared.position.Effect.{Effect}

-- ---- reading, a byte at a time

-- The byte after the percent sign.
abbrev pub letter : ℕ → Progress
letter b =
    pick (eqb b 37) (Whole Percent)  -- %
    (pick (eqb b 100) (Whole (Decimal 1))  -- d
    (pick (eqb b 50) (Whole (Decimal 2))  -- 2
    (pick (eqb b 51) (Whole (Decimal 3))  -- 3
    (pick (eqb b 46) (Whole (Byte 0))  -- .
    (pick (eqb b 43) (More Added)  -- +
    (pick (eqb b 105) (Whole (ChangeEvery Increment))  -- i
    (pick (eqb b 110) (Whole (ChangeEvery Xor))  -- n
    (pick (eqb b 114) (Whole Exchange)  -- r
    (pick (eqb b 62) (More Threshold)  -- >
    (pick (eqb b 66) (Whole (ChangeNext Bcd))  -- B
    (pick (eqb b 68) (Whole (ChangeNext Delta))  -- D
    Unknown)))))))))))

unfoldable pub read_byte : Pending → ℕ → Progress
read_byte Letter b = letter b
read_byte Added b = Whole (Byte b)
read_byte Threshold b = More (Addend b)
read_byte (Addend x) b = Whole (ChangeNext (AddAbove x b))

-- No sequence that is read asks for more than three digits (proofs/OutputSizes).
abbrev pub Narrow : Sequence → Type 0
Narrow Percent = Unit
Narrow (Decimal least) = least ≤ 3
Narrow (Byte c) = Unit
Narrow (ChangeEvery c) = Unit
Narrow (ChangeNext c) = Unit
Narrow Exchange = Unit

-- ---- doing it to the parameters

-- A sequence writes, and leaves the parameters so; or it is refused.
abbrev pub gives : Output → Parameters → Result Effect Refusal
gives x ps = Ok (record { output = x; parameters = ps })

-- The next parameter is used up, and its byte asks for so many compensations.
abbrev pub take_next : Parameters → ℕ → Parameters
take_next (TwoUnused p q) n = OneUnused (record { parameter = p; compensations = n }) q
take_next (OneUnused d p) n = AllUsed d (record { parameter = p; compensations = n })
take_next (AllUsed d e) n = AllUsed d e

-- What is done with the next parameter: 11 if none is unused.
abbrev pub with_next : Parameters → (Parameter → Result Effect Refusal) → Result Effect Refusal
with_next (TwoUnused p q) f = f p
with_next (OneUnused d p) f = f p
with_next (AllUsed d e) f = Err TooFewParameters

-- 12 if a change leaves the range.
abbrev pub with_changed : Option ℕ → (ℕ → Result Effect Refusal) → Result Effect Refusal
with_changed (Some h) f = f h
with_changed None f = Err OutOfRange

-- `%d`, `%2`, `%3`: "negative decimals ... are 12".
abbrev pub as_decimal : ℕ → Parameters → Parameter → Result Effect Refusal
as_decimal least ps p = pick (non_negative (held p)) (gives (Number (plain_value (held p)) least) (take_next ps 0)) (Err OutOfRange)

-- `%.` the byte, `%+c` the value plus c's byte: "bytes outside 0..255 are 12"; "the range test comes before raising".
abbrev pub as_byte : Raising → ℕ → Parameters → Parameter → Result Effect Refusal
as_byte g c ps p =
    let r = byte_for g p (plain_value (held p + c)) in
    pick (both (leb 32768 (held p + c)) (ltb (plain_value (held p + c)) 256))
    (gives (Single r.byte) (take_next ps r.compensations))
    (Err OutOfRange)

-- "On the next one": `%>xy`, `%B`, `%D`.
abbrev pub change_next : Change → Parameters → Result Effect Refusal
change_next c (TwoUnused p q) = with_changed (changed c (held p)) (λ h. gives Nothing (TwoUnused (holding p h) q))
change_next c (OneUnused d p) = with_changed (changed c (held p)) (λ h. gives Nothing (OneUnused d (holding p h)))
change_next c (AllUsed d e) = Err TooFewParameters

-- "`%i` adds 1 to every unused parameter, `%n` XORs each with 96 (11 for either if none is unused)."
abbrev pub change_every : Change → Parameters → Result Effect Refusal
change_every c (TwoUnused p q) =
    with_changed (changed c (held p)) (λ h. with_changed (changed c (held q)) (λ k. gives Nothing (TwoUnused (holding p h) (holding q k))))
change_every c (OneUnused d p) = change_next c (OneUnused d p)
change_every c (AllUsed d e) = Err TooFewParameters

-- "`%r` exchanges the two (both unused)."
abbrev pub exchange : Parameters → Result Effect Refusal
exchange (TwoUnused p q) = gives Nothing (TwoUnused q p)
exchange (OneUnused d p) = Err TooFewParameters
exchange (AllUsed d e) = Err TooFewParameters

-- "`%%` writes `%` and uses none."
unfoldable pub perform : Raising → Sequence → Parameters → Result Effect Refusal
perform g Percent ps = gives (Single 37) ps
perform g (Decimal least) ps = with_next ps (as_decimal least ps)
perform g (Byte c) ps = with_next ps (as_byte g c ps)
perform g (ChangeEvery c) ps = change_every c ps
perform g (ChangeNext c) ps = change_next c ps
perform g Exchange ps = exchange ps

-- The bytes that are written: "`%d` decimal; `%2`, `%3` at least two or three digits".
abbrev pub output_bytes : Output → List ℕ
output_bytes Nothing = []
output_bytes (Single b) = b ∷ []
output_bytes (Number n least) = written 10 least n
