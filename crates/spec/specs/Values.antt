-- "Filling in a position": a parameter's value, the byte that is sent for it, and its changes.
--
-- VALUES ARE HELD WITH AN OFFSET: a value v of -32,768..32,767 is held as the number h = v + 32,768 of 0..65,535. So a value is negative
-- where h < 32,768, and above the range where 65,536 ≤ h. No change lowers a negative value, so none falls below the range.
use Rattle.std.specs.Prelude.{ℕ, zero, suc, ◌+◌, ◌-◌, ◌*◌, ◌/◌, ◌%◌, Bool, eqb, leb, ltb, Option, Some, None}
use Rattle.std.specs.Int.Bits.{bit_xor}
use Rattle.spec.specs.Choice.{pick, both, either}
use Rattle.spec.specs.declared.position.Parameter.{Parameter}
use Rattle.spec.specs.declared.position.Parameter.TheVariants.{Row, Column}
use Rattle.spec.specs.declared.position.Change.{Change}
use Rattle.spec.specs.declared.position.Change.TheVariants.{Increment, Xor, AddAbove, Bcd, Delta}
use Rattle.spec.specs.declared.position.Raising.{Raising}
use Rattle.spec.specs.declared.position.Raised.{Raised}

-- What a parameter holds; and the same parameter holding another value: "each keeps its axis".
abbrev pub held : Parameter → ℕ
held (Row r) = r.0
held (Column c) = c.0

abbrev pub holding : Parameter → ℕ → Parameter
holding (Row r) h = Row (record { 0 = h })
holding (Column c) h = Column (record { 0 = h })

-- 0..32,767, and then the value itself.
abbrev pub non_negative : ℕ → Bool
non_negative h = both (leb 32768 h) (ltb h 65536)

abbrev pub plain_value : ℕ → ℕ
plain_value h = h - 32768

-- ---- the byte that is sent

-- Ask 1: the bytes that are not sent for a parameter.
abbrev pub avoided : ℕ → Bool
avoided b = either (eqb b 0) (either (eqb b 4) (either (eqb b 9) (eqb b 10)))

-- "Raised until it is none of these, with one compensation for each step": so many steps at most, after so many.
unfoldable pub raised_from : ℕ → ℕ → ℕ → Raised
raised_from zero steps b = record { byte = b; compensations = steps }
raised_from (suc more) steps b = pick (avoided b) (raised_from more (steps + 1) (b + 1)) (record { byte = b; compensations = steps })

-- The most compensations that one byte asks for: "9 becomes 11 with two". (`demands/proofs/Raising`: so many steps are enough.)
abbrev pub most_compensations : ℕ
most_compensations = 2

-- "A byte from `%.` or `%+` that is 0, 4, 9 or 10 is raised until it is none of these."
unfoldable pub raised : ℕ → Raised
raised b = raised_from most_compensations 0 b

-- Whether a parameter's byte is raised at all: by its axis.
abbrev pub raises : Raising → Parameter → Bool
raises g (Row r) = g.rows
raises g (Column c) = g.columns

abbrev pub byte_for : Raising → Parameter → ℕ → Raised
byte_for g p b = pick (raises g p) (raised b) (record { byte = b; compensations = 0 })

-- ---- changes: "any result outside -32,768..32,767 [is] 12", which is none here

abbrev pub in_range : ℕ → Option ℕ
in_range h = pick (ltb h 65536) (Some h) None

-- "`%n`, `%B`, `%D` of a negative ... are 12."
abbrev pub of_non_negative : ℕ → ℕ → Option ℕ
of_non_negative h result = pick (non_negative h) (in_range result) None

-- `%i` adds 1; `%n` XORs with 96; `%>xy` adds y's byte if the value is above x's; `%B` makes 16 times the quotient by 10 plus the
-- remainder; `%D` subtracts twice the remainder by 16.
unfoldable pub changed : Change → ℕ → Option ℕ
changed Increment h = in_range (h + 1)
changed Xor h = of_non_negative h (32768 + bit_xor (plain_value h) 96)
changed (AddAbove x y) h = pick (ltb (32768 + x) h) (in_range (h + y)) (in_range h)
changed Bcd h = of_non_negative h (32768 + (16 * (plain_value h / 10) + plain_value h % 10))
changed Delta h = of_non_negative h (h - 2 * (plain_value h % 16))
