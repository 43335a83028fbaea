-- "Padding": the prefix of a decoded command, its delay, and the count of pads.
use Rattle.std.specs.Prelude.{ℕ, ◌+◌, ◌*◌, ◌/◌, Bool, false, List, [], ◌∷◌, length, eqb, ltb}
use Rattle.spec.specs.Choice.{pick, is_empty}
use Rattle.spec.specs.Digits.{value, leading, trailing}
use Rattle.spec.specs.declared.Refusal.{Refusal}
use Rattle.spec.specs.declared.Refusal.TheVariants.{BadPadding}

-- ---- the prefix: "digits, then maybe `.` (46) and a digit, then maybe `*` (42)"

-- A command without its prefix: the delay in tenths of a millisecond, not yet times lines; the star; and the body.
pub record Split : Type 0 where
  pub delay : ℕ
  pub star : Bool
  pub body : List ℕ

pub data Prefix : Type 0 where
  split : Split → Prefix
  refused : Refusal → Prefix

-- The digits after a point, and what stands behind them: "a `.` without a digit after it belongs to the body", and so does all after it.
unfoldable pub tenths : List ℕ → List ℕ
tenths [] = []
tenths (c ∷ s) = pick (eqb c 46) (leading 10 s) []

abbrev pub past_tenths : List ℕ → List ℕ
past_tenths [] = []
past_tenths (c ∷ s) = pick (is_empty (tenths (c ∷ s))) (c ∷ s) (trailing 10 s)

abbrev pub starred : List ℕ → Bool
starred [] = false
starred (c ∷ s) = eqb c 42

abbrev pub past_star : List ℕ → List ℕ
past_star [] = []
past_star (c ∷ s) = pick (eqb c 42) s (c ∷ s)

-- What stands behind the digits: 13 for "over one [digit] after [the point]". "Ten times the digits plus the tenth."
abbrev pub past_digits : ℕ → List ℕ → Prefix
past_digits whole s =
    pick (ltb 1 (length (tenths s))) (refused BadPadding)
    (split (record { delay = 10 * whole + value 10 (tenths s); star = starred (past_tenths s); body = past_star (past_tenths s) }))

-- "No leading digit, no padding"; 13 for "over 4 digits before the point".
unfoldable pub prefix_of : List ℕ → Prefix
prefix_of cmd =
    pick (is_empty (leading 10 cmd)) (split (record { delay = 0; star = false; body = cmd }))
    (pick (ltb 4 (length (leading 10 cmd))) (refused BadPadding)
    (past_digits (value 10 (leading 10 cmd)) (trailing 10 cmd)))

-- ---- the delay and the count

-- "Times lines if starred."
abbrev pub delay_for : ℕ → Bool → ℕ → ℕ
delay_for delay star lines = pick star (delay * lines) delay

-- "Ten bits a byte: the count is d times speed over 100,000, rounded up."
unfoldable pub pad_count : ℕ → ℕ → ℕ
pad_count delay speed = (delay * speed + 99999) / 100000
