-- A number read from digits and written as digits, in a base of at most ten. Assumes nothing: these are definitions.
use Rattle.std.specs.Prelude.{ℕ, zero, suc, ◌+◌, ◌-◌, ◌*◌, ◌/◌, ◌%◌, ◌^◌, ◌≤◌, ◌<◌, Bool, true, List, [], ◌∷◌, leb, ltb}
use Rattle.spec.specs.Choice.{pick, both}

-- ---- reading

abbrev pub is_digit : ℕ → ℕ → Bool
is_digit base c = both (leb 48 c) (ltb c (48 + base))

-- the number whose digits were n so far, and then s
unfoldable pub value_from : ℕ → ℕ → List ℕ → ℕ
value_from base n [] = n
value_from base n (c ∷ s) = value_from base (n * base + (c - 48)) s

abbrev pub value : ℕ → List ℕ → ℕ
value base s = value_from base 0 s

unfoldable pub are_digits : ℕ → List ℕ → Bool
are_digits base [] = true
are_digits base (c ∷ s) = both (is_digit base c) (are_digits base s)

-- the digits at the start of a text, and what stands behind them
unfoldable pub leading : ℕ → List ℕ → List ℕ
leading base [] = []
leading base (c ∷ s) = pick (is_digit base c) (c ∷ leading base s) []

unfoldable pub trailing : ℕ → List ℕ → List ℕ
trailing base [] = []
trailing base (c ∷ s) = pick (is_digit base c) (trailing base s) (c ∷ s)

-- ---- writing

-- n in k digits
unfoldable pub spell : ℕ → ℕ → ℕ → List ℕ
spell base zero n = []
spell base (suc k) n = (48 + n / base ^ k) ∷ spell base k (n % base ^ k)

-- how many digits n takes: the first count from k on that holds it, at most `more` above k
unfoldable pub places : ℕ → ℕ → ℕ → ℕ → ℕ
places base zero k n = k
places base (suc more) k n =
    let wider = places base more (k + 1) n in
    pick (ltb n (base ^ k)) k wider

-- n in as few digits as hold it, and no fewer than least (n above least is always enough)
unfoldable pub written : ℕ → ℕ → ℕ → List ℕ
written base least n = spell base (places base n least n) n

-- k is the fewest digits, and no fewer than least, that hold n
abbrev pub Fewest : ℕ → ℕ → ℕ → ℕ → Type 0
Fewest base least n k = (least ≤ k) × (n < base ^ k) × (least < k → base ^ (k - 1) ≤ n)
