-- Places behind which the asked name may stand, and what the functions answer of them. A name stands behind a separator.
-- The place k is that of the two bytes before it: the separator stands at k + 2, and what follows it at k + 3.
use Rattle.std.specs.Prelude.{ℕ, ◌+◌, ◌≤◌, ◌<◌, ◌≡◌, Bool, true, false, ◌⊎◌, List, length, get_or}
use Rattle.spec.specs.Lines.{text_at, line_text, first_name}
use Rattle.spec.specs.Lists.{same}

-- P holds of each place from a on and before b.
pub record Each (P : ℕ → Type 0) (a b : ℕ) : Type 0 where
  pub holds : (k : ℕ) → a ≤ k → k < b → P k

-- A byte that a name may follow: a newline (10) or a bar (124).
abbrev pub Separator : ℕ → Type 0
Separator b = (b ≡ 10) ⊎ (b ≡ 124)

-- A separator is no newline that a backslash (92) before it takes away.
abbrev pub Alone : ℕ → ℕ → Type 0
Alone before b = b ≡ 10 → before ≡ 92 → ⊥

-- A byte that ends a name: a newline, a colon (58) or a bar.
abbrev pub Ending : ℕ → Type 0
Ending b = (b ≡ 10) ⊎ ((b ≡ 58) ⊎ (b ≡ 124))

-- A byte that may follow a name: one that ends it, or the backslash of a pair.
abbrev pub Stop : ℕ → Type 0
Stop b = (b ≡ 10) ⊎ ((b ≡ 58) ⊎ ((b ≡ 92) ⊎ (b ≡ 124)))

-- A name may end before the place j: by the byte there, or by the end of the database.
abbrev pub Stops : List ℕ → ℕ → Type 0
Stops s j = Stop (get_or s j 0) ⊎ (length s ≤ j)

-- The bytes of n stand from the place p on, with no pair among them.
abbrev pub Spelled : List ℕ → List ℕ → ℕ → Type 0
Spelled s n p = (i : ℕ) → i < length n → get_or s (p + i) 0 ≡ get_or n i 0

-- No byte from the place p on and before the place q ends a name.
abbrev pub Whole : List ℕ → ℕ → ℕ → Type 0
Whole s p q = Each (λ (i : ℕ). Ending (get_or s i 0) → ⊥) p q

-- A byte that may follow a pair inside the name n: one of its bytes, or the backslash of the next pair.
abbrev pub Inside : List ℕ → ℕ → Type 0
Inside n b = ((i : ℕ) × (i < length n) × (get_or n i 0 ≡ b)) ⊎ (b ≡ 92)

-- The first name of the text at the place p is not n.
abbrev pub Other : List ℕ → List ℕ → ℕ → Type 0
Other s n p = same n (first_name (line_text (text_at s p))) ≡ false

-- A name as long as n may stand behind the place k.
pub record Fits (s n : List ℕ) (k : ℕ) : Type 0 where
  pub separator : Separator (get_or s (k + 2) 0)
  pub alone : Alone (get_or s (k + 1) 0) (get_or s (k + 2) 0)
  pub stops : Stops s (k + 3 + length n)

-- At the place k, the name n is not cut by a pair: its newline would be the separator, after a backslash and no colon before that (with
-- a colon there, the pair stands among a line's fields). And where n is spelled behind the separator, and may end there and not before,
-- the name there is another one.
pub record Settled (s n : List ℕ) (k : ℕ) : Type 0 where
  pub uncut : get_or s (k + 2) 0 ≡ 10 → get_or s (k + 1) 0 ≡ 92 → (get_or s k 0 ≡ 58 → ⊥) → Inside n (get_or s (k + 3) 0) → ⊥
  pub other : Fits s n k → Spelled s n (k + 3) → Whole s (k + 3) (k + 3 + length n) → Other s n (k + 3)

abbrev pub AllSettled : List ℕ → List ℕ → ℕ → ℕ → Type 0
AllSettled s n a b = Each (Settled s n) a b

-- What the functions that pass over settled places answer: a place before which, from a on, each one is settled.
pub record Passed (s n : List ℕ) (a r : ℕ) : Type 0 where
  pub from : a ≤ r
  pub inside : r + 2 ≤ length s
  pub settled : AllSettled s n a r

-- ---- sixteen places at once

-- What marks a place: 64 if a name may be cut there, a number if a name may stand behind it, or else 0.
abbrev pub mark_of : Bool → Bool → ℕ → ℕ
mark_of true fits number = 64
mark_of false true number = number
mark_of false false number = 0

-- Of k places from a on: the highest mark, if the place j is marked j + 1; and the highest, if it is marked 16 - j and no cut is.
pub record Marked (s n : List ℕ) (a k high low : ℕ) : Type 0 where
  pub uncut : high < 64 → (j : ℕ) → j < k → get_or s (a + j + 2) 0 ≡ 10 → get_or s (a + j + 1) 0 ≡ 92 → (get_or s (a + j) 0 ≡ 58 → ⊥) → ⊥
  pub upto : (j : ℕ) → j < k → Fits s n (a + j) → j + 1 ≤ high
  pub from : (j : ℕ) → j < k → Fits s n (a + j) → 16 ≤ low + j
  pub separator : (high ≡ 0) ⊎ ((64 ≤ high) ⊎ Separator (get_or s (a + high + 1) 0))
  pub highest : (high ≤ k) ⊎ (high ≡ 64)
  pub lowest : low ≤ 16

-- The bytes from the place p on that do not end a name are r, or at least 32.
pub record Measured (s : List ℕ) (p r : ℕ) : Type 0 where
  pub most : r ≤ 32
  pub whole : Whole s p (p + r)
  pub ends : r < 32 → Ending (get_or s (p + r) 0)
