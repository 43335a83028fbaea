-- Which links are removed: the links as two lists of numbers, and the reason of each by the links from its line on.
use Rattle.std.specs.Prelude.{ℕ, zero, suc, ◌+◌, ◌≤◌, ◌<◌, ◌≡◌, Bool, false, List, [], ◌∷◌, eqb, ltb, length, get_or, Option, Some, None}
use Rattle.spec.specs.Choice.{pick, both, either}
use Rattle.spec.specs.Repair.{Link, link_reason}

-- A number as a place: 1,048,577 is nowhere.
unfoldable pub found_of : ℕ → Option ℕ
found_of v = pick (eqb v 1048577) None (Some v)

-- The links, by where their lines start and where they lead.
unfoldable pub links_of : List ℕ → List ℕ → List Link
links_of [] tos = []
links_of (a ∷ ats) [] = []
links_of (a ∷ ats) (t ∷ tos) = record { at = a; to = found_of t } ∷ links_of ats tos

-- THE REASONS: each link's by the links from its line on (law `third_pass`), 0 where it stays.
unfoldable pub reasons_of : List Link → List ℕ
reasons_of [] = []
reasons_of (k ∷ ks) = link_reason (k ∷ ks) k.at k.to ∷ reasons_of ks

-- No two lines start at one place, and none past the largest database.
pub record Starts (ats : List ℕ) : Type 0 where
  pub apart : (i j : ℕ) → i < length ats → j < length ats → get_or ats i 0 ≡ get_or ats j 0 → i ≡ j
  pub inside : (i : ℕ) → i < length ats → get_or ats i 0 ≤ 1048576

-- ---- the same by the numbers of the links

-- Where a number stands in a list: the list's length, if it does not.
unfoldable pub index_of : List ℕ → ℕ → ℕ
index_of [] p = 0
index_of (a ∷ l) p = pick (eqb a p) 0 (index_of l p + 1)

-- For each link the link of the line that it leads to.
unfoldable pub Nexts : List ℕ → List ℕ → List ℕ → ℕ → Type 0
Nexts ats tos nexts count = (i : ℕ) → i < count → get_or nexts i 0 ≡ index_of ats (get_or tos i 0)

-- Whether the links from `at` on come back to `home`, in at most so many steps, over links behind `home` alone.
unfoldable pub returns_to : List ℕ → ℕ → ℕ → ℕ → Bool
returns_to nexts home zero at = false
returns_to nexts home (suc n) at = either (eqb at home) (both (both (ltb home at) (ltb at (length nexts))) (returns_to nexts home n (get_or nexts at 0)))
