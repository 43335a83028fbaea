-- Blocks of places, those in which a plain name can start, and lists of them.
use Rattle.std.specs.Prelude.{◌≡◌, ℕ, ◌+◌, ◌*◌, ◌<◌, ◌≤◌, Bool, true, false, ◌⊎◌, List, length, slice_index}
use Rattle.name_places.specs.Marks.{Each, Separator, AllSettled}

-- ---- starts: plain names, of the bytes 36..127 only, stand behind these only, and are cut only there

abbrev pub Start : ℕ → ℕ → Type 0
Start b c = Separator b × (36 ≤ c) × (c < 128)

abbrev pub Startless : List ℕ → ℕ → ℕ → Type 0
Startless s a b = Each (λ (i : ℕ). Start (slice_index s i) (slice_index s (i + 1)) → ⊥) a b

-- The name n is plain.
abbrev pub Plain : List ℕ → Type 0
Plain n = Each (λ (i : ℕ). (36 ≤ slice_index n i) × (slice_index n i < 128)) 0 (length n)

-- ---- lists of numbers of blocks

-- Of the numbers below k, those that are not free are among the first n of the list l, which rise.
pub record Listed (Free : ℕ → Type 0) (l : List ℕ) (n k : ℕ) : Type 0 where
  pub few : n ≤ k
  pub below : (c : ℕ) → c < n → slice_index l c < k
  pub rising : (c d : ℕ) → c < d → d < n → slice_index l c < slice_index l d
  pub all : (j : ℕ) → j < k → Free j ⊎ ((c : ℕ) × (c < n) × (slice_index l c ≡ j))

-- How many are listed then.
abbrev pub counted : Bool → ℕ → ℕ
counted true n = n + 1
counted false n = n

-- The listed ones of the blocks of 48 places from a on: the others have no start.
abbrev pub StartsListed : List ℕ → ℕ → List ℕ → ℕ → ℕ → Type 0
StartsListed s a l n k = Listed (λ (j : ℕ). Startless s (a + j * 48) (a + j * 48 + 48)) l n k

-- The same, of blocks of w places: the others are settled.
abbrev pub BlocksListed : ℕ → List ℕ → List ℕ → ℕ → List ℕ → ℕ → ℕ → Type 0
BlocksListed w s n a l m k = Listed (λ (j : ℕ). AllSettled s n (a + j * w) (a + j * w + w)) l m k
