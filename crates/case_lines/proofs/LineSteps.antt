-- The definitions of `specs/Fields`, step by step along a line. Assumes nothing.
use Prim.Native.Nat.{ℕ, zero, suc, ◌+◌, ◌-◌, ◌*◌, ◌≤◌, ◌<◌}
use mathlib.Core.Path.{◌≡◌, refl, sym, ◌∙◌, ap}
use mathlib.Core.Bool.{Bool, true, false, cond}
use mathlib.Core.List.{List, [], ◌∷◌}
use native.Mathlib.Numerals.{add-one}
use native.Mathlib.Omega.{arith}
use borrow.Author.Tests.{ne_eqb, lt-ltb, le-ltb}
use lib.Dec.{eqb}
use lib.ListN.{length, take, drop, get_or, drop_of_length-le}
use lib.Seq.{drop-cons, sets, set_out}
use Rattle.std.specs.List.{slice_split, onto_first}
use Rattle.std.proofs.lemmas.List.{take_rest}
use Rattle.spec.specs.Choice.{pick}
use Rattle.spec.specs.Lists.{upto, past}
use Rattle.case_lines.specs.Fields.{after, field_of, number_from, digit_of, hex_digit_of, bytes_of}

-- a byte, and what stands after it
next : (s : List ℕ) (i : ℕ) → i < length s → drop i s ≡ get_or s i 0 ∷ drop (i + 1) s
next s i h = rw (add-one, drop-cons s i 0)

-- ---- a field

module _ (c : ℕ) where
  pieces : List ℕ → List (List ℕ)
  pieces l = slice_split (λ b. eqb b c) l

  first_piece : (l : List ℕ) → get_or (pieces l) 0 [] ≡ upto c l
  unfolding upto pieces
  first_piece [] = refl
  first_piece (b ∷ l) = go (eqb b c) (pieces l) (first_piece l)
    where
      go : (x : Bool) (ps : List (List ℕ)) → get_or ps 0 [] ≡ upto c l → get_or (cond x ([] ∷ ps) (onto_first b ps)) 0 [] ≡ pick x [] (b ∷ upto c l)
      go true ps e = refl
      go false [] e = ap (λ (r : List ℕ). b ∷ r) e
      go false (p ∷ ps) e = ap (λ (r : List ℕ). b ∷ r) e

  later_piece : (l : List ℕ) (k : ℕ) → get_or (pieces l) (suc k) [] ≡ get_or (pieces (past c l)) k []
  unfolding past pieces
  later_piece [] zero = refl
  later_piece [] (suc k) = refl
  later_piece (b ∷ l) k = go (eqb b c) (pieces l) refl (later_piece l k)
    where
      go : (x : Bool) (ps : List (List ℕ)) → pieces l ≡ ps → get_or ps (suc k) [] ≡ get_or (pieces (past c l)) k []
          → get_or (cond x ([] ∷ ps) (onto_first b ps)) (suc k) [] ≡ get_or (pieces (pick x l (past c l))) k []
      go true ps f e = sym (ap (λ (qs : List (List ℕ)). get_or qs k []) f)
      go false [] f e = e
      go false (p ∷ ps) f e = e

pub field_piece : (l : List ℕ) (k : ℕ) → get_or (slice_split (λ b. eqb b 124) l) k [] ≡ field_of l k
unfolding after pieces
field_piece l zero = first_piece 124 l
field_piece l (suc k) = later_piece 124 l k ∙ field_piece (past 124 l) k

-- ---- a number

module _ (n : ℕ) (f : List ℕ) (i : ℕ) where
  pub number-end : length f ≤ i → number_from n (drop i f) ≡ n
  unfolding number_from
  number-end h = rw (drop_of_length-le f h)

  module _ (h : i < length f) where
    pub number_full : 99999999 < n → number_from n (drop i f) ≡ n
    unfolding number_from
    number_full g = rw (next f i h, lt-ltb _ _ g)

    pub number_on : n ≤ 99999999 → number_from n (drop i f) ≡ number_from (n * 10 + digit_of (get_or f i 0)) (drop (i + 1) f)
    unfolding number_from
    number_on g = rw (next f i h, le-ltb _ _ g)

-- ---- a text

pub bytes_pair : (l : List ℕ) → 2 ≤ length l
    → bytes_of (92 ∷ l) ≡ (16 * hex_digit_of (get_or l 0 0) + hex_digit_of (get_or l 1 0)) ∷ bytes_of (take (length l - 2) (drop 2 l))
unfolding bytes_of
bytes_pair [] h = elim h [ ]
bytes_pair (c ∷ []) h = absurd (omega arith)
bytes_pair (c ∷ d ∷ l) h = rw (take_rest (c ∷ d ∷ l) 2)

pub bytes-plain : (b : ℕ) (l : List ℕ) → (b ≡ 92 → ⊥) → bytes_of (b ∷ l) ≡ b ∷ bytes_of l
unfolding bytes_of
bytes-plain b [] n = refl
bytes-plain b (c ∷ []) n = refl
bytes-plain b (c ∷ d ∷ l) n = rw (ne_eqb b 92 n)

pub bytes-short : (b : ℕ) (l : List ℕ) → length l < 2 → bytes_of (b ∷ l) ≡ b ∷ bytes_of l
unfolding bytes_of
bytes-short b [] h = refl
bytes-short b (c ∷ []) h = refl
bytes-short b (c ∷ d ∷ l) h = absurd (omega arith)

-- a store past the end is no store
pub sets_full : (vs l : List ℕ) (i : ℕ) → length l ≤ i → sets l i vs ≡ l
sets_full [] l i h = refl
sets_full (a ∷ vs) l i h = let g : length l ≤ suc i = omega arith in rw (set_out l i a h) (sets_full vs l (suc i) g)
