-- Flat is one line: a newline is its last byte and no other, and no backslash stands before it.
-- Assumes nothing.
use Prim.Native.Nat.{ℕ}
use mathlib.Core.Path.{◌≡◌, refl, sym}
use mathlib.Core.List.{List, [], ◌∷◌, ◌++◌, append_assoc}
use native.Mathlib.Omega.{arith}
use Rattle.spec.specs.Fields.{with_colons}
use Rattle.spec.specs.Files.{Files}
use Rattle.spec.specs.Chain.{Field, texts, terminal}
use Rattle.spec.specs.Lookup.{winning}
use Rattle.spec.specs.Questions.{terminal_of}
use Rattle.spec.specs.Listing.{flat_text}
use Rattle.laws.proofs.WholeLines.{Free, AllFree}
use Rattle.laws.proofs.Winning.{winning_free}
use Rattle.laws.proofs.FlatAlone.{sound}

free_append : (c : ℕ) (x y : List ℕ) → Free c x → Free c y → Free c (x ++ y)
free_append c [] y h k = k
free_append c (b ∷ x) y h k = (h.0, free_append c x y h.1 k)

pub colons_free : (ts : List (List ℕ)) → AllFree 10 ts → Free 10 (with_colons ts)
unfolding with_colons
colons_free [] h = tt
colons_free (t ∷ ts) h = free_append 10 t (58 ∷ with_colons ts) h.0 ((λ e. omega arith), colons_free ts h.1)

-- No newline of a text stands directly after a backslash.
abbrev pub NoJoinedPair : List ℕ → Type 0
NoJoinedPair [] = Unit {0}
NoJoinedPair (b ∷ []) = Unit {0}
NoJoinedPair (b ∷ c ∷ l) = (b ≡ 92 → c ≡ 10 → ⊥) × NoJoinedPair (c ∷ l)

-- A text without a newline, then a colon and a newline.
closed_pair : (l : List ℕ) → Free 10 l → NoJoinedPair (l ++ 58 ∷ 10 ∷ [])
closed_pair [] h = ((λ e f. omega arith), tt)
closed_pair (b ∷ []) h = ((λ e f. omega arith), ((λ e f. omega arith), tt))
closed_pair (b ∷ c ∷ l) h = ((λ e f. h.1.0 f), closed_pair (c ∷ l) h.1)

-- Texts with colons end in a colon.
unfoldable pub open_colons : List ℕ → List (List ℕ) → List ℕ
open_colons t [] = t
open_colons t (u ∷ ts) = t ++ 58 ∷ open_colons u ts

colons_end : (t : List ℕ) (ts : List (List ℕ)) → with_colons (t ∷ ts) ≡ open_colons t ts ++ 58 ∷ []
unfolding with_colons open_colons
colons_end t [] = refl
colons_end t (u ∷ ts) = rw (colons_end u ts) (sym (append_assoc t (58 ∷ open_colons u ts) (58 ∷ [])))

open_free : (t : List ℕ) (ts : List (List ℕ)) → Free 10 t → AllFree 10 ts → Free 10 (open_colons t ts)
unfolding open_colons
open_free t [] h hs = h
open_free t (u ∷ ts) h hs = free_append 10 t (58 ∷ open_colons u ts) h ((λ e. omega arith), open_free u ts hs.0 hs.1)

module _ (db : Files) (name names : List ℕ) (fs : List Field) (accepted : terminal_of db name ≡ terminal names fs) where
  -- all of Flat but its last byte
  abbrev pub flat_body : List ℕ
  flat_body = with_colons (names ∷ texts (winning fs))

  pub flat-ends : flat_text names fs ≡ flat_body ++ 10 ∷ []
  unfolding flat_text
  flat-ends = refl

  pub flat_no_newline : Free 10 flat_body
  flat_no_newline =
      let k = sound db name names fs accepted in
      colons_free (names ∷ texts (winning fs)) (k.names_free, winning_free fs 10 k.free)

  pub flat_no_pair : NoJoinedPair (flat_text names fs)
  unfolding flat_text
  flat_no_pair =
      let k = sound db name names fs accepted in
      let e = colons_end names (texts (winning fs)) in
      let h = open_free names (texts (winning fs)) k.names_free (winning_free fs 10 k.free) in
      rw (e, append_assoc (open_colons names (texts (winning fs))) (58 ∷ []) (10 ∷ [])) (closed_pair (open_colons names (texts (winning fs))) h)
