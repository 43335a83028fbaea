-- THE REASONS ARE THOSE OF THE THIRD PASS: what the code stores for each link is what `removed_links` says of its line.
-- Assumes nothing.
use Prim.Native.Nat.{ℕ, zero, suc, ◌<◌}
use mathlib.Core.Path.{◌≡◌, refl, ◌∙◌, sym}
use mathlib.Core.Bool.{Bool, true, false}
use mathlib.Core.List.{List, [], ◌∷◌}
use native.Mathlib.Omega.{arith}
use borrow.Author.Tests.{eqb-true, eq-eqb, ne_eqb}
use lib.Dec.{eqb}
use lib.ListN.{length, get_or}
use Rattle.spec.specs.Choice.{pick}
use Rattle.spec.specs.Repair.{Link, link_reason, removed_links, reason_at}
use Rattle.laws.proofs.LinkRings.{Fresh, Distinct}
use Rattle.laws.proofs.LaterLinks.{removed_from, third_pass}
use Rattle.link_rings.specs.Rings.{links_of, reasons_of, Starts}
use Rattle.link_rings.proofs.Indexes.{links_length}

-- a line without a link
fresh_none : (ks : List Link) (p : ℕ) → Fresh p ks → reason_at (removed_from ks) p ≡ 0
unfolding removed_from reason_at
fresh_none [] p f = refl
fresh_none (k ∷ ks) p f = go (eqb (link_reason (k ∷ ks) k.at k.to) 0) (fresh_none ks p f.1)
  where
    go : (x : Bool) → reason_at (removed_from ks) p ≡ 0
        → reason_at (pick x (removed_from ks) (record { at = k.at; reason = link_reason (k ∷ ks) k.at k.to } ∷ removed_from ks)) p ≡ 0
    go true ih = ih
    go false ih = rw (ne_eqb k.at p f.0) ih

-- the place of the line of the link i
unfoldable pub line_of : List Link → ℕ → ℕ
line_of [] i = 0
line_of (k ∷ ks) zero = k.at
line_of (k ∷ ks) (suc i) = line_of ks i

fresh_other : (ks : List Link) (p i : ℕ) → Fresh p ks → i < length ks → p ≡ line_of ks i → ⊥
unfolding line_of
fresh_other [] p i f h e = absurd (omega arith)
fresh_other (k ∷ ks) p zero f h e = f.0 (sym e)
fresh_other (k ∷ ks) p (suc i) f h e = fresh_other ks p i f.1 (omega arith) e

from_reasons : (ks : List Link) (i : ℕ) → Distinct ks → i < length ks → reason_at (removed_from ks) (line_of ks i) ≡ get_or (reasons_of ks) i 0
unfolding removed_from reason_at reasons_of line_of
from_reasons [] i d h = absurd (omega arith)
from_reasons (k ∷ ks) zero d h = go (eqb (link_reason (k ∷ ks) k.at k.to) 0) refl
  where
    go : (x : Bool) → eqb (link_reason (k ∷ ks) k.at k.to) 0 ≡ x
        → reason_at (pick x (removed_from ks) (record { at = k.at; reason = link_reason (k ∷ ks) k.at k.to } ∷ removed_from ks)) k.at ≡ link_reason
        (k ∷ ks) k.at k.to
    go true e = fresh_none ks k.at d.0 ∙ sym (eqb-true _ _ e)
    go false e = rw (eq-eqb k.at k.at refl)
from_reasons (k ∷ ks) (suc i) d h =
    go (eqb (link_reason (k ∷ ks) k.at k.to) 0) (from_reasons ks i d.1 (omega arith)) (fresh_other ks k.at i d.0 (omega arith))
  where
    go : (x : Bool) → reason_at (removed_from ks) (line_of ks i) ≡ get_or (reasons_of ks) i 0 → (k.at ≡ line_of ks i → ⊥)
        → reason_at (pick x (removed_from ks) (record { at = k.at; reason = link_reason (k ∷ ks) k.at k.to } ∷ removed_from ks)) (line_of ks i) ≡ get_or
        (reasons_of ks) i 0
    go true ih n = ih
    go false ih n = rw (ne_eqb k.at (line_of ks i) n) ih

-- ---- as lists of numbers

line_is : (ats tos : List ℕ) (i : ℕ) → length tos ≡ length ats → i < length ats → line_of (links_of ats tos) i ≡ get_or ats i 0
unfolding line_of links_of
line_is [] tos i e h = absurd (omega arith)
line_is (a ∷ ats) [] i e h = absurd (omega arith)
line_is (a ∷ ats) (t ∷ tos) zero e h = refl
line_is (a ∷ ats) (t ∷ tos) (suc i) e h = line_is ats tos i (omega arith) (omega arith)

fresh_links : (ats tos : List ℕ) (p : ℕ) → ((i : ℕ) → i < length ats → get_or ats i 0 ≡ p → ⊥) → Fresh p (links_of ats tos)
unfolding links_of
fresh_links [] tos p n = tt
fresh_links (a ∷ ats) [] p n = tt
fresh_links (a ∷ ats) (t ∷ tos) p n = (n 0 (omega arith), fresh_links ats tos p (λ i h e. n (suc i) (omega arith) e))

distinct_links : (ats tos : List ℕ) → ((i j : ℕ) → i < length ats → j < length ats → get_or ats i 0 ≡ get_or ats j 0 → i ≡ j) → Distinct (links_of ats tos)
unfolding links_of
distinct_links [] tos d = tt
distinct_links (a ∷ ats) [] d = tt
distinct_links (a ∷ ats) (t ∷ tos) d = (
  fresh_links ats tos a (λ i h e. other i (d (suc i) 0 (omega arith) (omega arith) e)),
  distinct_links ats tos
      (λ i j h g e. down i j (d (suc i) (suc j) (omega arith) (omega arith) e)),
)
  where
    other : (i : ℕ) → suc i ≡ 0 → ⊥
    other i e = omega arith

    down : (i j : ℕ) → suc i ≡ suc j → i ≡ j
    down i j e = omega arith

-- The reason of a line with a link, and of one without.
pub reasons_removed : (ats tos : List ℕ) (i : ℕ) → Starts ats → length tos ≡ length ats → i < length ats
    → reason_at (removed_links [] (links_of ats tos)) (get_or ats i 0) ≡ get_or (reasons_of (links_of ats tos)) i 0
reasons_removed ats tos i s e h =
    let d = distinct_links ats tos s.apart in
    let l = links_length ats tos e in
    rw (third_pass (links_of ats tos) d, ← line_is ats tos i e h) (from_reasons (links_of ats tos) i d (omega (arith, l)))

pub others_kept : (ats tos : List ℕ) (p : ℕ) → Starts ats → ((i : ℕ) → i < length ats → get_or ats i 0 ≡ p → ⊥)
    → reason_at (removed_links [] (links_of ats tos)) p ≡ 0
others_kept ats tos p s n = rw (third_pass (links_of ats tos) (distinct_links ats tos s.apart)) (fresh_none (links_of ats tos) p (fresh_links ats tos p n))
