-- Removal over texts: which texts win depends on the texts alone. Links and ignored fields take no part in it.
-- Assumes nothing.
use Prim.Native.Nat.{ℕ}
use mathlib.Core.Path.{◌≡◌, refl, ◌∙◌, ap, sym}
use mathlib.Core.Bool.{Bool, true, false}
use mathlib.Core.List.{List, [], ◌∷◌, ◌++◌}
use Rattle.spec.specs.Choice.{pick}
use Rattle.spec.specs.Fields.{Reading, malformed, ignored, link, capability, reading, is_ignored_field, all_ignored}
use Rattle.spec.specs.Chain.{Field, texts}
use Rattle.spec.specs.Lookup.{matches, can_win, hides, winning}
use Rattle.laws.proofs.Tests.{clash, both_true}
use Rattle.laws.proofs.Removal.{without, by_removal, removal_wins, removal_same}
use Rattle.laws.proofs.Winning.{winning_is_removal}

unfoldable pub without_text : Reading → List (List ℕ) → List (List ℕ)
without_text r [] = []
without_text r (t ∷ ts) = pick (hides r (reading t)) (without_text r ts) (t ∷ without_text r ts)

-- The texts that win.
unfoldable pub winners : List (List ℕ) → List (List ℕ)
winners [] = []
winners (t ∷ ts) =
    let others = without_text (reading t) (winners ts) in
    pick (can_win (reading t)) (t ∷ others) others

-- ---- they are the texts of the winning fields

texts_without : (r : Reading) (fs : List Field) → texts (without r fs) ≡ without_text r (texts fs)
unfolding without without_text texts
texts_without r [] = refl
texts_without r (f ∷ fs) = go (hides r (reading f.text)) (texts_without r fs)
  where
    go : (x : Bool) → texts (without r fs) ≡ without_text r (texts fs)
        → texts (pick x (without r fs) (f ∷ without r fs)) ≡ pick x (without_text r (texts fs)) (f.text ∷ without_text r (texts fs))
    go true e = e
    go false e = ap (λ (ts : List (List ℕ)). f.text ∷ ts) e

texts_removal : (fs : List Field) → texts (by_removal fs) ≡ winners (texts fs)
unfolding by_removal winners texts
texts_removal [] = refl
texts_removal (f ∷ fs) =
    go (can_win (reading f.text)) (texts_without (reading f.text) (by_removal fs) ∙ ap (without_text (reading f.text)) (texts_removal fs))
  where
    others : List Field
    others = without (reading f.text) (by_removal fs)

    left : List (List ℕ)
    left = without_text (reading f.text) (winners (texts fs))

    go : (x : Bool) → texts others ≡ left → texts (pick x (f ∷ others) others) ≡ pick x (f.text ∷ left) left
    go true e = ap (λ (ts : List (List ℕ)). f.text ∷ ts) e
    go false e = e

pub texts-winning : (fs : List Field) → texts (winning fs) ≡ winners (texts fs)
texts-winning fs = ap texts (winning_is_removal fs) ∙ texts_removal fs

-- Of the winning fields each wins again.
pub winners_twice : (fs : List Field) → winners (texts (winning fs)) ≡ winners (texts fs)
winners_twice fs =
    ap (λ (gs : List Field). winners (texts gs)) (winning_is_removal fs) ∙ sym (texts_removal (by_removal fs))
    ∙ ap texts (removal_same (by_removal fs) (removal_wins fs)) ∙ texts_removal fs

-- ---- texts before others

pub winners_append : (x y z : List (List ℕ)) → winners y ≡ winners z → winners (x ++ y) ≡ winners (x ++ z)
unfolding winners
winners_append [] y z e = e
winners_append (t ∷ x) y z e = rw (winners_append x y z e)

-- ---- links and ignored fields neither win nor hide

abbrev Inert : Reading → Type 0
Inert r = (can_win r ≡ false) × ((id : List ℕ) (k : ℕ) → matches id k r ≡ false)

link_inert : (n : List ℕ) → Inert (link n)
unfolding can_win matches
link_inert n = (refl, λ id k. refl)

ignored_inert : (r : Reading) → is_ignored_field r ≡ true → Inert r
unfolding is_ignored_field can_win matches
ignored_inert malformed e = clash (sym e)
ignored_inert ignored e = (refl, λ id k. refl)
ignored_inert (link n) e = clash (sym e)
ignored_inert (capability a b c) e = clash (sym e)

inert_hides : (r q : Reading) → Inert r → hides r q ≡ false
unfolding hides
inert_hides r malformed h = refl
inert_hides r ignored h = refl
inert_hides r (link n) h = refl
inert_hides r (capability a b c) h = rw (h.1 (a ∷ b ∷ []) 0, h.1 (a ∷ b ∷ []) _)

inert_without : (r : Reading) (ts : List (List ℕ)) → Inert r → without_text r ts ≡ ts
unfolding without_text
inert_without r [] h = refl
inert_without r (t ∷ ts) h = rw (inert_hides r (reading t) h, inert_without r ts h)

inert_first : (t : List ℕ) (ts : List (List ℕ)) → Inert (reading t) → winners (t ∷ ts) ≡ winners ts
unfolding winners
inert_first t ts h = rw (h.0, inert_without (reading t) (winners ts) h)

pub link_first : (t n : List ℕ) (ts : List (List ℕ)) → reading t ≡ link n → winners (t ∷ ts) ≡ winners ts
link_first t n ts e = inert_first t ts (rw e (link_inert n))

pub ignored_first : (ts us : List (List ℕ)) → all_ignored ts ≡ true → winners (ts ++ us) ≡ winners us
unfolding all_ignored
ignored_first [] us e = refl
ignored_first (t ∷ ts) us e =
    let w = both_true (is_ignored_field (reading t)) (all_ignored ts) e in
    inert_first t (ts ++ us) (ignored_inert (reading t) w.0) ∙ ignored_first ts us w.1
