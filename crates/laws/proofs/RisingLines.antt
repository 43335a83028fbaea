-- Lines start at rising places, so no two links have one place.
-- Assumes nothing.
use Prim.Native.Nat.{ℕ, suc, ◌+◌, ◌≤◌, ◌<◌}
use mathlib.Core.Bool.{Bool, true, false}
use mathlib.Core.List.{List, [], ◌∷◌}
use native.Mathlib.Omega.{arith}
use lib.Dec.{eqb}
use lib.ListN.{drop}
use Rattle.spec.specs.Choice.{pick, both}
use Rattle.spec.specs.Lines.{Text, end, byte, join, text_at, Line, line_text, later_lines}
use Rattle.spec.specs.Fields.{Verdict, malformed_line, no_link, link_to}
use Rattle.spec.specs.Repair.{lines_of, is_dropped, left, line_link, Link, with_link, links_among}
use Rattle.laws.proofs.LinkRings.{Fresh, Distinct}

-- ---- lines start at rising places

abbrev pub Rising : ℕ → List Line → Type 0
Rising a [] = Unit {0}
Rising a (l ∷ ls) = (a ≤ l.start) × Rising (suc l.start) ls

pub rising-from : (a b : ℕ) (ls : List Line) → a ≤ b → Rising b ls → Rising a ls
rising-from a b [] h r = tt
rising-from a b (l ∷ ls) h r = (omega (arith, r.0), r.1)

pub rising-left : (a : ℕ) (ls : List Line) → Rising a ls → Rising a (left ls)
unfolding left
rising-left a [] r = tt
rising-left a (l ∷ ls) r = go (is_dropped l.text) (rising-left (suc l.start) ls r.1)
  where
    go : (x : Bool) → Rising (suc l.start) (left ls) → Rising a (pick x (left ls) (l ∷ left ls))
    go true h = rising-from a (suc l.start) (left ls) (omega (arith, r.0)) h
    go false h = (r.0, h)

rising-byte : (b n : ℕ) (t : Text) → Rising (suc n) (later_lines t) → Rising n (later_lines (byte b n t))
unfolding later_lines
rising-byte b n t r = go (eqb b 10)
  where
    go : (x : Bool) → Rising n (pick x (record { start = n; text = line_text t } ∷ later_lines t) (later_lines t))
    go true = (omega arith, r)
    go false = rising-from n (suc n) (later_lines t) (omega arith) r

rising_later : (at : ℕ) (s : List ℕ) → Rising (suc at) (later_lines (join at s))
unfolding join
rising_later at [] = unfold later_lines in tt
rising_later at (b ∷ []) =
    rising-from (suc at) (at + 1) (later_lines (byte b (at + 1) end)) (omega arith) (rising-byte b (at + 1) end (unfold later_lines in tt))
rising_later at (b ∷ c ∷ s) = go (both (eqb b 92) (eqb c 10)) (rising_later (at + 1 + 1) s) (rising_later (at + 1) (c ∷ s))
  where
    go : (x : Bool) → Rising (suc (at + 1 + 1)) (later_lines (join (at + 1 + 1) s)) → Rising (suc (at + 1)) (later_lines (join (at + 1) (c ∷ s)))
        → Rising (suc at) (later_lines (pick x (join (at + 1 + 1) s) (byte b (at + 1) (join (at + 1) (c ∷ s)))))
    go true h k = rising-from (suc at) (suc (at + 1 + 1)) (later_lines (join (at + 1 + 1) s)) (omega arith) h
    go false h k =
        rising-from (suc at) (at + 1) (later_lines (byte b (at + 1) (join (at + 1) (c ∷ s)))) (omega arith) (rising-byte b (at + 1) (join (at + 1) (c ∷ s)) k)

pub rising_lines : (db : List ℕ) → Rising 0 (lines_of db)
unfolding lines_of text_at
rising_lines db = (omega arith, rising_later 0 db)

pub rising-after : (db : List ℕ) (at : ℕ) → Rising (suc at) (later_lines (text_at db at))
unfolding text_at
rising-after db at = rising_later at (drop at db)

-- ---- the links of the lines

module _ (among : List Line) where
  with_fresh : (p a : ℕ) (v : Verdict) (ks : List Link) → p < a → Fresh p ks → Fresh p (with_link among a v ks)
  unfolding with_link
  with_fresh p a malformed_line ks h f = f
  with_fresh p a no_link ks h f = f
  with_fresh p a (link_to n) ks h f = ((λ e. omega arith), f)

  with_distinct : (a : ℕ) (v : Verdict) (ks : List Link) → Fresh a ks → Distinct ks → Distinct (with_link among a v ks)
  unfolding with_link
  with_distinct a malformed_line ks f d = d
  with_distinct a no_link ks f d = d
  with_distinct a (link_to n) ks f d = (f, d)

  links_fresh : (p : ℕ) (ls : List Line) → Rising (suc p) ls → Fresh p (links_among among ls)
  unfolding links_among
  links_fresh p [] r = tt
  links_fresh p (l ∷ ls) r =
      let above : Rising (suc p) ls = rising-from (suc p) (suc l.start) ls (omega (arith, r.0)) r.1 in
      with_fresh p l.start (line_link l.text) (links_among among ls) (omega (arith, r.0)) (links_fresh p ls above)

  pub links_distinct : (a : ℕ) (ls : List Line) → Rising a ls → Distinct (links_among among ls)
  unfolding links_among
  links_distinct a [] r = tt
  links_distinct a (l ∷ ls) r =
      with_distinct l.start (line_link l.text) (links_among among ls) (links_fresh l.start ls r.1) (links_distinct (suc l.start) ls r.1)
