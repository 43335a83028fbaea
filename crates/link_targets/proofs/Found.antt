-- The first line of a number is what the search finds among the lines that are left, for the name that has the number.
-- Assumes nothing.
use Rattle.std.specs.Prelude.{Some}
use Prim.Native.Nat.{ℕ, zero, suc, ◌+◌, ◌-◌, ◌≤◌, ◌<◌, ◌*◌}
use mathlib.Core.Path.{◌≡◌, refl, ◌∙◌, ap, sym}
use mathlib.Core.Bool.{Bool, true, false}
use mathlib.Core.List.{List, [], ◌∷◌}
use native.Mathlib.Omega.{arith}
use borrow.Author.Tests.{eqb-true, eqb-false, eq-eqb, ne_eqb}
use lib.Dec.{eqb, ltb}
use lib.ListN.{length, take, get_or, set, replicate, length-replicate}
use lib.Seq.{get_or-set_same, get_or-set_other}
use Rattle.name_table.specs.Table.{Table, AtMost, text_of, place_in, slot_of}
use Rattle.name_table.proofs.Laws.{in_order, slot_alone, slot_single, slot_long}
use Rattle.spec.specs.Choice.{pick, both}
use Rattle.spec.specs.Lists.{holds, same, among}
use Rattle.spec.specs.Lines.{Line, is_ignored, find}
use Rattle.spec.specs.Repair.{is_dropped, left, lines_of}
use Rattle.laws.proofs.Tests.{clash}
use Rattle.laws.proofs.WholeLines.{same_equal, equal_same}
use Rattle.link_targets.specs.Targets.{name_at, place_of, any_numbered, line_names, numbered, first_numbered, Unsettled, FirstLines, Targets, ShortNames}

module _ (number : List ℕ → ℕ) (name : List ℕ) (j : ℕ) (has : number name ≡ j) (alone : (n : List ℕ) → number n ≡ j → n ≡ name) where
  same_number : (n : List ℕ) → eqb (number n) j ≡ same name n
  same_number n = go (same name n) refl
    where
      go : (x : Bool) → same name n ≡ x → eqb (number n) j ≡ x
      go true e = eq-eqb (number n) j (ap number (sym (same_equal name n e)) ∙ has)
      go false e = ne_eqb (number n) j (λ h. clash (sym (equal_same name n (sym (alone n h))) ∙ e))

  among-number : (ns : List (List ℕ)) → any_numbered number ns j ≡ among name ns
  unfolding any_numbered among
  among-number [] = refl
  among-number (n ∷ ns) = rw (same_number n, among-number ns)

  pub first_found : (ls : List Line) → first_numbered number j ls ≡ find name (left ls)
  unfolding first_numbered find left numbered is_dropped
  first_found [] = refl
  first_found (l ∷ ls) = go (is_ignored l.text) refl (holds 58 l.text) refl (first_found ls)
    where
      go : (x : Bool) → is_ignored l.text ≡ x → (y : Bool) → holds 58 l.text ≡ y → first_numbered number j ls ≡ find name (left ls)
          → pick (numbered number l.text j) (Some l.start) (first_numbered number j ls) ≡ find name (pick (is_dropped l.text) (left ls) (l ∷ left ls))
      go true x y e ih = rw (x, x) ih
      go false x true y ih = rw (x, y, x, among-number (line_names l.text), ih)
      go false x false y ih = rw (x, y) ih

  pub target_found : (db firsts : List ℕ) → FirstLines db number firsts → j < length firsts → get_or firsts j 0 ≡ place_of (find name (left (lines_of db)))
  unfolding FirstLines
  target_found db firsts f h = f j h ∙ ap place_of (first_found (lines_of db))

-- ---- by a table

pub table_found : (db bytes lens order : List ℕ) (count : ℕ) (name firsts : List ℕ) (j : ℕ) → FirstLines db (slot_of bytes lens order count) firsts
    → length firsts ≡ length lens
    → j ≡ slot_of bytes lens order count name → j < length firsts → get_or firsts j 0 ≡ place_of (find name (left (lines_of db)))
table_found db bytes lens order count name firsts j f e s h =
    let m : slot_of bytes lens order count name < length lens = omega (arith, s) in
    target_found (slot_of bytes lens order count) name j (sym s) (λ n g. slot_alone bytes lens order count name m n (g ∙ s)) db firsts f h

-- a text has the number of a name, or that past all names
slot_most : (bytes lens order : List ℕ) (count : ℕ) (name : List ℕ) → Table bytes lens order → slot_of bytes lens order count name ≤ length lens
unfolding slot_of
slot_most bytes lens order count name t =
    go (both (ltb (place_in bytes lens order count name) count) (same name (text_of bytes lens (get_or order (place_in bytes lens order count name) 0))))
  where
    go : (x : Bool) → pick x (get_or order (place_in bytes lens order count name) 0) (length lens) ≤ length lens
    go true = let l = in_order bytes lens order (place_in bytes lens order count name) t in omega arith
    go false = omega arith

pub slot_past : (bytes lens order : List ℕ) (count : ℕ) (name : List ℕ) → Table bytes lens order → 64 < length name
    → length lens ≡ slot_of bytes lens order count name
slot_past bytes lens order count name t h =
    omega (arith, slot_long bytes lens order count name t.short h, slot_most bytes lens order count name t)

-- ---- by a table of one name

pub single_table : (bytes : List ℕ) (n : ℕ) → length bytes ≡ 64 → n ≤ 64 → Table bytes (n ∷ []) (0 ∷ [])
unfolding AtMost
single_table bytes n e h = record {
  some = omega arith;
  few = omega arith;
  room = e;
  short = λ i. short i;
  listed = refl;
  inside = λ i. inside i;
}
  where
    short : (i : ℕ) → get_or (n ∷ []) i 0 ≤ 64
    short zero = h
    short (suc i) = omega arith

    inside : (i : ℕ) → get_or {A = ℕ} (0 ∷ []) i 0 ≤ 0
    inside zero = omega arith
    inside (suc i) = omega arith

pub single_unsettled : Unsettled (1048577 ∷ [])
unfolding Unsettled
single_unsettled zero h = refl
single_unsettled (suc j) h = absurd (omega arith)

pub single_found : (db bytes : List ℕ) (n : ℕ) (name firsts : List ℕ) → take n bytes ≡ name → FirstLines db (slot_of bytes (n ∷ []) (0 ∷ []) 1) firsts
    → length firsts ≡ 1
    → get_or firsts 0 0 ≡ place_of (find name (left (lines_of db)))
single_found db bytes n name firsts e f m =
    let t : text_of bytes (n ∷ []) 0 ≡ name = (unfold text_of in e) in
    table_found db bytes (n ∷ []) (0 ∷ []) 1 name firsts 0 f m (sym (slot_single bytes n name t)) (omega arith)

-- ---- the targets one after the other

pub targets_none : (db names tos : List ℕ) → Targets db names tos 0
unfolding Targets
targets_none db names tos k h = absurd (omega arith)

pub targets_reached : (db names tos : List ℕ) (k n : ℕ) → Targets db names tos k → n ≤ k → Targets db names tos n
unfolding Targets
targets_reached db names tos k n t h i g = t i (omega arith)

pub targets_on : (db names tos : List ℕ) (k v : ℕ) → Targets db names tos k → k < length tos → v
    ≡ place_of (find (name_at db (get_or names k 0)) (left (lines_of db))) → Targets db names (set tos k v) (k + 1)
unfolding Targets
targets_on db names tos k v t h e i g = go (eqb i k) refl
  where
    go : (x : Bool) → eqb i k ≡ x → get_or (set tos k v) i 0 ≡ place_of (find (name_at db (get_or names i 0)) (left (lines_of db)))
    go true x =
        let s = eqb-true i k x in
        rw (s, get_or-set_same tos k v 0 h) e
    go false x =
        let n = eqb-false i k x in
        let m : i < k = omega arith in
        get_or-set_other tos k i v 0 n ∙ t i m

pub short-name : (db names : List ℕ) (k : ℕ) → ShortNames db names → k < length names → length (name_at db (get_or names k 0)) ≤ 64
unfolding ShortNames
short-name db names k s h = s k h

-- ---- the table as it is at first, and the numbers

pub at-most_zeros : (most n : ℕ) → AtMost most (replicate n 0)
unfolding AtMost
at-most_zeros most zero i = omega arith
at-most_zeros most (suc n) zero = omega arith
at-most_zeros most (suc n) (suc i) = at-most_zeros most n i

pub first_table : (size : ℕ) → 1 ≤ size → size ≤ 4096 → (bytes lens order : List ℕ) → bytes ≡ replicate (size * 64) 0 → lens ≡ replicate size 0 → order
    ≡ replicate size 0 → Table bytes lens order
first_table size some few bytes lens order b l o = record {
  some = rw (l, length-replicate {A = ℕ} size 0) some;
  few = rw (l, length-replicate {A = ℕ} size 0) few;
  room = rw (b, l, length-replicate {A = ℕ} size 0) (length-replicate (size * 64) 0);
  short = rw l (at-most_zeros 64 size);
  listed = rw (o, l);
  inside = rw (o, l) (at-most_zeros (length (replicate {A = ℕ} size 0) - 1) size);
}

pub first_unsettled : (size : ℕ) → Unsettled (replicate size 1048577)
unfolding Unsettled
first_unsettled zero j h = absurd (omega arith)
first_unsettled (suc size) zero h = refl
first_unsettled (suc size) (suc j) h = first_unsettled size j (omega arith)

-- the table after the names are copied into it
pub copied_table : (bytes lens order b l : List ℕ) → Table bytes lens order → length b ≡ length bytes → length l ≡ length lens → AtMost 64 l → Table b l order
copied_table bytes lens order b l t e f m = record {
  some = omega (arith, t.some);
  few = omega (arith, t.few);
  room = e ∙ t.room ∙ ap (λ (n : ℕ). n * 64) (sym f);
  short = m;
  listed = t.listed ∙ sym f;
  inside = rw f t.inside;
}
