-- A lookup, field by field in a line, and line by line in a chain.
-- Assumes nothing.
use Prim.Native.Nat.{ℕ, ◌+◌, ◌≤◌, ◌<◌}
use mathlib.Core.Path.{◌≡◌, refl}
use mathlib.Core.Bool.{Bool, true, false}
use mathlib.Core.List.{List, [], ◌∷◌, ◌++◌}
use lib.ListN.{length, get_or}
use Rattle.spec.specs.Choice.{pick}
use Rattle.spec.specs.Files.{line_of}
use Rattle.spec.specs.declared.Location.{Location}
use Rattle.spec.specs.Fields.{reading, fields_of}
use Rattle.spec.specs.Chain.{Field, placed}
use Rattle.spec.specs.Lookup.{Hit, none, hit, matches, lookup}
use Rattle.chain.proofs.JoinedFields.{fields_from, from_end, from_next}
use Rattle.fields.specs.Readings.{ReadAs}
use Rattle.fields.specs.declared.FieldRead.{FieldRead}
use Rattle.lookup.specs.Answers.{has_name, has_kind, Scan, goes_on, cancelled, answered, scan}
use Rattle.lookup.proofs.FieldNames.{unnamed_passes, named_matches}

module _ (id : List ℕ) (k : ℕ) where
  -- ---- a line

  pub scan-none : scan id k [] ≡ goes_on
  unfolding scan
  scan-none = refl

  module _ (t : List ℕ) (ts : List (List ℕ)) where
    -- a field that does not start with the asked name
    pub scan-other : has_name id t ≡ false → scan id k (t ∷ ts) ≡ scan id k ts
    unfolding scan
    scan-other h = rw (unnamed_passes id 0 t h, unnamed_passes id k t h)

    -- a field that does, by what it is read as
    module _ (s : List ℕ) (read : FieldRead) (h : has_name id t ≡ true) (p : ReadAs s (reading t) read) where
      pub scan-cancel : has_kind 0 read ≡ true → scan id k (t ∷ ts) ≡ cancelled
      unfolding scan
      scan-cancel e = rw (named_matches id 0 t s read h p, e)

      pub scan-answer : has_kind 0 read ≡ false → has_kind k read ≡ true → scan id k (t ∷ ts) ≡ answered t
      unfolding scan
      scan-answer e f = rw (named_matches id 0 t s read h p, named_matches id k t s read h p, e, f)

      pub scan_on : has_kind 0 read ≡ false → has_kind k read ≡ false → scan id k (t ∷ ts) ≡ scan id k ts
      unfolding scan
      scan_on e f = rw (named_matches id 0 t s read h p, named_matches id k t s read h p, e, f)

  -- ---- the chain

  unfoldable after : Scan → Hit → Hit
  after goes_on h = h
  after cancelled h = none
  after (answered t) h = hit t

  lookup-line : (n m : ℕ) (ts : List (List ℕ)) (gs : List Field) → lookup id k (placed n m ts ++ gs) ≡ after (scan id k ts) (lookup id k gs)
  unfolding lookup scan after placed
  lookup-line n m [] gs = refl
  lookup-line n m (t ∷ ts) gs = go (matches id 0 (reading t)) (matches id k (reading t)) (lookup-line n m ts gs)
    where
      go : (x y : Bool) → lookup id k (placed n m ts ++ gs) ≡ after (scan id k ts) (lookup id k gs)
          → pick x none (pick y (hit t) (lookup id k (placed n m ts ++ gs))) ≡ after (pick x cancelled (pick y (answered t) (scan id k ts))) (lookup id k gs)
      go true y e = refl
      go false true e = refl
      go false false e = e

  module _ (db : List (List ℕ)) (lines : List Location) (n i : ℕ) where
    pub look_end : n ≤ i → lookup id k (fields_from db lines n i) ≡ none
    unfolding lookup
    look_end h = rw (from_end db lines n i h)

    -- the i-th line is l
    module _ (inside : i < n) (array : i < length lines) (d : Location) (l : List ℕ) (line : line_of db (get_or lines i d) ≡ l) where
      step : lookup id k (fields_from db lines n i) ≡ after (scan id k (fields_of l))
          (lookup id k (fields_from db lines n (i + 1)))
      step = rw (from_next db lines n d i inside array, line) (lookup-line i (get_or lines i d).file (fields_of l) (fields_from db lines n (i + 1)))

      pub look_on : scan id k (fields_of l) ≡ goes_on
          → lookup id k (fields_from db lines n i) ≡ lookup id k (fields_from db lines n (i + 1))
      unfolding after
      look_on e = rw (step, e)

      pub look_unnamed : fields_of l ≡ [] → lookup id k (fields_from db lines n i) ≡ lookup id k (fields_from db lines n (i + 1))
      look_unnamed e = look_on (rw e scan-none)

      pub look_cancelled : scan id k (fields_of l) ≡ cancelled → lookup id k (fields_from db lines n i) ≡ none
      unfolding after
      look_cancelled e = rw (step, e)

      pub look_answered : (t : List ℕ) → scan id k (fields_of l) ≡ answered t → lookup id k (fields_from db lines n i) ≡ hit t
      unfolding after
      look_answered t e = rw (step, e)
