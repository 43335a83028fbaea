-- What is known of a terminal whose chain is accepted, and when a database of one line is such a chain.
-- Assumes nothing.
use Prim.Native.Nat.{ℕ, ◌+◌, ◌≤◌}
use mathlib.Core.Path.{◌≡◌, refl, ◌∙◌, ap}
use mathlib.Core.Bool.{true}
use mathlib.Core.List.{List, [], ◌∷◌, ◌++◌, append-nil}
use native.Mathlib.Omega.{arith}
use borrow.Author.Tests.{le-ltb}
use lib.ListN.{length}
use Rattle.spec.specs.Lines.{text_at, line_at}
use Rattle.spec.specs.Files.{line_of}
use Rattle.spec.specs.declared.Location.{Location}
use Rattle.laws.proofs.WholeLines.{Free, AllFree, Holds}
use Rattle.laws.proofs.FileLines.{line_of_free, located_holds, line-alone, found-alone}
use Rattle.spec.specs.Lists.{holds}
use Rattle.laws.proofs.AcceptedWalk.{sizes, walk_way, some-line, stands}
use Rattle.spec.specs.Fields.{names_of, fields_of, with_colons, size, line_size, no_link, judge, verdict}
use Rattle.laws.proofs.FieldTexts.{
  names_free,
  names_stop,
  fields_free,
  fields_stop,
  kept-ignored,
  kept-name,
  holds-colon,
  closed-names,
  closed-fields,
  closed-size,
  closed-line,
}
use Rattle.spec.specs.Chain.{
  Chain,
  broken,
  chain,
  visited,
  entered,
  follow,
  walk,
  Field,
  placed,
  texts,
  joined_fields,
  terminal,
  first_names,
  described,
  resolve,
}

-- ---- lists of texts

pub free_append : (c : ℕ) (a b : List (List ℕ)) → AllFree c a → AllFree c b → AllFree c (a ++ b)
free_append c [] b h k = k
free_append c (x ∷ a) b h k = (h.0, free_append c a b h.1 k)

pub size-append : (a b : List (List ℕ)) → size (a ++ b) ≡ size a + size b
unfolding size
size-append [] b = omega arith
size-append (x ∷ a) b = omega (arith, size-append a b)

pub texts-append : (a b : List Field) → texts (a ++ b) ≡ texts a ++ texts b
unfolding texts
texts-append [] b = refl
texts-append (f ∷ a) b = ap (λ (ts : List (List ℕ)). f.text ∷ ts) (texts-append a b)

pub texts-placed : (k n : ℕ) (ts : List (List ℕ)) → texts (placed k n ts) ≡ ts
unfolding texts placed
texts-placed k n [] = refl
texts-placed k n (t ∷ ts) = ap (λ (us : List (List ℕ)). t ∷ us) (texts-placed k n ts)

-- ---- the joined fields of lines

module _ (db : List (List ℕ)) where
  pub joined_free : (k : ℕ) (ps : List Location) → AllFree 10 (texts (joined_fields db k ps))
  unfolding joined_fields texts
  joined_free k [] = tt
  joined_free k (p ∷ ps) =
      rw (texts-append, texts-placed) (free_append 10 (fields_of (line_of db p)) (texts (joined_fields db (k + 1) ps))
      (fields_free 10 (line_of db p) (line_of_free db p)) (joined_free (k + 1) ps))

  pub joined_stop : (k : ℕ) (ps : List Location) → AllFree 58 (texts (joined_fields db k ps))
  unfolding joined_fields texts
  joined_stop k [] = tt
  joined_stop k (p ∷ ps) = rw (texts-append, texts-placed)
      (free_append 58 (fields_of (line_of db p)) (texts (joined_fields db (k + 1) ps)) (fields_stop (line_of db p)) (joined_stop (k + 1) ps))

  pub joined_size : (k : ℕ) (ps : List Location) → size (texts (joined_fields db k ps)) ≤ sizes db ps
  unfolding joined_fields texts sizes line_size size
  joined_size k [] = omega arith
  joined_size k (p ∷ ps) = rw (texts-append, texts-placed, size-append) (omega (arith, joined_size (k + 1) ps))

  pub first_size : (k : ℕ) (p : Location) (ps : List Location)
      → length (names_of (line_of db p)) + 1 + size (texts (joined_fields db k (p ∷ ps))) ≤ sizes db (p ∷ ps)
  unfolding joined_fields sizes line_size
  first_size k p ps = rw (texts-append, texts-placed, size-append) (omega (arith, joined_size (k + 1) ps))

-- ---- an accepted terminal

-- The names are those of a line that holds the asked name; names and texts have no newline and no colon; all of it is not too big.
pub record Sound (name names : List ℕ) (ts : List (List ℕ)) : Type 0 where
  pub line : List ℕ
  pub colon : holds 58 line ≡ true
  pub names_are : names_of line ≡ names
  pub held : Holds name line
  pub names_free : Free 10 names
  pub names_stop : Free 58 names
  pub free : AllFree 10 ts
  pub stop : AllFree 58 ts
  pub fits : length names + 1 + size ts ≤ 16384

pub resolved_sound : (db : List (List ℕ)) (name names : List ℕ) (fs : List Field) → resolve db name ≡ terminal names fs → Sound name names (texts fs)
unfolding resolve described first_names sizes
resolved_sound db name names fs e = go (walk db name) refl e
  where
    go : (c : Chain) → walk db name ≡ c → described db c ≡ terminal names fs → Sound name names (texts fs)
    go (broken r) w h = let z : ◌≡◌ {A = ℕ} 0 1 = cc in absurd (omega arith)
    go (chain []) w h = absurd (some-line db (walk_way db name [] w) refl)
    go (chain (p ∷ ps)) w h =
        let k = stands db p ps (walk_way db name (p ∷ ps) w) refl in
        let en : names ≡ names_of (line_of db p) = cc in
        let ef : fs ≡ joined_fields db 0 (p ∷ ps) = cc in
        rw (en, ef) (record {
          line = line_of db p;
          colon = k.colon;
          names_are = refl;
          held = located_holds db name 0 p k.at;
          names_free = names_free 10 (line_of db p) (line_of_free db p);
          names_stop = names_stop (line_of db p);
          free = joined_free db 0 (p ∷ ps);
          stop = joined_stop db 0 (p ∷ ps);
          fits = omega (arith, first_size db 0 p ps, k.fits);
        })

-- ---- a database of one line

-- The texts, each with a colon, then a newline, are a database whose first line they are.
pub alone-line : (names : List ℕ) (ts : List (List ℕ)) → Free 10 names → AllFree 10 ts → line_at (with_colons (names ∷ ts) ++ 10 ∷ []) 0 ≡ with_colons
    (names ∷ ts)
unfolding line_at text_at
alone-line names ts h k = closed-line names ts 0 h k

closed-colon : (names : List ℕ) (ts : List (List ℕ)) → holds 58 (with_colons (names ∷ ts)) ≡ true
unfolding with_colons
closed-colon names ts = holds-colon (with_colons ts) names

-- The first line of a single file.
abbrev pub first_line : Location
first_line = record { file = 0; at = 0 }

walk-alone : (db name : List ℕ) → Holds name (line_at db 0) → verdict (line_at db 0) ≡ no_link → line_size (line_at db 0) ≤ 16384
    → walk (db ∷ []) name ≡ chain (first_line ∷ [])
unfolding walk follow visited entered
walk-alone db name h v s = rw (found-alone db name h, line-alone db 0, v, le-ltb 16384 (0 + line_size (line_at db 0)) (omega arith))

module _ (name names : List ℕ) (ts : List (List ℕ)) (k : Sound name names ts) where
  sound-held : Holds name (with_colons (names ∷ ts))
  unfolding with_colons
  sound-held =
      rw (← k.names_are)
      (kept-ignored k.line (with_colons ts) k.colon k.held.0, kept-name k.line (with_colons ts) name ∙ k.held.1)

  sound-verdict : judge ts ≡ no_link → verdict (with_colons (names ∷ ts)) ≡ no_link
  unfolding verdict
  sound-verdict j = rw (closed-fields names ts k.names_stop k.stop, closed-colon names ts) j

  -- If its fields end the chain, the database that has that line alone is that line's terminal, with all places 0.
  pub resolve-alone : judge ts ≡ no_link → resolve ((with_colons (names ∷ ts) ++ 10 ∷ []) ∷ []) name ≡ terminal names (placed 0 0 ts)
  unfolding resolve described first_names joined_fields
  resolve-alone j =
      let l = alone-line names ts k.names_free k.free in
      let w = walk-alone (with_colons (names ∷ ts) ++ 10 ∷ []) name (rw l sound-held) (rw l (sound-verdict j))
      (rw (l, closed-size names ts k.names_stop k.stop) k.fits) in
      rw (w, line-alone, l, closed-names names ts k.names_stop k.stop, closed-fields names ts k.names_stop k.stop, append-nil)
