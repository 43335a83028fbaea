-- `name_count::count_files` meets its contract: the names of the files passed are other names, and counted.
use Prim.Native.Nat.{ℕ, ◌+◌, ◌<◌}
use native.Mathlib.Omega.{arith}
use Rattle.spec.specs.Files.{Files, file_at, files, contents}
use mathlib.Core.List.{List, ◌++◌}
use lib.ListN.{length}
use Rattle.spec.specs.Search.{file_names, all_names}
use Rattle.laws.proofs.FileParts.{length-contents}
use Rattle.name_count.proofs.Counting.{Left, names_onward, onward-next, at-start, next_fits, found_here, go_on, none_left, onward-start, onward-end}
use Rattle.name_count.proofs.count_files.Goals as goal

-- the names of the file k, and those onward
module _ (db : Files) (k : ℕ) where
  abbrev here : List (List ℕ)
  here = file_names (file_at (contents db) k)

  abbrev onward : List (List ℕ)
  onward = names_onward (contents db) (k + 1)

  split : (name : List ℕ) (n : ℕ) → k < length db.ends → Left name (all_names (contents db)) 0 (names_onward (contents db) k) n
      → Left name (all_names (contents db)) 0 (here ++ onward) n
  split name n more left =
      let inside : k < length (contents db) = omega (arith, more, length-contents db) in
      rw (onward-next (contents db) k inside) at left

pub loop-k-init : goal.loop-k-init
loop-k-init c =
    let fs = contents (files c.args.db.now c.args.ends.now) in
    rw (← onward-start fs) (at-start _ _ _)

pub count_file-t-requires : goal.count_file-t-requires
count_file-t-requires c =
    let db = files c.args.db.now c.args.ends.now in
    let k = c.loop-k.k in
    let left = split db k c.args.name.now c.loop-k.n (omega (arith, c.loop-k-test.true)) c.loop-k.invariant in
    rw c.file.ensures (next_fits _ _ _ (here db k) (onward db k) _ left c.requires.fits)

pub returns-then-t : goal.returns-then-t
returns-then-t c =
    let db = files c.args.db.now c.args.ends.now in
    let k = c.loop-k.k in
    let left = split db k c.args.name.now c.loop-k.n (omega (arith, c.loop-k-test.true)) c.loop-k.invariant in
    let tally = rw c.file.ensures at c.count_file-t.ensures in
    found_here _ _ _ (here db k) (onward db k) _ left _ tally c.if-t.true

pub loop-k-preserved : goal.loop-k-preserved
loop-k-preserved c =
    let db = files c.args.db.now c.args.ends.now in
    let k = c.loop-k.k in
    let left = split db k c.args.name.now c.loop-k.n (omega (arith, c.loop-k-test.true)) c.loop-k.invariant in
    let tally = rw c.file.ensures at c.count_file-t.ensures in
    go_on _ _ _ (here db k) (onward db k) _ left _ tally c.if-t.false

pub returns : goal.returns
returns c =
    let db = files c.args.db.now c.args.ends.now in
    let none = onward-end (contents db) c.loop-k.k (omega (arith, c.loop-k-test.false, length-contents db)) in
    none_left _ _ _ _ (rw none at c.loop-k.invariant)
