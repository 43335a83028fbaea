-- `finder::copy_line` meets its contract.
use mathlib.Core.Path.{refl, ◌∙◌}
use Prim.Native.Nat.{◌≤◌, ◌<◌}
use native.Mathlib.Omega.{arith}
use borrow.Author.Tests.{le-leb, lt-leb}
use lib.ListN.{length, take}
use lib.Seq.{length-take-le}
use Rattle.laws.proofs.Buffers.{put-fits, put_full}
use Rattle.laws.proofs.Stores.{stored_front}
use Rattle.finder.proofs.copy_line.Goals as goal
use Rattle.finder.proofs.copy_line.Goals.{then-n-text-via-then-n-text, then-n-text-via-else-n-text+then-n-out}

pub returns-then-n-text : goal.returns-then-n-text
returns-then-n-text c =
    let a = c.args in
    let line = take a.n a.text.now in
    elim c.then-n-text.branch [
      | then-n-text-via-then-n-text w ↦ rw (lt-leb _ _ w.if-n-text.true) (refl, refl)
      | then-n-text-via-else-n-text+then-n-out w ↦
          let i = length-take-le a.n a.text.now w.if-n-text.false in
          let j : length a.out.now < length line = omega (arith, i, w.if-n-out.true) in
          rw (le-leb _ _ w.if-n-text.false, put_full line a.n a.out.now j) (refl, refl)
    ]

pub returns : goal.returns
returns c =
    let a = c.args in
    let line = take a.n a.text.now in
    let i = length-take-le a.n a.text.now c.if-n-text.false in
    let j : length line ≤ length a.out.now = omega (arith, i, c.if-n-out.false) in
    rw (le-leb _ _ c.if-n-text.false, put-fits line a.n a.out.now j)
    (refl, c.put_bytes.ensures ∙ stored_front a.out.now line j)
