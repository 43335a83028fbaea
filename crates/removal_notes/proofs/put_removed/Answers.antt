-- `removal_notes::put_removed` meets its contract.
use mathlib.Core.Path.{refl}
use native.Mathlib.Omega.{arith}
use Rattle.spec.specs.Lines.{text_at}
use Rattle.removal_notes.proofs.Storing.{put_then, shown_long, shown-short}
use Rattle.removal_notes.proofs.put_removed.Goals as goal

pub returns-then-count-gt-MOST_SHOWN : goal.returns-then-count-gt-MOST_SHOWN
returns-then-count-gt-MOST_SHOWN c =
    let a = c.args in
    let j = c.put_joined-end in
    let e = shown_long a.count (text_at a.db.now a.from) c.if-count-gt-MOST_SHOWN.true in
    rw e (put_then j.ensures.0 (record { place = refl; stored = c.put_bytes.ensures }), omega (arith, j.ensures.1))

pub returns : goal.returns
returns c =
    let a = c.args in
    let j = c.put_joined in
    let e = shown-short a.count (text_at a.db.now a.from) c.if-count-gt-MOST_SHOWN.false in
    rw e (j.ensures.0, omega (arith, j.ensures.1))
