-- `name_scan::list_three` meets its contract: each of the three is listed, or settled.
use Rattle.std.proofs.Common.{◌≡◌, ◌+◌, ◌*◌, arith}
use Rattle.name_scan.proofs.Blocks.{noted}
use Rattle.name_places.proofs.Places.{each_in}
use Rattle.name_scan.proofs.list_three.Goals as goal

pub returns : goal.returns
returns c =
    let x = c.requires.blocks_listed in
    let few = x.few in
    let one = noted _ x (omega arith) (λ e. each_in (c.any_fit_for-a.ensures e) (omega arith) (omega arith))
    c.note-one.ensures.value c.note-one.ensures.list_after (omega arith) in
    let few = one.few in
    let two = noted _ one (omega arith) (λ e. each_in (c.any_fit_for-b.ensures e) (omega arith) (omega arith))
    c.note-two.ensures.value c.note-two.ensures.list_after (omega arith) in
    let few = two.few in
    let three = noted _ two (omega arith) (λ e. each_in (c.any_fit_for-c.ensures e) (omega arith) (omega arith))
    c.note.ensures.value c.note.ensures.list_after (omega arith) in
    let all : c.args.block * 3 + 1 + 1 + 1 ≡ c.args.block * 3 + 3 = omega arith in
    rw all at three
