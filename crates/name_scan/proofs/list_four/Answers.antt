-- `name_scan::list_four` meets its contract: each of the four is listed, or has no start.
use Rattle.std.proofs.Common.{◌≡◌, ◌+◌, arith}
use Rattle.name_scan.proofs.Blocks.{noted}
use Rattle.name_places.proofs.Places.{each_in}
use Rattle.name_scan.proofs.list_four.Goals as goal

pub returns : goal.returns
returns c =
    let x = c.requires.starts_listed in
    let few = x.few in
    let one = noted _ x (omega arith) (λ e. each_in (c.any_start-a.ensures e) (omega arith) (omega arith))
    c.note-one.ensures.value c.note-one.ensures.list_after (omega arith) in
    let few = one.few in
    let two = noted _ one (omega arith) (λ e. each_in (c.any_start-b.ensures e) (omega arith) (omega arith))
    c.note-two.ensures.value c.note-two.ensures.list_after (omega arith) in
    let few = two.few in
    let three = noted _ two (omega arith) (λ e. each_in (c.any_start-c.ensures e) (omega arith) (omega arith))
    c.note-three.ensures.value c.note-three.ensures.list_after (omega arith) in
    let few = three.few in
    let four = noted _ three (omega arith) (λ e. each_in (c.any_start-d.ensures e) (omega arith) (omega arith))
    c.note.ensures.value c.note.ensures.list_after (omega arith) in
    let all : c.args.k + 1 + 1 + 1 + 1 ≡ c.args.k + 4 = omega arith in
    rw all at four
