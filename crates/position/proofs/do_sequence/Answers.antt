-- `position::do_sequence` meets its contract: the sequence is read, done, and its output written.
use native.Mathlib.Omega.{arith}
use mathlib.Core.Path.{◌≡◌}
use Rattle.std.specs.Prelude.{Some}
use Rattle.std.proofs.Common.{rules}
use Rattle.position.proofs.SequenceLaws.{sequence_fits, sequence_done}
use Rattle.position.proofs.do_sequence.Goals as goal

pub write_output-requires : goal.write_output-requires
write_output-requires c =
    let a = c.args in
    let p = c.requires in
    let is : c.read_sequence.result ≡ Some (c.in-Some.sequence, c.in-Some.next) = search rules in
    let read = rw is at c.read_sequence.ensures in
    let fits = sequence_fits _ _ _ _ _ _ read _ _ c.in_ok-performed.ensures in
    omega (arith, fits, read.0, read.1, p.0, p.1)

pub returns : goal.returns
returns c =
    let a = c.args in
    let x = c.write_output.ensures in
    let is : c.read_sequence.result ≡ Some (c.in-Some.sequence, c.in-Some.next) = search rules in
    let read = rw is at c.read_sequence.ensures in
    sequence_done _ _ _ _ _ _ read _ _ c.in_ok-performed.ensures a.out.now _ a.at _ x.0 x.1
