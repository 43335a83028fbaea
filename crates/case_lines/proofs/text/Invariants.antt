-- What is left of the field stands for what is left to store.
use Prim.Native.Nat.{◌+◌}
use mathlib.Core.Path.{◌≡◌}
use lib.ListN.{length}
use lib.Seq.{sets}
use Rattle.case_lines.specs.Fields.{bytes_of, text_of}
use Rattle.case_lines.proofs.text.Given as goal

abbrev pub invariant-loop-n : goal.invariant-loop-n
invariant-loop-n l = record {
  stored : sets l.out l.n (bytes_of l.rest) ≡ sets l.initial.out 0 (text_of l.line l.k);
  counted : l.n + length (bytes_of l.rest) ≡ length (text_of l.line l.k);
}
