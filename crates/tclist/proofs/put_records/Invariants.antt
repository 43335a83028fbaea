-- The text of the bytes that are left, stored where the text ends so far, makes the whole text.
use Prim.Native.Nat.{◌+◌, ◌*◌, ◌≤◌}
use mathlib.Core.Path.{◌≡◌}
use lib.ListN.{length, drop}
use lib.Seq.{sets}
use Rattle.tclist.specs.Output.{decimals}
use Rattle.tclist.proofs.put_records.Given as goal

abbrev pub invariant-loop-k : goal.invariant-loop-k
invariant-loop-k l = record {
  stored : sets l.out l.n (decimals l.k (drop l.k l.records)) ≡ sets l.initial.out 0 (decimals 0 l.records);
  counted : l.n + length (decimals l.k (drop l.k l.records)) ≡ length (decimals 0 l.records);
  bounded : l.n ≤ 4 * l.k;
}
