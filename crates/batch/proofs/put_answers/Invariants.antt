-- `batch::put_answers` meets its contract: the answers to the questions that are left, stored, give all of them.
use Prim.Native.Nat.{◌*◌}
use mathlib.Core.Path.{◌≡◌}
use lib.ListN.{length}
use lib.Seq.{sets}
use Rattle.std.specs.Iterator.Adapters.{enumerate_source, enumerate_count}
use Rattle.std.specs.Slice.Iter.{chunks_exact_rest, chunks_exact_size}
use Rattle.spec.specs.Chain.{Terminal}
use Rattle.spec.specs.Batch.{batch_answers}
use Rattle.batch.specs.Answers.{Known}
use Rattle.batch.proofs.put_answers.Given as goal

abbrev pub invariant-loop-i : goal.invariant-loop-i
invariant-loop-i l =
    let left = enumerate_source l.i-iterator in
    (length l.out ≡ length l.initial.out) × (chunks_exact_size left ≡ 4) × ((t : Terminal) → Known t l.walked l.tables
    → sets l.initial.out 0 (batch_answers t l.questions) ≡ sets l.out (8 * enumerate_count l.i-iterator) (batch_answers t (chunks_exact_rest left)))
