-- `compensations::append_times` meets its contract. The invariant: the bytes are appended as often as was counted.
use Rattle.compensations.proofs.Appending.{Repeated}
use Rattle.compensations.proofs.append_times.Given as goal

abbrev pub invariant-loop : goal.invariant-loop
invariant-loop l = Repeated l.bytes l.capacity l.initial.out l.at l.count l.out l.end l.counter
