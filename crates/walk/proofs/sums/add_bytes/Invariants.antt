-- `walk::sums::add_bytes` meets its contract. The loop's invariant: the first k bytes are added.
use Rattle.walk.specs.Walk.{BytesAdded}
use Rattle.walk.proofs.sums.add_bytes.Given as goal

abbrev pub invariant-loop-k : goal.invariant-loop-k
invariant-loop-k l = BytesAdded l.bytes l.k l.first l.initial.sums l.sums
