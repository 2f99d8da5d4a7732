-- `judge::outside::mark_row` meets its contract. The loop's invariant: the first k bytes are compared.
use Rattle.judge.specs.Outside.{RowMarked}
use Rattle.judge.proofs.outside.mark_row.Given as goal

abbrev pub invariant-loop-k : goal.invariant-loop-k
invariant-loop-k l = RowMarked l.scan l.restored l.start l.k l.initial.marks l.marks
