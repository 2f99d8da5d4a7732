-- `judge::outside::mark_columns` meets its contract. The loop's invariant: the rows before row i are compared.
use Rattle.judge.specs.Outside.{RowsMarked}
use Rattle.judge.proofs.outside.mark_columns.Given as goal

abbrev pub invariant-loop-i : goal.invariant-loop-i
invariant-loop-i l = RowsMarked l.p l.scan l.restored l.first l.second l.i l.marks
