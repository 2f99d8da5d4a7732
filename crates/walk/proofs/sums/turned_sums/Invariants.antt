-- `walk::sums::turned_sums` meets its contract. The loop's invariant: the rows before row i are added to the sums, and `first` is the line of
-- the next row's first cell.
use Rattle.walk.specs.Walk.{RowsAdded}
use Rattle.walk.proofs.sums.turned_sums.Given as goal

abbrev pub invariant-loop-i : goal.invariant-loop-i
invariant-loop-i l = RowsAdded l.p l.m l.tile l.i l.first l.sums
