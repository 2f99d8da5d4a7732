-- `sheet::make` meets its contract. The loop's invariant: the records passed are made.
use Rattle.sheet.specs.Make.{Made}
use Rattle.sheet.proofs.make.Given as goal

abbrev pub invariant-loop-k : goal.invariant-loop-k
invariant-loop-k l = Made l.p l.l l.sheet l.initial.tile l.k l.tile l.a l.b
