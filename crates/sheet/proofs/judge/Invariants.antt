-- `sheet::judge` meets its contract. The loop's invariant: none of the records passed is faulty.
use Rattle.sheet.specs.Sheet.{Whole, SoundBelow}
use Rattle.sheet.proofs.judge.Given as goal

abbrev pub invariant-loop-k : goal.invariant-loop-k
invariant-loop-k l = Whole l.sheet × SoundBelow l.p l.sheet l.k
