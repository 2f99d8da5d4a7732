-- `cells::change::add_run` meets its contract. The loop's invariant: the first k bytes are added.
use Rattle.code.specs.Held.{held}
use Rattle.cells.specs.Change.{RunAdded}
use Rattle.cells.proofs.change.add_run.Given as goal

abbrev pub invariant-loop-k : goal.invariant-loop-k
invariant-loop-k l = RunAdded l.start l.step l.k (held l.change) l.initial.bytes l.bytes
