-- `walk::sums::run_sum` meets its contract. The loop's invariant: the first k bytes are summed.
use mathlib.Core.Path.{◌≡◌}
use Rattle.xor.specs.Sum.{xor_below}
use Rattle.walk.specs.Line.{run}
use Rattle.walk.proofs.sums.run_sum.Given as goal

abbrev pub invariant-loop-k : goal.invariant-loop-k
invariant-loop-k l = l.sum ≡ xor_below l.k (run l.tile l.start l.step)
