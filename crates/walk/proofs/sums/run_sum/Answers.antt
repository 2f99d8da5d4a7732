-- `walk::sums::run_sum` meets its contract. The loop's invariant: the first k bytes are summed.
use mathlib.Core.Path.{sym}
use Rattle.xor.specs.Sum.{none}
use Rattle.walk.specs.Line.{run_more}
use Rattle.walk.proofs.sums.run_sum.Goals as goal

pub loop-k-init : goal.loop-k-init
loop-k-init c =
    sym (none _)

pub loop-k-preserved : goal.loop-k-preserved
loop-k-preserved c =
    let a = c.args in rw c.loop-k.invariant (run_more a.tile.now a.start a.step c.loop-k.k)
