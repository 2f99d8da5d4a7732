-- `cells::change::add_run` meets its contract. The loop's invariant: the first k bytes are added.
use native.Mathlib.Omega.{arith}
use Rattle.cells.specs.Change.{run_in, run_none, run_more}
use Rattle.cells.proofs.change.add_run.Goals as goal

pub loop-k-init : goal.loop-k-init
loop-k-init c =
    run_none _ _ _ _

pub loop-k-preserved : goal.loop-k-preserved
loop-k-preserved c =
    run_more (omega (arith, run_in _ _ _ c.loop-k.k _ (omega arith) c.requires.4)) c.loop-k.invariant
