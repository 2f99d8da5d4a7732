-- `walk::sums::add_bytes` meets its contract. The loop's invariant: the first k bytes are added.
use native.Mathlib.Omega.{arith}
use Rattle.walk.specs.Walk.{bytes_none, bytes_more}
use Rattle.walk.proofs.sums.add_bytes.Goals as goal

pub loop-k-init : goal.loop-k-init
loop-k-init c =
    bytes_none

pub loop-k-preserved : goal.loop-k-preserved
loop-k-preserved c =
    bytes_more (omega arith) c.loop-k.invariant
