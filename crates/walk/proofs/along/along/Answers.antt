-- `walk::along::along` meets its contract. The loop's invariant: t is k steps of `weight` after the start, and the sums at the places passed
-- are stored.
use mathlib.Core.Path.{ap}
use Prim.Native.Nat.{◌+◌, ◌*◌, ◌%◌}
use native.Mathlib.Omega.{arith}
use Rattle.code.specs.Held.{held}
use Rattle.walk.specs.Fill.{one_more, carried}
use Rattle.walk.proofs.along.along.Goals as goal

pub loop-k-preserved : goal.loop-k-preserved
loop-k-preserved c =
    let a = c.args in
    let loop = c.loop-k in (
      c.step-t.ensures.lt,
      carried a.p a.start a.weight loop.k loop.t _ loop.invariant.1 c.step-t.ensures,
      one_more loop.out loop.k _ (λ j. held a.sums.now ((a.start + a.weight * j) % a.p)) (omega arith)
          (ap (held a.sums.now) loop.invariant.1) loop.invariant.2,
    )
