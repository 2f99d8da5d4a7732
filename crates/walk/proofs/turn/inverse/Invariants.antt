-- `walk::turn::inverse` meets its contract. The loop's invariant: `multiple` is l m modulo p, and no inverse is below m. As there is an inverse, the
-- loop ends.
use mathlib.Core.Path.{◌≡◌}
use Prim.Native.Nat.{◌+◌, ◌*◌, ◌%◌, ◌<◌, ◌-◌}
use Rattle.walk.specs.Inverse.{NoneBelow}
use Rattle.walk.proofs.turn.inverse.Given as goal

abbrev pub invariant-loop-multiple : goal.invariant-loop-multiple
invariant-loop-multiple l = (l.multiple < l.p) × (l.multiple ≡ (0 + l.l * l.m) % l.p) × NoneBelow l.p l.l l.m

abbrev pub decreases-loop-multiple : goal.decreases-loop-multiple
decreases-loop-multiple l = l.p - l.m
