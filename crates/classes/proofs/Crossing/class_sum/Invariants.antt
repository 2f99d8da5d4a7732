-- `classes::Crossing::class_sum` meets its contract. The loop's invariant: q is the offset that comes next, and the sum is that of the offsets before it.
use mathlib.Core.Path.{◌≡◌}
use Prim.Native.Nat.{◌<◌}
use Rattle.residue.specs.Power.{spun}
use Rattle.code.specs.Classes.{class_sum}
use Rattle.code.specs.Held.{held}
use Rattle.classes.proofs.Crossing.class_sum.Given as goal

abbrev pub invariant-loop : goal.invariant-loop
invariant-loop l = record {
  lt : l.q < l.p;
  is : l.q ≡ spun l.p l.l l.o l.counter;
  summed : l.sum ≡ class_sum l.p l.l l.counter (held l.self.a.now) (held l.self.b.now) l.self.row l.self.column l.o;
}
