-- `classes::Crossing::class_sum` meets its contract. The loop's invariant: q is the offset that comes next, and the sum is that of the offsets before it.
use mathlib.Core.Path.{sym, ap, ◌∙◌}
use Prim.Native.Nat.{ℕ, ◌*◌, ◌%◌}
use native.Mathlib.Nat.{mod-lt}
use native.Mathlib.Omega.{arith}
use Rattle.residue.specs.Power.{spun_first, spun_next}
use Rattle.code.specs.Classes.{class_none}
use Rattle.code.specs.Held.{held}
use Rattle.classes.specs.Step.{class_step}
use Rattle.classes.proofs.Crossing.class_sum.Goals as goal

pub loop-init : goal.loop-init
loop-init c =
    record { lt = omega arith; is = sym (spun_first _ _ _ (omega arith)); summed = sym (class_none _ _ _ _ _ _ _) }

pub loop-preserved : goal.loop-preserved
loop-preserved c =
    let s = c.args.self.now in
    let loop = c.loop in record {
      lt = mod-lt _ (omega arith);
      is = ap (λ (x : ℕ). s.lattice.l * x % s.lattice.p) loop.invariant.is ∙ sym (spun_next s.lattice.p s.lattice.l c.args.o loop.counter);
      summed = class_step s.lattice.p s.lattice.l loop.counter (held s.a.now) (held s.b.now) s.row s.column c.args.o loop.q loop.sum loop.invariant.is loop.invariant.summed;
    }
