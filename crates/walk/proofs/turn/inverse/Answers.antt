-- `walk::turn::inverse` meets its contract. The loop's invariant: `multiple` is l m modulo p, and no inverse is below m. As there is an inverse, the
-- loop ends.
use mathlib.Core.Path.{sym, ◌∙◌}
use native.Mathlib.Omega.{arith}
use Rattle.residue.specs.Remainder.{same}
use Rattle.walk.specs.Fill.{carried}
use Rattle.walk.specs.Inverse.{still_below, past}
use Rattle.walk.proofs.turn.inverse.Goals as goal

pub overflow_add-m : goal.overflow_add-m
overflow_add-m c =
    omega (arith, still_below _ _ _ c.requires.prime (omega arith) (omega arith) c.loop-multiple.invariant.2)

pub loop-multiple-smaller : goal.loop-multiple-smaller
loop-multiple-smaller c =
    omega (arith, still_below _ _ _ c.requires.prime (omega arith) (omega arith) c.loop-multiple.invariant.2)

pub loop-multiple-preserved : goal.loop-multiple-preserved
loop-multiple-preserved c =
    let a = c.args in
    let loop = c.loop-multiple in (
      c.step-multiple.ensures.lt,
      carried a.p 0 a.l loop.m loop.multiple _ loop.invariant.1 c.step-multiple.ensures,
      past a.p a.l loop.m (λ e. c.loop-multiple-test.true (loop.invariant.1 ∙ e)) loop.invariant.2,
    )

pub returns : goal.returns
returns c =
    let loop = c.loop-multiple in (
      same c.args.p (omega arith) ∙ sym loop.invariant.1 ∙ c.loop-multiple-test.false,
      still_below _ _ _ c.requires.prime (omega arith) (omega arith) loop.invariant.2,
    )
