-- `cells::text::take` meets its contract. The loop's invariant: the first i rows are copied.
use mathlib.Core.Path.{◌≡◌}
use Prim.Native.Nat.{◌-◌}
use native.Mathlib.Omega.{arith}
use Rattle.cells.specs.Text.{rows_more, rows_taken}
use Rattle.cells.proofs.text.take.Goals as goal

pub loop-i-preserved : goal.loop-i-preserved
loop-i-preserved c =
    rows_more (omega arith) c.loop-i.invariant c.copy.ensures

pub returns : goal.returns
returns c =
    let e : c.loop-i.i ≡ c.args.p - 1 = omega arith in
    rows_taken (omega (arith, c.requires.low)) c.requires.text (rw e at c.loop-i.invariant)
