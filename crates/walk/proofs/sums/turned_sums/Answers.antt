-- `walk::sums::turned_sums` meets its contract. The loop's invariant: the rows before row i are added to the sums, and `first` is the line of
-- the next row's first cell.
use mathlib.Core.Path.{◌≡◌}
use Prim.Native.Nat.{◌-◌}
use native.Mathlib.Omega.{arith}
use Rattle.walk.specs.Walk.{rows_none, rows_more, rows_all}
use Rattle.walk.proofs.sums.turned_sums.Goals as goal

pub loop-i-init : goal.loop-i-init
loop-i-init c =
    rows_none _ _ _ (omega arith)

pub loop-i-preserved : goal.loop-i-preserved
loop-i-preserved c =
    rows_more c.add_row.ensures c.step-first.ensures c.loop-i.invariant

pub returns : goal.returns
returns c =
    let e : c.loop-i.i ≡ c.args.p - 1 = omega arith in
    rows_all (rw e at c.loop-i.invariant)
