-- `chain::filling::columns` meets its contract.
use mathlib.Core.Path.{sym}
use mathlib.Core.Logic.{inl}
use native.Mathlib.Omega.{arith}
use Rattle.chain.specs.Solve.{one}
use Rattle.chain.specs.Cases.{columns_close}
use Rattle.chain.proofs.filling.columns.Goals as goal

pub solve-requires-clause-closes : goal.solve-requires-clause-closes
solve-requires-clause-closes c =
    let sums = c.args.sums.now in
    columns_close sums.lattice.p sums.lattice.l _ _ sums.lattice.slope c.args.u c.args.v (omega arith) (omega arith) c.if-u-v.false sums.one_total

pub returns-then-u-v : goal.returns-then-u-v
returns-then-u-v c =
    rw (sym c.if-u-v.true) c.one_column.ensures

pub returns-else-u-v : goal.returns-else-u-v
returns-else-u-v c =
    one (inl tt) c.solve.ensures
