-- `chain::filling::rows` meets its contract: rows are columns of the turned tile.
use Rattle.code.specs.Slope.{inverse_slope}
use Rattle.code.specs.Held.{held}
use Rattle.chain.specs.Cases.{held_turned, solved_rows}
use Rattle.chain.proofs.filling.rows.Goals as goal

pub invariant_of-lattice-clause-slope : goal.invariant_of-lattice-clause-slope
invariant_of-lattice-clause-slope c =
    inverse_slope _ _ _ c.args.sums.now.lattice.slope c.inverse.ensures.1 c.inverse.ensures.0

pub invariant_of-sums : goal.invariant_of-sums
invariant_of-sums c =
    let sums = c.args.sums.now in
    record { one_total = held_turned sums.lattice.p sums.lattice.l _ (held sums.b.now) (held c.along.new.out) sums.lattice.slope c.along.ensures sums.one_total }

pub returns : goal.returns
returns c =
    let sums = c.args.sums.now in
    solved_rows sums.lattice.p sums.lattice.l c.inverse.result c.args.r c.args.s (held sums.a.now) (held sums.b.now) (held c.along.new.out)
    (held c.columns.new.x) (held c.columns.new.y) c.inverse.ensures.0 c.along.ensures c.columns.ensures
