-- `chain::filling::crossed` meets its contract.
use mathlib.Core.Logic.{inr}
use native.Mathlib.Omega.{arith}
use Rattle.std.proofs.lemmas.Result.{err_from_is_err_and}
use Rattle.chain.specs.Solve.{one}
use Rattle.chain.specs.Cases.{crossed_close, not_one, one_reaches}
use Rattle.chain.proofs.filling.crossed.Goals as goal

pub solve-requires-clause-closes : goal.solve-requires-clause-closes
solve-requires-clause-closes c =
    let one = one_reaches c.in_ok-crossed_fillings.ensures in
    let sums = c.args.sums.now in
    crossed_close sums.lattice.p sums.lattice.l _ _ sums.lattice.slope c.args.t c.args.s one.0 (omega arith) (omega arith) sums.one_total one.1

pub returns : goal.returns
returns c =
    one (inr (one_reaches c.in_ok-crossed_fillings.ensures).0) c.solve.ensures

pub returns-in_err-crossed_fillings : goal.returns-in_err-crossed_fillings
returns-in_err-crossed_fillings c =
    let e = err_from_is_err_and c.from_residual.result c.from_residual.ensures.1 in
    rw (e.1, e.2) (not_one c.in_err-crossed_fillings.ensures)
