-- `chain::filling::settle` meets its contract: a row with a column is a column with a row.
use Rattle.code.specs.Held.{held}
use Rattle.chain.specs.Cases.{solved_either}
use Rattle.chain.proofs.filling.settle.Goals as goal

pub returns-in-Row-Column : goal.returns-in-Row-Column
returns-in-Row-Column c =
    let sums = c.args.sums.now in
    let arm = c.in-Row-Column in
    rw (arm.is-0, arm.is-1)
    (solved_either sums.lattice.p sums.lattice.l _ _ (held sums.a.now) (held sums.b.now) (held c.crossed.new.x) (held c.crossed.new.y) c.crossed.ensures)
