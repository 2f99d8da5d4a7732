-- `chain::pair::solve` meets its contract: the chain closes, and what it fills settles the sums.
use lib.ListN.{replicate}
use Rattle.walk.specs.Along.{along_line}
use Rattle.code.specs.Held.{held, zeros_held}
use Rattle.chain.specs.Solve.{chain_settled}
use Rattle.chain.proofs.pair.solve.Goals as goal

pub returns : goal.returns
returns c =
    let a = c.args in
    let sums = a.sums.now in
    chain_settled sums.lattice.p sums.lattice.l a.column a.line _ _ (held (replicate 257 0)) _ _ _ _
    sums.lattice.slope c.requires.closes c.requires.column_lt c.requires.line_lt (zeros_held 257)
    (along_line sums.lattice.p (held sums.a.now) a.line _
    (rw c.number.ensures at c.along.ensures))
    (rw (c.number-2.ensures, c.through-base.ensures.0, c.weight.ensures, c.hops.ensures)
    at c.to_line.ensures)
    c.take_off_common.ensures
