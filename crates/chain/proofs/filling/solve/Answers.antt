-- `chain::filling::solve` meets its contract: the arrays hold the tile's sums, whose totals agree.
use Rattle.code.specs.Tile.{cell, sum}
use Rattle.code.specs.Held.{held}
use Rattle.chain.specs.Cases.{held_totals, solved_sums}
use Rattle.chain.proofs.filling.solve.Goals as goal

pub invariant_of-sums : goal.invariant_of-sums
invariant_of-sums c =
    let lattice = c.args.lattice in
    let both = c.both_sums in
    record { one_total = held_totals lattice.p lattice.l (cell lattice.p c.args.tile.now) both.new.a both.new.b both.ensures.sums both.ensures.sums_2 }

pub returns : goal.returns
returns c =
    let a = c.args in
    let lattice = a.lattice in
    let both = c.both_sums in
    let T = cell lattice.p a.tile.now in
    solved_sums lattice.p lattice.l a.first a.second (held both.new.a) (held both.new.b) (held c.settle.new.x) (held c.settle.new.y)
    (sum lattice.p 1 T) (sum lattice.p lattice.l T) both.ensures.sums both.ensures.sums_2 c.settle.ensures
