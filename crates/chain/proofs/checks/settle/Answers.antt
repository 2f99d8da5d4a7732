-- `chain::checks::settle` meets its contract.
use native.Mathlib.Omega.{arith}
use Rattle.code.specs.Held.{held}
use Rattle.chain.specs.Cases.{columns_close}
use Rattle.chain.specs.Settled.{both_added}
use Rattle.chain.proofs.checks.settle.Goals as goal

pub solve-requires-clause-closes : goal.solve-requires-clause-closes
solve-requires-clause-closes c =
    let lattice = c.args.lattice in
    columns_close lattice.p lattice.l (held c.args.a.now) (held c.args.b.now) lattice.slope _ _
    (omega (arith, lattice.slope.high)) (omega (arith, lattice.slope.high)) (omega (arith, lattice.slope.low, lattice.slope.high)) c.requires.a_value

pub returns : goal.returns
returns c =
    let lattice = c.args.lattice in
    both_added lattice.p lattice.l _ _ (held c.args.a.now) (held c.args.b.now)
    (held c.solve.new.x) (held c.solve.new.y) c.args.tile.now _ _
    (omega (arith, lattice.slope.high)) (omega (arith, lattice.slope.high)) c.solve.ensures
    c.add_line.ensures.added c.add_line-2.ensures.added c.add_line.ensures.tile_len_unchanged c.add_line-2.ensures.tile_len_unchanged
