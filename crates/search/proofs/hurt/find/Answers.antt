-- `search::hurt::find` meets its contract.
use native.Mathlib.Omega.{arith}
use Rattle.search.specs.Hurt.{edge_apart, found_nothing, found_more}
use Rattle.search.proofs.hurt.find.Goals as goal

pub explain-requires-clause-begin_nonzero : goal.explain-requires-clause-begin_nonzero
explain-requires-clause-begin_nonzero c =
    let a = c.args in edge_apart a.lattice.p a.tile.now c.turned_sums.ensures c.in-Some.ensures

pub returns-in-Some-first_other : goal.returns-in-Some-first_other
returns-in-Some-first_other c =
    let a = c.args in
    found_more a.lattice.p a.tile.now c.turned_sums.ensures a.lattice.l _ c.inverse-m.ensures.0 c.turned_sums-2.ensures (omega arith) c.in_default.ensures
    c.in-Some-first_other.ensures

pub returns-in-None : goal.returns-in-None
returns-in-None c =
    let a = c.args in
    found_nothing a.lattice.p a.tile.now c.turned_sums.ensures a.lattice.l _ c.inverse-m.ensures.0 c.turned_sums-2.ensures (omega arith) c.in_default.ensures
    c.in-None.ensures
