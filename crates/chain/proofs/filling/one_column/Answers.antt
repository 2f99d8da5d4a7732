-- `chain::filling::one_column` meets its contract.
use mathlib.Core.Logic.{inl}
use native.Mathlib.Omega.{arith}
use lib.ListN.{replicate}
use Rattle.code.specs.Says.{says_true, says_false}
use Rattle.code.specs.OneLine.{Agree}
use Rattle.code.specs.Held.{held, zeros_held}
use Rattle.code.specs.declared.Line.TheVariants.{Column}
use Rattle.walk.specs.Along.{changed_line}
use Rattle.chain.specs.Solve.{none, one}
use Rattle.chain.specs.Cases.{one_yes, one_no}
use Rattle.chain.proofs.filling.one_column.Goals as goal

pub returns-then-not-agree : goal.returns-then-not-agree
returns-then-not-agree c =
    let sums = c.args.sums.now in
    let column = c.args.c in
    none (one_no sums.lattice.p sums.lattice.l (held sums.a.now) (held sums.b.now) sums.lattice.slope column (omega arith)
    (says_false {A = Agree sums.lattice.p sums.lattice.l (held sums.a.now) (held sums.b.now) (Column column)} c.agree.ensures c.if-not-agree.true))

pub returns : goal.returns
returns c =
    let sums = c.args.sums.now in
    let column = c.args.c in
    one (inl tt) (one_yes sums.lattice.p sums.lattice.l (held sums.a.now) (held sums.b.now) sums.lattice.slope column
    (held c.shifted.new.change) (held (replicate 257 0)) (omega arith)
    (says_true {A = Agree sums.lattice.p sums.lattice.l (held sums.a.now) (held sums.b.now) (Column column)} c.agree.ensures c.if-not-agree.false)
    (changed_line sums.lattice.p (held sums.a.now) (Column column) _ c.shifted.ensures) (zeros_held 257))
