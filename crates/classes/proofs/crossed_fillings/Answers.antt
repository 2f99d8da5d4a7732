-- `classes::crossed_fillings` meets its contract: a new tile's slope reaches all, and so does one whose order is p - 1; at any other
-- the classes tell.
use mathlib.Core.Path.{◌≡◌}
use Prim.Native.Nat.{◌-◌}
use native.Mathlib.Omega.{arith}
use Rattle.residue.specs.Order.{order_reaches}
use Rattle.code.specs.Slope.{slope_pos}
use Rattle.code.specs.Held.{held}
use Rattle.code.specs.Says.{says_true, says_false}
use Rattle.classes.specs.Many.{no_crossed, several_crossed}
use Rattle.classes.specs.Many.{missing, classes_some, classes_none}
use Rattle.classes.proofs.crossed_fillings.Goals as goal

pub reaching-requires-then-n-crossing : goal.reaching-requires-then-n-crossing
reaching-requires-then-n-crossing c =
    let S = c.args.crossing.now.lattice.slope in
    let last : c.order-n.result ≡ c.args.crossing.now.lattice.p - 1 = omega arith in
    record {
      reaches_all =
          (order_reaches c.args.crossing.now.lattice.p c.args.crossing.now.lattice.l S.prime (slope_pos _ _ S) _ c.order-n.ensures.order).0 last;
    }

pub returns-then-agree : goal.returns-then-agree
returns-then-agree c =
    let S = c.args.crossing.now.lattice.slope in
    let n = c.order-n.result in
    let O = c.order-n.ensures.order in
    several_crossed (missing c.args.crossing.now.lattice.p c.args.crossing.now.lattice.l n c.args.crossing.now.column c.args.crossing.now.row S O c.if-n-crossing.false)
    (classes_some c.args.crossing.now.lattice.p c.args.crossing.now.lattice.l (held c.args.crossing.now.a.now) (held c.args.crossing.now.b.now) S n c.args.crossing.now.column c.args.crossing.now.row O (omega arith) (omega arith)
    (says_true {b = c.agree.result} c.agree.ensures c.if-agree.true))

pub returns-else-agree : goal.returns-else-agree
returns-else-agree c =
    no_crossed
    (classes_none c.args.crossing.now.lattice.p c.args.crossing.now.lattice.l (held c.args.crossing.now.a.now) (held c.args.crossing.now.b.now) c.args.crossing.now.lattice.slope c.order-n.result c.args.crossing.now.column c.args.crossing.now.row
    c.order-n.ensures.order (omega arith) (omega arith) (says_false {b = c.agree.result} c.agree.ensures c.if-agree.false))
