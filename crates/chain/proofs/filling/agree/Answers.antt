-- `chain::filling::agree` meets its contract. The loop's invariant: t and u are as many steps from the lines of both slopes through the column's
-- first cell as cells are passed, and the sums agree along these.
use mathlib.Core.Path.{sym, ap, ◌∙◌}
use Prim.Native.Nat.{◌*◌, ◌%◌, ◌<◌}
use native.Mathlib.Nat.{mod-lt}
use native.Mathlib.Omega.{arith}
use borrow.Author.Count.{below_more}
use Rattle.code.specs.declared.Line.TheVariants.{Column}
use Rattle.code.specs.Held.{held}
use Rattle.walk.specs.Fill.{begins, carried, from_number}
use Rattle.chain.specs.Agree.{from_first}
use Rattle.chain.proofs.filling.agree.Goals as goal

pub loop-init : goal.loop-init
loop-init c =
    let a = c.args in
    let p = a.sums.now.lattice.p in
    let low : a.sums.now.lattice.l * a.c % p < p = mod-lt (a.sums.now.lattice.l * a.c) (omega arith) in
    record { first_lt = omega arith; second_lt = low; first = begins _ _ 1 (omega arith); second = begins _ _ 1 low; agree = λ j h. omega arith }

pub returns-then-sums-t : goal.returns-then-sums-t
returns-then-sums-t c =
    let sums = c.args.sums.now in
    let column = c.args.c in
    let k = c.loop.counter in
    λ g. c.if-sums-t.true
    (ap (held sums.a.now) (c.loop.invariant.first ∙ from_number sums.lattice.p (Column column) k) ∙ g k (omega arith)
    ∙ sym (ap (held sums.b.now) (c.loop.invariant.second ∙ from_first sums.lattice.p sums.lattice.l column k)))

pub loop-preserved : goal.loop-preserved
loop-preserved c =
    let sums = c.args.sums.now in
    let column = c.args.c in
    let loop = c.loop in record {
      first_lt = c.step-t.ensures.lt;
      second_lt = c.step-u.ensures.lt;
      first = carried sums.lattice.p column 1 loop.counter loop.t _ loop.invariant.first c.step-t.ensures;
      second = carried sums.lattice.p (sums.lattice.l * column % sums.lattice.p) 1 loop.counter loop.u _ loop.invariant.second c.step-u.ensures;
      agree = below_more _ _ loop.invariant.agree
          (sym (ap (held sums.a.now) loop.invariant.first) ∙ c.if-sums-t.false ∙ ap (held sums.b.now) loop.invariant.second);
    }

pub returns : goal.returns
returns c =
    λ k h.
    let sums = c.args.sums.now in
    ap (held sums.a.now) (sym (from_number sums.lattice.p (Column c.args.c) k)) ∙ c.loop.invariant.agree k (omega arith)
    ∙ ap (held sums.b.now) (from_first sums.lattice.p sums.lattice.l c.args.c k)
