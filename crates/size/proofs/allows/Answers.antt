-- `size::allows` meets its contract. The loop's invariant: l is from 2 to p - 2, `power` is its i-th power, and none from the first to the
-- one before it is 1.
use mathlib.Core.Path.{sym, ◌∙◌}
use Prim.Native.Nat.{◌^◌, ◌≤◌}
use native.Mathlib.Nat.{mod-lt, mul-le-mul}
use native.Mathlib.Omega.{arith}
use borrow.Author.Count.{below_more}
use Rattle.residue.specs.Remainder.{below_pos}
use Rattle.residue.specs.Power.{first_power, next_power, no_return_reaches, reaches_no_return}
use Rattle.code.specs.Says.{says_true, says_false}
use Rattle.size.proofs.allows.Goals as goal

pub returns-then-p-gt257 : goal.returns-then-p-gt257
returns-then-p-gt257 c =
    λ s a. omega (arith, s.high)

pub returns-then-not-between : goal.returns-then-not-between
returns-then-not-between c =
    λ s a. says_false {b = c.between.result} c.between.ensures c.if-not-between.true (a.low, a.high)

pub loop-i-init : goal.loop-i-init
loop-i-init c =
    let slope = says_true {b = c.between.result} c.between.ensures c.if-not-between.false in
    (slope.0, slope.1, first_power _ _ (omega arith), λ k h i e. omega arith)

pub returns-then-power-eq1 : goal.returns-then-power-eq1
returns-then-power-eq1 c =
    λ s a.
    let at = c.loop-i in
    reaches_no_return _ _ s.prime a.reach at._i (omega arith) (omega arith) (sym at.invariant.2 ∙ c.if-power-eq1.true)

pub overflow_mul-power : goal.overflow_mul-power
overflow_mul-power c =
    let a = c.args in
    let power : c.loop-i.power ≤ 257 = omega (arith, mod-lt (a.l ^ c.loop-i._i) {m = a.p} (omega arith)) in
    let slope : a.l ≤ 257 = omega arith in
    omega (arith, mul-le-mul power slope)

pub loop-i-preserved : goal.loop-i-preserved
loop-i-preserved c =
    let inv = c.loop-i.invariant in
    (inv.0, inv.1, next_power _ _ _ _ inv.2, below_more _ _ inv.3 (λ h e. c.if-power-eq1.false (inv.2 ∙ e)))

pub returns : goal.returns
returns c =
    λ s. record {
      low = omega arith;
      high = omega arith;
      reach = no_return_reaches _ _ s.prime (below_pos _ _ (omega arith) (omega arith)) (λ k h lt. c.loop-i.invariant.3 k (omega arith) h);
    }
