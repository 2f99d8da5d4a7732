-- `classes::order` meets its contract. The loop's invariant: `power` is the n-th power of l, and none from the first to the one before
-- it is 1. It ends, as one of the first p - 1 is.
use mathlib.Core.Path.{◌≡◌, sym, ◌∙◌}
use Prim.Native.Nat.{ℕ, ◌+◌, ◌%◌, ◌^◌, ◌≤◌, ◌<◌}
use native.Mathlib.Nat.{mod-lt, mul-le-mul}
use native.Mathlib.Omega.{arith}
use borrow.Author.Count.{below_more}
use Rattle.residue.specs.Power.{first_power, next_power}
use Rattle.residue.specs.Order.{order_more}
use Rattle.code.specs.Slope.{slope_pos}
use Rattle.classes.proofs.order.Goals as goal

pub loop-power-init : goal.loop-power-init
loop-power-init c =
    (omega arith, omega arith, first_power _ _ (omega arith), λ k h i e. omega arith)

pub overflow_mul-power : goal.overflow_mul-power
overflow_mul-power c =
    let a = c.args.lattice in
    let power : c.loop-power.power ≤ 257 = omega (arith, mod-lt (a.l ^ c.loop-power.n) {m = a.p} (omega arith)) in
    let slope : a.l ≤ 257 = omega arith in
    omega (arith, mul-le-mul power slope)

pub loop-power-preserved : goal.loop-power-preserved
loop-power-preserved c =
    let a = c.args.lattice in
    let S = a.slope in
    let inv = c.loop-power.invariant in
    let none : (k : ℕ) → k < c.loop-power.n + 1 → 0 < k → (a.l ^ k) % a.p ≡ 1 → ⊥ = below_more _ _ inv.3 (λ h e. c.loop-power-test.true (inv.2 ∙ e)) in
    (omega arith, order_more a.p a.l S.prime (slope_pos a.p a.l S) _ (λ k h q. none k q h), next_power _ _ _ _ inv.2, none)

pub returns : goal.returns
returns c =
    let inv = c.loop-power.invariant in
    record {
      order = record { some = inv.0; back = sym inv.2 ∙ c.loop-power-test.false; first = λ k h q. inv.3 k q h };
      upper_bound = inv.1;
    }
