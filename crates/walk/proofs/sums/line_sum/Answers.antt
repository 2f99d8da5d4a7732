-- `walk::sums::line_sum` meets its contract: the runs are those of the line's cells.
use mathlib.Core.Path.{ap₂, ◌∙◌}
use Prim.Native.Nat.{◌+◌, ◌-◌}
use native.Mathlib.Omega.{arith}
use Rattle.xor.specs.Xor.{◌⊕◌, ⊕_is}
use Rattle.walk.specs.Bound.{product}
use Rattle.walk.specs.Line.{run_within, ahead, sum_lower, sum_both}
use Rattle.walk.proofs.sums.line_sum.Goals as goal

pub run_sum-lower-requires : goal.run_sum-lower-requires
run_sum-lower-requires c =
    let a = c.args in
    let below = c.step-below.result in
    let start = product below (a.p - 1) (omega arith) (omega arith) in (
      omega (arith, product (a.p - 2) (a.p - 1 - below) (omega arith) (omega arith)),
      λ k h. omega (arith, run_within a.p below (a.p - 2) k (omega arith) (omega arith) (omega arith)),
    )

pub returns-then-below-lt2 : goal.returns-then-below-lt2
returns-then-below-lt2 c =
    let a = c.args in
    c.run_sum-lower.ensures
    ∙ sum_lower a.p a.t _ a.tile.now (omega arith) (omega arith) c.step-below.ensures (omega arith)

pub run_sum-requires : goal.run_sum-requires
run_sum-requires c =
    let a = c.args in
    let e = ahead a.p a.t _ (omega arith) c.step-below.ensures (omega arith) in (
      omega (arith, product (a.p - 2) (a.t + 1) (omega arith) (omega arith)),
      λ k h. omega (arith, run_within a.p 0 a.t k (omega arith) (omega arith) (omega arith)),
    )

pub returns : goal.returns
returns c =
    let a = c.args in
    ⊕_is _ _ ∙ ap₂ ◌⊕◌ c.run_sum-lower.ensures c.run_sum.ensures
    ∙ sum_both a.p a.t _ a.tile.now (omega arith) (omega arith) c.step-below.ensures (omega arith)
