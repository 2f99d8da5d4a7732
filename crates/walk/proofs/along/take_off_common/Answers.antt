-- `walk::along::take_off_common` meets its contract. The loop's invariant: the common byte is taken off at the places passed, and the
-- others are as they were.
use mathlib.Core.Path.{◌≡◌, ap, ◌∙◌}
use Prim.Native.Nat.{ℕ, ◌-◌}
use native.Mathlib.Omega.{arith}
use lib.ListN.{length, take, length-take}
use lib.Seq.{get_or-set_other}
use Rattle.std.proofs.lemmas.List.{get_or_append_left, get_or-take}
use Rattle.xor.specs.Xor.{◌⊕◌, ⊕_is}
use Rattle.code.specs.Held.{held}
use Rattle.walk.specs.Fill.{one_more}
use Rattle.walk.proofs.along.take_off_common.Goals as goal

pub loop-sum-preserved : goal.loop-sum-preserved
loop-sum-preserved c =
    let a = c.args in
    let loop = c.loop-sum in
    let common = held a.sums.now (a.p - 1) in record {
      taken_off = one_more loop.sum-items loop.sum-index _ (λ k. held (take a.p a.sums.now) k ⊕ common) (omega arith)
          (⊕_is _ _ ∙ ap (λ (x : ℕ). x ⊕ common) (loop.invariant.rest loop.sum-index (omega arith))) loop.invariant.taken_off;
      rest = λ k h. get_or-set_other loop.sum-items loop.sum-index k _ 0 (omega arith) ∙ loop.invariant.rest k (omega arith);
    }

pub returns : goal.returns
returns c =
    let a = c.args in
    let items = c.loop-sum.sum-items in
    let long : length items ≡ a.p = omega (arith, length-take a.p a.sums.now) in
    λ k h.
    get_or_append_left items _ 0 k (omega arith)
    ∙ c.loop-sum.invariant.taken_off k (omega arith) ∙ ap (λ (x : ℕ). x ⊕ held a.sums.now (a.p - 1)) (get_or-take a.p a.sums.now k 0 h)
