-- `walk::along::take_off_common` meets its contract. The loop's invariant: the common byte is taken off at the places passed, and the
-- others are as they were.
use mathlib.Core.Path.{◌≡◌}
use Prim.Native.Nat.{ℕ, ◌≤◌, ◌<◌}
use Rattle.xor.specs.Xor.{◌⊕◌}
use Rattle.code.specs.Held.{held}
use Rattle.walk.proofs.along.take_off_common.Given as goal

abbrev pub invariant-loop-sum : goal.invariant-loop-sum
invariant-loop-sum l = record {
  taken_off : (k : ℕ) → k < l.sum-index → held l.sum-items k ≡ held l.initial.sum-items k ⊕ l.common;
  rest : (k : ℕ) → l.sum-index ≤ k → held l.sum-items k ≡ held l.initial.sum-items k;
}
