-- `classes::order` meets its contract. The loop's invariant: `power` is the n-th power of l, and none from the first to the one before
-- it is 1. It ends, as one of the first p - 1 is.
use mathlib.Core.Path.{◌≡◌}
use Prim.Native.Nat.{ℕ, ◌%◌, ◌^◌, ◌≤◌, ◌<◌, ◌-◌}
use Rattle.classes.proofs.order.Given as goal

abbrev pub invariant-loop-power : goal.invariant-loop-power
invariant-loop-power l = (1 ≤ l.n) × (l.n < l.p) × (l.power ≡ (l.l ^ l.n) % l.p) × ((k : ℕ) → k < l.n → 0 < k → (l.l ^ k) % l.p ≡ 1 → ⊥)

abbrev pub decreases-loop-power : goal.decreases-loop-power
decreases-loop-power l = l.p - l.n
