-- `size::allows` meets its contract. The loop's invariant: l is from 2 to p - 2, `power` is its i-th power, and none from the first to the
-- one before it is 1.
use mathlib.Core.Path.{◌≡◌}
use Prim.Native.Nat.{ℕ, ◌+◌, ◌%◌, ◌^◌, ◌≤◌, ◌<◌}
use Rattle.size.proofs.allows.Given as goal

abbrev pub invariant-loop-i : goal.invariant-loop-i
invariant-loop-i l = (2 ≤ l.l) × (l.l + 2 ≤ l.p) × (l.power ≡ (l.l ^ l._i) % l.p) × ((k : ℕ) → k < l._i → 0 < k → (l.l ^ k) % l.p ≡ 1 → ⊥)
