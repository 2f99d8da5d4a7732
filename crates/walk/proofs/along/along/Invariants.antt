-- `walk::along::along` meets its contract. The loop's invariant: t is k steps of `weight` after the start, and the sums at the places passed
-- are stored.
use mathlib.Core.Path.{◌≡◌}
use Prim.Native.Nat.{ℕ, ◌+◌, ◌*◌, ◌%◌, ◌<◌}
use Rattle.code.specs.Held.{held}
use Rattle.walk.proofs.along.along.Given as goal

abbrev pub invariant-loop-k : goal.invariant-loop-k
invariant-loop-k l = (l.t < l.p) × (l.t ≡ (l.start + l.weight * l.k) % l.p) × ((j : ℕ) → j < l.k → held l.out j ≡ held l.sums ((l.start + l.weight * j) % l.p))
