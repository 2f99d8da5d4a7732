-- `chain::filling::agree` meets its contract. The loop's invariant: t and u are as many steps from the lines of both slopes through the column's
-- first cell as cells are passed, and the sums agree along these.
use mathlib.Core.Path.{◌≡◌}
use Prim.Native.Nat.{ℕ, ◌+◌, ◌*◌, ◌%◌, ◌<◌}
use Rattle.code.specs.Held.{held}
use Rattle.chain.proofs.filling.agree.Given as goal

abbrev pub invariant-loop : goal.invariant-loop
invariant-loop l = record {
  first_lt : l.t < l.p;
  second_lt : l.u < l.p;
  first : l.t ≡ (l.c + 1 * l.counter) % l.p;
  second : l.u ≡ (l.l * l.c % l.p + 1 * l.counter) % l.p;
  agree : (j : ℕ) → j < l.counter → held l.sums.a.now ((l.c + 1 * j) % l.p) ≡ held l.sums.b.now ((l.l * l.c % l.p + 1 * j) % l.p);
}
