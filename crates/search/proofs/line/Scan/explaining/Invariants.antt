-- `search::line::Scan::explaining` meets its contract. The outer loop's invariant: along no line passed do the sums agree, and `place` is where line
-- n begins. The inner loop's: t is k lines after the first, u is the place that belongs to it, and the sums agree at the lines passed. Assumes
-- nothing.
use mathlib.Core.Path.{◌≡◌}
use Prim.Native.Nat.{ℕ, ◌+◌, ◌*◌, ◌%◌, ◌<◌}
use Rattle.code.specs.Tile.{cell, sum}
use Rattle.code.specs.Held.{held}
use Rattle.search.specs.Line.{place_of, Fits, FitsSoFar}
use Rattle.search.proofs.line.Scan.explaining.Given as goal

abbrev pub invariant-loop-k : goal.invariant-loop-k
invariant-loop-k l = record {
  line_lt : l.t < l.p;
  place_lt : l.u < l.p;
  line : l.t ≡ (l.begin + 1 * l.k) % l.p;
  belongs : l.u ≡ place_of l.p l.shift l.weight l.n l.t;
  agree : FitsSoFar l.p l.shift l.weight l.begin (sum l.p 1 (cell l.p l.self.tile.now)) (held l.sums) l.n l.k;
}

abbrev pub invariant-lines : goal.invariant-lines
invariant-lines l = record {
  place_lt : l.place < l.p;
  begins : l.place ≡ place_of l.p l.shift l.weight l.n l.begin;
  passed : (k : ℕ) → k < l.n → Fits l.p l.shift l.weight (sum l.p 1 (cell l.p l.self.tile.now)) (held l.sums) k → ⊥;
}
