-- The room keeps its length, and as many bytes as it still has are left to be read.
use Rattle.std.specs.Prelude.{◌≡◌, ◌≤◌}
use Rattle.std.proofs.Common.{length, ◌-◌}
use Rattle.files.proofs.input.Source.fill.Given as goal

abbrev pub invariant-loop-count : goal.invariant-loop-count
invariant-loop-count l = (length l.room ≡ length l.initial.room) × (l.count ≤ length l.room)

abbrev pub decreases-loop-count : goal.decreases-loop-count
decreases-loop-count l = length l.room - l.count
