-- `listing::print_with` is safe and ends. The loop's invariant: what is left of the reel, and how many tiles stand before it. The measure
-- is the length of what is left.
use mathlib.Core.Path.{◌≡◌}
use Prim.Native.Nat.{◌≤◌}
use lib.ListN.{length}
use Rattle.listing.specs.Reached.{Reached}
use Rattle.listing.proofs.print_with.Given as goal

abbrev pub invariant-loop-tile : goal.invariant-loop-tile
invariant-loop-tile l = (65536 ≤ length l.copy) × (length l.copy ≡ length l.initial.copy) × Reached l.reel l.left l.tiles

abbrev pub decreases-loop-tile : goal.decreases-loop-tile
decreases-loop-tile l = length l.left
