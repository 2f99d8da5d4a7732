-- `window::seek` meets its contract: each tile that it passes shortens what is left.
use Rattle.std.proofs.Common.{◌-◌, length}
use Rattle.window.specs.Going.{Seeking}
use Rattle.window.proofs.seek.Given as goal

abbrev pub invariant-loop-tile : goal.invariant-loop-tile
invariant-loop-tile l = Seeking l.window l.last l.wanted l.from l.tiles l.place l.passed

abbrev pub decreases-loop-tile : goal.decreases-loop-tile
decreases-loop-tile l = length l.window - l.place
