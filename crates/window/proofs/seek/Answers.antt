-- `window::seek` meets its contract: each tile that it passes shortens what is left.
use Rattle.std.proofs.Common.{arith, rules}
use Rattle.reel.specs.Told.{tile_taken, tile_within}
use Rattle.reel.specs.Walks.{moves_on}
use Rattle.window.specs.Window.{comes}
use Rattle.window.specs.Going.{seeking_on, looked_tile, other_number, wanted_number}
use Rattle.window.proofs.seek.Goals as goal

pub behind-place-requires : goal.behind-place-requires
behind-place-requires c =
    let told = looked_tile c.in-Ok.ensures in
    record {
      size = (tile_taken told).0;
      bound = omega (arith, tile_within told, c.well_formed.0.0);
    }

pub overflow_add-passed : goal.overflow_add-passed
overflow_add-passed c =
    let told = looked_tile c.in-Ok.ensures in
    record { fits = omega (arith, c.loop-tile.invariant.few, moves_on told, c.well_formed.0.0, c.requires) }

pub loop-tile-smaller : goal.loop-tile-smaller
loop-tile-smaller c =
    let told = looked_tile c.in-Ok.ensures in
    omega (arith, moves_on told, c.behind-place.ensures)

pub loop-tile-preserved : goal.loop-tile-preserved
loop-tile-preserved c =
    rw c.behind-place.ensures (seeking_on c.loop-tile.invariant (looked_tile c.in-Ok.ensures)
    (other_number _ _ (search rules)))

pub returns-in_default : goal.returns-in_default
returns-in_default c =
    c.loop-tile.invariant.so_far _ (comes c.in-Ok.ensures (wanted_number _ _ (search rules)))

pub returns-in_default-2 : goal.returns-in_default-2
returns-in_default-2 c =
    c.loop-tile.invariant.so_far _ (comes c.look-goal.ensures (rw c.in_default.is tt))
