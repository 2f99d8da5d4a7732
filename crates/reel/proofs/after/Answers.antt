-- `reel::after` meets its contract: a tile lies within the reel.
use Rattle.std.proofs.Common.{arith}
use Rattle.reel.specs.Told.{tile_taken, tile_within}
use Rattle.reel.proofs.after.Goals as goal

pub behind-requires : goal.behind-requires
behind-requires c =
    let within = tile_within c.in-Tile.ensures in
    record { size = (tile_taken c.in-Tile.ensures).0; bound = omega (arith, within, c.well_formed.0.0) }
