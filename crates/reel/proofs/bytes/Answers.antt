-- `reel::bytes` meets its contract: a tile lies within the reel.
use Rattle.std.proofs.Common.{arith}
use Rattle.reel.specs.Told.{tile_taken, tile_within}
use Rattle.reel.proofs.bytes.Goals as goal

pub behind-requires : goal.behind-requires
behind-requires c =
    let within = tile_within c.in-Tile.ensures in
    record { size = (tile_taken c.in-Tile.ensures).0; bound = omega (arith, within, c.well_formed.0.0) }

pub slice_bounds-result-end-2 : goal.slice_bounds-result-end-2
slice_bounds-result-end-2 c = omega (arith, tile_within c.in-Tile.ensures, c.behind.ensures)
