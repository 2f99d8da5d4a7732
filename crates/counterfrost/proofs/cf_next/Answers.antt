-- `counterfrost::cf_next` meets its contract: a tile's flags have numbers of two bytes.
use Rattle.reel.specs.Told.{tile_flags}
use Rattle.counterfrost.proofs.cf_next.Goals as goal

pub number-requires : goal.number-requires
number-requires c =
    (tile_flags c.in-Tile.ensures).0

pub number-requires-in-Tile : goal.number-requires-in-Tile
number-requires-in-Tile c =
    (tile_flags c.in-Tile.ensures).1
