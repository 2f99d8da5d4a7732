-- `cells::change::add_line` meets its contract: a tile is rows of bytes.
use Rattle.cells.specs.Change.{tile_added}
use Rattle.cells.proofs.change.add_line.Goals as goal

pub returns : goal.returns
returns c =
    let added = c.add_in_rows.ensures in
    record {
      added = tile_added c.args.p added;
      tile_len_unchanged = added.size;
    }
