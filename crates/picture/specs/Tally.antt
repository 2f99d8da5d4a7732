-- WHAT A READER MUST BELIEVE: how the tiles of a reel are counted by what comes of restoring them (SPEC 12.7). Assumes nothing.
use Rattle.std.specs.Prelude.{cond, ℕ, ◌+◌, ◌<◌, eqb}
use Rattle.promise.specs.Answer.{Said, done, clean, cell, column, row, refused}
use Rattle.picture.specs.declared.tally.Tally.{Tally}

-- SPEC 12.7: before the first tile
abbrev pub no_tiles : Tally
no_tiles = record { tiles = 0; clean = 0; cells = 0; columns = 0; rows = 0; filled = 0; refused = 0; doubtful = 0 }

-- SPEC 12.7: with one more tile. What is refused by 8 is doubtful
unfoldable pub counted : Tally → Said → Tally
counted t done = record { tiles = t.tiles + 1; clean = t.clean; cells = t.cells; columns = t.columns; rows = t.rows; filled = t.filled + 1; refused = t.refused; doubtful = t.doubtful }
counted t clean = record { tiles = t.tiles + 1; clean = t.clean + 1; cells = t.cells; columns = t.columns; rows = t.rows; filled = t.filled; refused = t.refused; doubtful = t.doubtful }
counted t (cell r c) = record { tiles = t.tiles + 1; clean = t.clean; cells = t.cells + 1; columns = t.columns; rows = t.rows; filled = t.filled; refused = t.refused; doubtful = t.doubtful }
counted t (column c) = record { tiles = t.tiles + 1; clean = t.clean; cells = t.cells; columns = t.columns + 1; rows = t.rows; filled = t.filled; refused = t.refused; doubtful = t.doubtful }
counted t (row r) = record { tiles = t.tiles + 1; clean = t.clean; cells = t.cells; columns = t.columns; rows = t.rows + 1; filled = t.filled; refused = t.refused; doubtful = t.doubtful }
counted t (refused n) = record {
  tiles = t.tiles + 1;
  clean = t.clean;
  cells = t.cells;
  columns = t.columns;
  rows = t.rows;
  filled = t.filled;
  refused = t.refused + cond (eqb n 8) 0 1;
  doubtful = t.doubtful + cond (eqb n 8) 1 0;
}

-- the most squares of a drawing, and so of tiles: with 24 squares to a row, and 32 units to each row, its height is a number of 64 bits
abbrev pub most_squares : ℕ
most_squares = 10000000000000000000

-- each count is below a number
pub record Below (most : ℕ) (t : Tally) : Type 0 where
  pub tiles : t.tiles < most
  pub clean : t.clean < most
  pub cells : t.cells < most
  pub columns : t.columns < most
  pub rows : t.rows < most
  pub filled : t.filled < most
  pub refused : t.refused < most
  pub doubtful : t.doubtful < most
