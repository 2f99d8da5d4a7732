-- WHAT A READER MUST BELIEVE: the listing of a whole reel, its lines one behind the other (SPEC 8.1). Assumes nothing.
use Rattle.std.specs.Prelude.{List, ◌++◌, ℕ, ◌+◌}
use Rattle.reel.specs.Answer.{end, refused}
use Rattle.reel.specs.Calls.{NextTold, AfterTold}
use Rattle.lettering.specs.Line.{end_line, stopped_line}
use Rattle.listing.specs.Listing.{TileListed}

-- SPEC 8.1: from a place on, behind so many tiles: the line of the tile there and those from the place behind it on; or the line that
-- closes the listing. A whole reel is listed from 0 on, behind no tile
pub data Lists (reel : List ℕ) : ℕ → ℕ → List ℕ → Type 0 where
  ends : {at n : ℕ} → NextTold reel at end → Lists reel at n (end_line n)
  stops : {at n no from : ℕ} → NextTold reel at (refused no from) → Lists reel at n (stopped_line no from)
  goes_on : {at to n : ℕ} {line more : List ℕ} → TileListed reel at line → AfterTold reel at to → Lists reel to (n + 1) more → Lists reel at n (line ++ more)
