-- WHAT A READER MUST BELIEVE: which lines the listing of a reel has (SPEC 8.1). Assumes nothing.
use Rattle.std.specs.Prelude.{List, ℕ, length, take, drop}
use Rattle.code.specs.Tile.{tile_length}
use Rattle.promise.specs.Answer as restore
use Rattle.restorer.specs.Restore.{RestoreTold}
use Rattle.reel.specs.Answer.{tile, end, refused}
use Rattle.reel.specs.Calls.{NextTold}
use Rattle.reel.specs.Walk.{WalkByPlace}
use Rattle.reel.specs.declared.Tile.{Tile}
use Rattle.lettering.specs.Line.{tile_line, end_line, stopped_line}

-- SPEC 8.1 and 7.6: what comes of restoring these very bytes, as those of the tile; what they would become is not listed
pub record RestoreSays (t : Tile) (bytes : List ℕ) (said : restore.Said) : Type 0 where
  pub new : List ℕ
  pub told : RestoreTold t.kind t.p t.l bytes t.first t.second said new

-- SPEC 8.1: the line of the tile at a place
pub data TileListed (reel : List ℕ) (at : ℕ) : List ℕ → Type 0 where
  lists : {t : Tile} {said : restore.Said} → NextTold reel at (tile t) → RestoreSays t (take (tile_length t.p) (drop t.at reel)) said
      → TileListed reel at (tile_line t.number t.p t.l said)

-- SPEC 8.1: the line that closes the listing, by what ended the walk along the reel from its first byte on: the end, or a refusal
pub data Closes (reel : List ℕ) : List ℕ → Type 0 where
  ends : {tiles : List Tile} → WalkByPlace reel 0 tiles end → Closes reel (end_line (length tiles))
  stops : {tiles : List Tile} {n at : ℕ} → WalkByPlace reel 0 tiles (refused n at) → Closes reel (stopped_line n at)
