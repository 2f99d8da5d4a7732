-- WHAT A READER MUST BELIEVE: what stands at a place of a window (SPEC 12.9), and what a search along it comes to (SPEC 12.3). Assumes
-- nothing.
use Rattle.std.specs.Prelude.{◌≡◌, Result, Ok, Err, Option, Some, Bool, true, false, List, ℕ, ◌+◌, ◌≤◌, ◌<◌, length, get_or}
use Rattle.code.specs.Tile.{tile_length}
use Rattle.size.specs.Refusal.{number_of}
use Rattle.size.specs.declared.Refusal.{Refusal}
use Rattle.reel.specs.Answer.{tile, end, refused}
use Rattle.reel.specs.Calls.{NextTold}
use Rattle.reel.specs.declared.Tile.{Tile}
use Rattle.window.specs.declared.NoTile.{NoTile}
use Rattle.window.specs.declared.NoTile.TheVariants as no_tile
use Rattle.window.specs.declared.Sought.{Sought}

-- SPEC 12.9: a window shows a reel: it begins at an offset of it, and from a place on it holds the reel's bytes (those before the place may
-- have been mended)
pub record Shows (reel : List ℕ) (offset : ℕ) (window : List ℕ) (from : ℕ) : Type 0 where
  pub within : offset + length window ≤ length reel
  pub same : (n : ℕ) → from ≤ n → n < length window → get_or window n 0 ≡ get_or reel (offset + n) 0

-- SPEC 12.9: LOOK. What stands at a place of the last window; in any other, no end and no 7 is settled
pub data LookTold (window : List ℕ) (at : ℕ) : Bool → Result Tile NoTile → Type 0 where
  a_tile : {last : Bool} {t : Tile} → NextTold window at (tile t) → LookTold window at last (Ok t)
  the_end : NextTold window at end → LookTold window at true (Err no_tile.End)
  last_stop : {r : Refusal} {from : ℕ} → NextTold window at (refused (number_of r) from) → LookTold window at true (Err (no_tile.Stopped r from))
  stop : {r : Refusal} {from : ℕ} → NextTold window at (refused (number_of r) from) → (number_of r ≡ 7 → ⊥) → LookTold window at false (Err (no_tile.Stopped r from))
  more_behind : NextTold window at end → LookTold window at false (Err no_tile.More)
  more_of_it : {from : ℕ} → NextTold window at (refused 7 from) → LookTold window at false (Err no_tile.More)

-- SPEC 12.3: a search is over where a tile has the number that is wanted, if one is, and where no tile is looked at
abbrev pub IsOver : Option ℕ → Result Tile NoTile → Type 0
IsOver wanted (Ok t) = wanted ≡ Some t.number
IsOver wanted (Err why) = Unit {0}

-- SPEC 12.3: SEEK. From a place on, behind so many tiles, a search passes each tile that has another number than the
-- wanted one, each tile where none is wanted, and comes to what ends it
pub data Seeks (window : List ℕ) (last : Bool) (wanted : Option ℕ) : ℕ → ℕ → Sought → Type 0 where
  comes : {at n : ℕ} {s : Result Tile NoTile} → LookTold window at last s → IsOver wanted s → Seeks window last wanted at n (record { place = at; tiles = n; goal = s })
  passes : {at n : ℕ} {t : Tile} {r : Sought} → NextTold window at (tile t) → (wanted ≡ Some t.number → ⊥)
      → Seeks window last wanted (t.at + tile_length t.p) (n + 1) r → Seeks window last wanted at n r
