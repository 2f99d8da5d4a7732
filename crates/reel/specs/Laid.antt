-- WHAT A READER MUST BELIEVE: records laid end to end, and what it is that a walk lists them as they were laid (SPEC 7.5). Assumes nothing.
use Rattle.std.specs.Prelude.{◌≡◌, List, [], ◌∷◌, ◌++◌, ℕ, ◌+◌, take, drop}
use Rattle.code.specs.Tile.{tile_length}
use Rattle.header.specs.Header.{header_length}
use Rattle.header.specs.Record.{Fit, RecordOf}
use Rattle.header.specs.declared.Header.{Header}
use Rattle.reel.specs.Answer.{tile_of}
use Rattle.reel.specs.declared.Tile.{Tile}

-- SPEC 7.5: a tile that is put on a reel, and behind which header
pub record Printed : Type 0 where
  pub header : Header
  pub tile : List ℕ

-- SPEC 7.5: a reel of records that are laid one behind the other, each of a tile that may be put on one
pub data Laid : List Printed → List ℕ → Type 0 where
  none : Laid [] []
  more : {t : Printed} {bytes : List ℕ} {ts : List Printed} {reel : List ℕ} → Fit t.header t.tile → RecordOf t.header t.tile bytes → Laid ts reel
      → Laid (t ∷ ts) (bytes ++ reel)

-- SPEC 7.5: what a walk listed is those tiles as they were laid: each with what its header says, and with its bytes where the answer says
pub data ReadBack (reel : List ℕ) : List Tile → List Printed → Type 0 where
  none : ReadBack reel [] []
  more : {t : Printed} {listed : List Tile} {ts : List Printed} (at : ℕ)
      → take (tile_length t.header.p) (drop (at + header_length t.header.mark) reel) ≡ t.tile
      → ReadBack reel listed ts → ReadBack reel (tile_of t.header at ∷ listed) (t ∷ ts)
