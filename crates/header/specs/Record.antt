-- WHAT A READER MUST BELIEVE: the record of a tile (SPEC 7.5). How a record is laid out is not said again: a record is what reads as one
-- (`Header`). Assumes nothing.
use Rattle.std.specs.Prelude.{◌≡◌, List, ℕ, ◌<◌, length, drop}
use Rattle.residue.specs.Size.{Size}
use Rattle.code.specs.Kind.{Takes}
use Rattle.code.specs.Tile.{tile_length}
use Rattle.header.specs.Header.{byte_of, kind_of, header_length, HeaderAt, Carries}
use Rattle.header.specs.declared.Header.{Header}

-- SPEC 7.5: a tile may be put on a reel behind this header: its size is one, the mark's kind takes its slope there, its number is one of
-- four bytes, the record may carry its flags, and the tile has the right length
pub record Fit (h : Header) (tile : List ℕ) : Type 0 where
  pub size : Size h.p
  pub slope : Takes (kind_of h.mark) h.p h.l
  pub number : h.number < 4294967296
  pub flags : Carries h
  pub long : length tile ≡ tile_length h.p

-- SPEC 7.5 and 7.1: these bytes are the record of a tile: its header stands first and is of bytes; behind it stand the tile's bytes, and
-- nothing else
pub record RecordOf (h : Header) (tile bytes : List ℕ) : Type 0 where
  pub header : HeaderAt bytes 0 h
  pub of_bytes : (n : ℕ) → n < header_length h.mark → byte_of bytes 0 n < 256
  pub behind : drop (header_length h.mark) bytes ≡ tile
