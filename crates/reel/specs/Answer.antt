-- WHAT A READER MUST BELIEVE: the answer that each case of the enum `Found` stands for (SPEC 7.2). Assumes nothing.
use Rattle.std.specs.Prelude.{ℕ, ◌+◌, Result, Ok, Err}
use Rattle.size.specs.Refusal as refusal
use Rattle.size.specs.declared.Refusal.{Refusal}
use Rattle.header.specs.Header.{kind_of, header_length}
use Rattle.header.specs.declared.Header.{Header}
use Rattle.reel.specs.declared.Tile.{Tile}
use Rattle.reel.specs.declared.Found.{Found}
use Rattle.reel.specs.declared.Found.TheVariants as found

-- SPEC 7.2: a tile, with its kind, its number, its p, its l, its two flags and the offset where its bytes begin; the end; or a refusal,
-- with its number and offset
pub data Said : Type 0 where
  tile : Tile → Said
  end : Said
  refused : ℕ → ℕ → Said

-- SPEC 7.2: what each answer of the call stands for
abbrev pub found_said : Found → Said
found_said (found.Tile t) = tile t
found_said found.End = end
found_said (found.Refused r at) = refused (refusal.number_of r) at

-- SPEC 7.2: what stands for a tile that was looked for at a place, or for the refusal of what stands there
abbrev pub said_at : ℕ → Result Tile Refusal → Said
said_at at (Ok t) = tile t
said_at at (Err r) = refused (refusal.number_of r) at

-- SPEC 7.2: the tile whose record has this header, and stands at this place
abbrev pub tile_of : Header → ℕ → Tile
tile_of h at = record { kind = kind_of h.mark; number = h.number; p = h.p; l = h.l; first = h.first; second = h.second; at = at + header_length h.mark }

-- SPEC 7.2: no tile stands there: it is the end, or a refusal
abbrev pub NoTile : Said → Type 0
NoTile (tile t) = ⊥
NoTile end = Unit {0}
NoTile (refused n from) = Unit {0}
