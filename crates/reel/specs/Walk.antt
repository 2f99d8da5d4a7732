-- WHAT A READER MUST BELIEVE: what a walk along a reel lists, by place and by the rest (SPEC 7.5). Assumes nothing.
use Rattle.std.specs.Prelude.{List, [], ◌∷◌, ℕ, ◌+◌, ◌-◌, length}
use Rattle.std.specs.Borrow.{Bor}
use Rattle.reel.specs.Answer.{Said, tile, end, refused, NoTile}
use Rattle.reel.specs.Calls.{NextTold, AfterTold, RestTold}
use Rattle.reel.specs.declared.Tile.{Tile}

-- SPEC 7.5: BY PLACE. Ask what stands at a place; where it is a tile, list it and go on at the place behind it. A walk lists the tiles in
-- their order, and the answer that ended it
pub data WalkByPlace (reel : List ℕ) : ℕ → List Tile → Said → Type 0 where
  stops : {at : ℕ} {last : Said} → NextTold reel at last → NoTile last → WalkByPlace reel at [] last
  goes_on : {at to : ℕ} {t : Tile} {more : List Tile} {last : Said} → NextTold reel at (tile t)
      → AfterTold reel at to → WalkByPlace reel to more last → WalkByPlace reel at (t ∷ more) last

-- SPEC 7.5: a tile that is found on a part, with its offset counted from the beginning of the reel, which is so many bytes before that of
-- the part; and what is said of a part
abbrev pub further : ℕ → Tile → Tile
further by t = record { kind = t.kind; number = t.number; p = t.p; l = t.l; first = t.first; second = t.second; at = by + t.at }

abbrev pub shifted : ℕ → Said → Said
shifted by (tile t) = tile (further by t)
shifted by end = end
shifted by (refused n from) = refused n (by + from)

-- SPEC 7.5: BY THE REST. Ask what stands at the start of what is left of a reel of so many bytes; where it is a tile, list it and go on
-- with the rest
pub data WalkByRest (total : ℕ) : Bor (List ℕ) → List Tile → Said → Type 0 where
  stops : {left : Bor (List ℕ)} {last : Said} → NextTold left.now 0 last → NoTile last
      → WalkByRest total left [] (shifted (total - length left.now) last)
  goes_on : {left rest : Bor (List ℕ)} {t : Tile} {more : List Tile} {last : Said}
      → NextTold left.now 0 (tile t) → RestTold left 0 rest → WalkByRest total rest more last
      → WalkByRest total left (further (total - length left.now) t ∷ more) last
