-- WHAT A READER MUST BELIEVE: what becomes of a window when one of its tiles is restored, filled, corrected or read where it stands (SPEC
-- 12.2 and 12.3). The tile's bytes become what the call on a tile promises; every other byte, those of the headers too, stays. Assumes
-- nothing.
use Rattle.std.specs.Prelude.{◌≡◌, Result, Ok, Err, List, ◌++◌, ℕ, ◌+◌, ◌≤◌, length, take, drop}
use Rattle.residue.specs.Size.{Size}
use Rattle.code.specs.Tile.{tile_length}
use Rattle.code.specs.declared.Line.{Line}
use Rattle.size.specs.Refusal.{number_of}
use Rattle.size.specs.declared.Refusal.{Refusal}
use Rattle.promise.specs.Answer as tile
use Rattle.promise.specs.Calls.{FillTold, ReadTold}
use Rattle.restorer.specs.Restore.{RestoreTold}
use Rattle.sheet.specs.Answer as sheet
use Rattle.sheet.specs.Calls.{CorrectTold}
use Rattle.reel.specs.Answer as reel
use Rattle.reel.specs.Calls.{NextTold}
use Rattle.reel.specs.declared.Tile.{Tile}

-- SPEC 7.3: the bytes of a tile on a window, and that they lie within it
abbrev pub tile_bytes : List ℕ → Tile → List ℕ
tile_bytes window t = take (tile_length t.p) (drop t.at window)

pub record Within (window : List ℕ) (t : Tile) : Type 0 where
  pub size : Size t.p
  pub whole : t.at + tile_length t.p ≤ length window

-- SPEC 12.2: a window with other bytes from a place on, as many as they are, and all else as it was
abbrev pub changed : List ℕ → ℕ → List ℕ → List ℕ
changed window at new = take at window ++ (new ++ drop (length new) (drop at window))

-- SPEC 12.2 and 7.6: a tile is restored where it stands
pub record RestoredIn (window : List ℕ) (t : Tile) (said : tile.Said) (after : List ℕ) : Type 0 where
  pub new : List ℕ
  pub told : RestoreTold t.kind t.p t.l (tile_bytes window t) t.first t.second said new
  pub long : length new ≡ tile_length t.p
  pub is : after ≡ changed window t.at new

-- SPEC 12.3: why nothing is done where no tile stands: as what stands there is refused, and at the end by 7
abbrev pub WhyNot : reel.Said → ℕ → Type 0
WhyNot (reel.tile t) n = Unit {0}
WhyNot reel.end n = n ≡ 7
WhyNot (reel.refused m from) n = n ≡ m

-- SPEC 12.3: the tile at a place, or why nothing is done there
abbrev pub TileTold : List ℕ → ℕ → Result Tile Refusal → Type 0
TileTold window at (Ok t) = NextTold window at (reel.tile t)
TileTold window at (Err r) = (said : reel.Said) × NextTold window at said × reel.NoTile said × WhyNot said (number_of r)

-- SPEC 12.3: what a call makes of the tile at a place: what it promises of the tile's bytes, put back; or it is refused and all stays the
-- same
pub data OnTile {Answer : Type 0} (refuse : ℕ → Answer) (Told : Tile → List ℕ → Answer → List ℕ → Type 0) (back : Tile → List ℕ → List ℕ) (same window : List ℕ) (at : ℕ) : Answer → List ℕ → Type 0 where
  there : {t : Tile} {a : Answer} {new : List ℕ} → NextTold window at (reel.tile t) → Told t (tile_bytes window t) a new
      → OnTile refuse Told back same window at a (back t new)
  no_tile : {said : reel.Said} {n : ℕ} → NextTold window at said → reel.NoTile said → WhyNot said n → OnTile refuse Told back same window at (refuse n) same

-- SPEC 12.3: RESTORE, FILL and CORRECT change the window: what a call made of the tile's bytes, as many as they were, takes their place.
-- READ leaves it, and gives the text
abbrev pub RestoresAt : List ℕ → ℕ → tile.Said → List ℕ → Type 0
RestoresAt window =
    OnTile tile.refused (λ t bytes said new. RestoreTold t.kind t.p t.l bytes t.first t.second said new × (length new ≡ length bytes)) (λ t new. changed window t.at new) window window

abbrev pub FillsAt : Line → Line → List ℕ → ℕ → tile.Said → List ℕ → Type 0
FillsAt a b window =
    OnTile tile.refused (λ t bytes said new. FillTold t.kind t.p t.l bytes a b said new × (length new ≡ length bytes)) (λ t new. changed window t.at new) window window

abbrev pub CorrectsAt : List ℕ → List ℕ → ℕ → sheet.Said → List ℕ → Type 0
CorrectsAt records window =
    OnTile (λ n. sheet.refused n 0) (λ t bytes said new. CorrectTold t.kind t.p t.l bytes records said new × (length new ≡ length bytes)) (λ t new. changed window t.at new) window window

abbrev pub ReadsAt : List ℕ → ℕ → List ℕ → tile.Said → List ℕ → Type 0
ReadsAt window at text = OnTile tile.refused (λ t bytes said new. ReadTold t.kind t.p t.l bytes text said new) (λ t new. new) text window at
