-- WHAT A READER MUST BELIEVE: what a walk along a window makes of it, and what it puts on a page (SPEC 12.2, 12.7 to 12.9). Assumes
-- nothing.
use Rattle.std.specs.Prelude.{Bool, ◌≡◌, Some, None, Err, List, [], ◌++◌, ℕ, ◌+◌, ◌≤◌, ◌<◌, length}
use Rattle.code.specs.Tile.{tile_length}
use Rattle.promise.specs.Answer.{Said}
use Rattle.reel.specs.Answer.{tile}
use Rattle.reel.specs.Calls.{NextTold}
use Rattle.reel.specs.declared.Tile.{Tile}
use Rattle.page.specs.Page.{Puts}
use Rattle.picture.specs.Picture.{tile_shown}
use Rattle.picture.specs.Tally.{counted, Below}
use Rattle.picture.specs.declared.Form.{Form}
use Rattle.picture.specs.declared.tally.Tally.{Tally}
use Rattle.window.specs.Window.{LookTold}
use Rattle.window.specs.Treat.{RestoredIn}
use Rattle.window.specs.declared.NoTile.{NoTile}
use Rattle.show.specs.declared.Walk.{Walk}
use Rattle.show.specs.declared.Walked.{Walked}

-- SPEC 12.9: a reel that has come so far can still be counted: nothing is above 10¹⁷
pub record Near (offset : ℕ) (tally : Tally) : Type 0 where
  pub far : offset ≤ 100000000000000000
  pub few : Below 100000000000000000 tally

-- SPEC 12.7 to 12.9: what a walk shows of the tile at its place, whose record begins so far behind the window's first byte
abbrev pub shown_of : Form → ℕ → Walk → Tile → Said → List ℕ
shown_of form offset k t said = tile_shown form k.tally.tiles (offset + k.place) t.number t.p t.l said

-- SPEC 12.9: the walk behind that tile
abbrev pub behind_it : Form → ℕ → Walk → Tile → Said → Walk
behind_it form offset k t said =
    record { place = t.at + tile_length t.p; tally = counted k.tally said; used = k.used + length (shown_of form offset k t said) }

-- SPEC 12.2 and 12.9: WALKS. Each tile is restored where it stands, and shown behind what was shown before; every other byte of the window
-- stays. The walk is over where no tile is looked at, and where the page, of so much room, has less than 512 bytes left
pub data Walks (form : Form) (last : Bool) (offset room : ℕ) : List ℕ → Walk → Walked → List ℕ → List ℕ → Type 0 where
  full : {window : List ℕ} {k : Walk} → room < k.used + 512 → Walks form last offset room window k (record { walk = k; ending = None }) [] window
  over : {window : List ℕ} {k : Walk} {why : NoTile} → k.used + 512 ≤ room → LookTold window k.place last (Err why)
      → Walks form last offset room window k (record { walk = k; ending = Some why }) [] window
  goes_on : {window after final : List ℕ} {k : Walk} {t : Tile} {said : Said} {r : Walked} {more : List ℕ} → k.used + 512 ≤ room
      → NextTold window k.place (tile t) → RestoredIn window t said after
      → Walks form last offset room after (behind_it form offset k t said) r more final
      → Walks form last offset room window k r (shown_of form offset k t said ++ more) final

-- SPEC 12.9: one tile is passed
pub record PastTold (form : Form) (offset : ℕ) (window : List ℕ) (k : Walk) (t : Tile) (page : List ℕ) (r : Walk) (after page' : List ℕ) : Type 0 where
  pub said : Said
  pub restored : RestoredIn window t said after
  pub is : r ≡ behind_it form offset k t said
  pub shown : Puts page k.used (shown_of form offset k t said) r.used page'
  pub fits : r.used ≤ k.used + 512

-- SPEC 12.9: ALONG. A walk from a place on, with an empty page: what it shows stands on the page then
pub record AlongTold (form : Form) (last : Bool) (offset : ℕ) (window : List ℕ) (from : ℕ) (tally : Tally) (page : List ℕ) (r : Walked) (after page' : List ℕ) : Type 0 where
  pub text : List ℕ
  pub walks : Walks form last offset (length page) window (record { place = from; tally = tally; used = 0 }) r text after
  pub shown : Puts page 0 text r.walk.used page'
