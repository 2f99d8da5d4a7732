-- Wrong programs, each broken by a theorem: no such program meets its contract. Assumes nothing.
use Rattle.std.specs.Prelude.{Bool, true, false, ◌≡◌, refl, List, ℕ, ◌+◌, ◌≤◌}
use Rattle.std.proofs.Common.{arith}
use Rattle.reel.specs.Answer.{tile}
use Rattle.reel.specs.Calls.{NextTold}
use Rattle.reel.specs.Walks.{moves_on}
use Rattle.reel.specs.declared.Tile.{Tile}
use Rattle.picture.specs.declared.Form.{Form}
use Rattle.picture.specs.declared.tally.Tally.{Tally}
use Rattle.show.specs.Show.{Walks, full, over, goes_on}
use Rattle.show.specs.Count.{tiles_counted}
use Rattle.show.specs.Once.{no_tile}
use Rattle.show.specs.Status.{StatusIs, well, FillStatusIs, no_line, no_filling}
use Rattle.show.specs.declared.status.Status.TheVariants.{Well, Wrong, Failed}
use Rattle.show.specs.declared.Walk.{Walk}
use Rattle.show.specs.declared.Walked.{Walked}

-- ---- along

module _ {form : Form} {last : Bool} {offset room : ℕ} where
  -- a walk goes forward, and counts what it passes
  grows : {window : List ℕ} {k : Walk} {r : Walked} {text after : List ℕ} → Walks form last offset room window k r text after
      → (k.place ≤ r.walk.place) × (k.tally.tiles ≤ r.walk.tally.tiles)
  grows (full h) = (omega arith, omega arith)
  grows (over h look) = (omega arith, omega arith)
  grows (goes_on {k = k} {said = said} h told restored more) =
      let on = grows more in (omega (arith, on.0, moves_on told), omega (arith, on.1, tiles_counted k.tally said))

  -- one that stops at a tile, as at one that is refused, while there is room
  pub stops_at_a_tile : {window : List ℕ} {k : Walk} {t : Tile} {r : Walked} {text after : List ℕ} → k.used + 512 ≤ room → NextTold window k.place (tile t)
      → Walks form last offset room window k r text after → r.walk.place ≡ k.place → ⊥
  stops_at_a_tile room_left told (full h) e = omega (arith, h, room_left)
  stops_at_a_tile room_left told (over h look) e = no_tile look told
  stops_at_a_tile room_left told (goes_on h told' restored more) e = omega (arith, e, (grows more).0, moves_on told')

  -- one that does not count the tiles that it shows
  pub counts_none : {window : List ℕ} {k : Walk} {t : Tile} {r : Walked} {text after : List ℕ} → k.used + 512 ≤ room → NextTold window k.place (tile t)
      → Walks form last offset room window k r text after → r.walk.tally.tiles ≡ k.tally.tiles → ⊥
  counts_none room_left told (full h) e = omega (arith, h, room_left)
  counts_none room_left told (over h look) e = no_tile look told
  counts_none room_left told (goes_on {k = k} {said = said} h told' restored more) e = omega (arith, e, (grows more).1, tiles_counted k.tally said)

-- ---- the status

-- one that says 0 of a listing in which a tile is not clean
pub hurt_is_well : {t : Tally} → (t.clean ≡ t.tiles → ⊥) → StatusIs false t true Well → ⊥
hurt_is_well other (well all) = other all

-- one that says 0 where the walk stopped
pub stopped_is_well : {mended : Bool} {t : Tally} → StatusIs mended t false Well → ⊥
stopped_is_well = elim [ ]

-- one that takes a line that the tile does not have for a tile that cannot be filled, and the other way round
pub no_line_is_one : FillStatusIs 4 Wrong → ⊥
no_line_is_one (no_filling f) = f refl

pub damaged_is_two : FillStatusIs 5 Failed → ⊥
damaged_is_two (no_line e) = omega (arith, e)
