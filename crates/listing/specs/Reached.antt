-- How far the listing has come along a reel: what is known of what is left of it, and what follows from that. Assumes nothing.
use Rattle.std.specs.Prelude.{◌≡◌, List, [], ◌∷◌, ◌++◌, ℕ, ◌+◌, ◌-◌, ◌≤◌, ◌<◌, length, take, drop}
use Rattle.std.proofs.Math.Path.{refl, ap}
use Rattle.std.proofs.Common.{sym, ◌∙◌, append-nil, append_assoc, mul-le-mul, arith}
use Rattle.std.proofs.Math.ListN.{length-append}
use Rattle.std.specs.Borrow.{Bor}
use Rattle.code.specs.Tile.{tile_length}
use Rattle.reel.specs.Answer.{Said, tile, end, refused, NoTile}
use Rattle.reel.specs.Calls.{NextTold, BytesTold, RestTold}
use Rattle.reel.specs.Part.{part_told}
use Rattle.reel.specs.Walk.{WalkByPlace, further, shifted}
use Rattle.reel.specs.Walk as walk
use Rattle.reel.specs.Walks.{moves_on, rest_shorter, rest_on}
use Rattle.reel.specs.Promise.{tile_stands}
use Rattle.reel.specs.declared.Tile.{Tile}
use Rattle.lettering.specs.Line.{end_line, stopped_line}
use Rattle.listing.specs.Listing.{Closes}

-- the listing has come so far: `left` is what is left of the reel, and so many tiles stand before it
pub record Reached (reel left : List ℕ) (tiles : ℕ) : Type 0 where
  pub within : length left ≤ length reel
  pub is_left : left ≡ drop (length reel - length left) reel
  pub few : tiles ≤ length reel - length left
  pub before : List Tile
  pub counted : length before ≡ tiles
  pub walked : (more : List Tile) (last : Said) → WalkByPlace reel (length reel - length left) more last → WalkByPlace reel 0 (before ++ more) last

-- ---- the walk

-- it begins with the whole reel
pub reached_first : (reel : List ℕ) → Reached reel reel 0
reached_first reel =
    let none : length reel - length reel ≡ 0 = omega arith in
    record { within = omega arith; is_left = rw none refl; few = omega arith; before = []; counted = refl; walked = λ more last on. rw none at on }

-- and goes on behind a tile
module _ {reel : List ℕ} {left rest : Bor (List ℕ)} {t : Tile} {tiles : ℕ} (reached : Reached reel left.now tiles)
    (told : NextTold left.now 0 (tile t)) (r : RestTold left 0 rest) where
  -- the place that it has come to, the tile there, and the place behind that
  at : ℕ
  at = length reel - length left.now

  here : NextTold reel at (tile (further at t))
  unfolding at
  here = part_told reel at (omega arith) (rw reached.is_left at told)

  to : ℕ
  to = at + t.at + tile_length t.p

  -- the rest begins there
  reached_to : length reel - length rest.now ≡ to
  unfolding at to
  reached_to = omega (arith, rest_shorter told r, reached.within)

  pub reached_less : length rest.now < length left.now
  reached_less = omega (arith, rest_shorter told r, (moves_on told).0)

  pub reached_more : Reached reel rest.now (tiles + 1)
  unfolding at to
  reached_more = record {
    within = omega (arith, rest_shorter told r, reached.within);
    is_left = rw reached_to (rest_on reel at reached.is_left told r);
    few = omega (arith, rest_shorter told r, reached.within, reached.few, (moves_on told).0);
    before = reached.before ++ (further at t ∷ []);
    counted = length-append reached.before (further at t ∷ []) ∙ ap (λ (n : ℕ). n + 1) reached.counted;
    walked = λ more last on.
        rw (append_assoc reached.before (further at t ∷ []) more)
        (reached.walked (further at t ∷ more) last
        (walk.WalkByPlace.goes_on here (record { said = tile (further at t); told = here; is = refl }) (rw reached_to at on)));
  }

-- ---- where it ends

module _ {reel left : List ℕ} {tiles : ℕ} (reached : Reached reel left tiles) where
  -- what stands at the start of what is left stands there on the reel, and ends the walk along it
  stands_there : {last : Said} → NextTold left 0 last → NextTold reel (length reel - length left) (shifted (length reel - length left) last)
  stands_there told = part_told reel (length reel - length left) (omega arith) (rw reached.is_left at told)

  walk_ended : {last : Said} → NextTold reel (length reel - length left) last → NoTile last → WalkByPlace reel 0 reached.before last
  walk_ended {last} told none = rw (append-nil reached.before) at (reached.walked [] last (walk.WalkByPlace.stops told none))

  pub reached_ends : NextTold left 0 end → Closes reel (end_line tiles)
  reached_ends told = rw (sym reached.counted) (Closes.ends (walk_ended (stands_there told) tt))

  pub reached_stops : {n from : ℕ} → NextTold left 0 (refused n from) → Closes reel (stopped_line n (length reel - length left + from))
  reached_stops told = Closes.stops (walk_ended (stands_there told) tt)

-- ---- the tile

module _ {reel bytes : Bor (List ℕ)} {at : ℕ} {t : Tile} (told : NextTold reel.now at (tile t)) (handed : BytesTold reel at bytes) where
  -- the bytes that are handed back where a tile stands are that tile's ..
  pub bytes_are : bytes.now ≡ take (tile_length t.p) (drop t.at reel.now)
  bytes_are = (tile_stands reel bytes at t told handed).part.holds

  -- .. and no tile has more than 65,536
  pub bytes_fit : length bytes.now ≤ 65536
  bytes_fit =
      let stands = tile_stands reel bytes at t told handed in
      let side : t.p - 1 ≤ 256 = omega (arith, stands.size.high) in
      omega (arith, stands.long, mul-le-mul side side)
