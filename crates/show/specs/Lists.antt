-- A REEL THAT IS WALKED BY WINDOWS IS LISTED AS ONE THAT IS HELD WHOLE (SPEC 12.9). Assumes nothing.
use Rattle.std.specs.Prelude.{Bool, ◌≡◌, Option, Some, None, Err, List, ◌++◌, ℕ, ◌+◌, ◌≤◌, length, get_or}
use Rattle.std.proofs.Common.{ap, subst, ◌∙◌, append_assoc, arith}
use Rattle.code.specs.Tile.{tile_length}
use Rattle.size.specs.Refusal.{number_of}
use Rattle.size.specs.declared.Refusal.{Refusal}
use Rattle.promise.specs.Answer.{Said}
use Rattle.restorer.specs.Restore.{RestoreTold}
use Rattle.reel.specs.Answer.{tile, end, refused}
use Rattle.reel.specs.Calls.{NextTold, AfterTold}
use Rattle.reel.specs.Walk.{further}
use Rattle.reel.specs.Told.{tile_within}
use Rattle.reel.specs.Walks.{moves_on}
use Rattle.reel.specs.declared.Tile.{Tile}
use Rattle.lettering.specs.Line.{tile_line, end_line, stopped_line}
use Rattle.listing.specs.Listing.{TileListed, lists}
use Rattle.listing.specs.Whole as whole
use Rattle.listing.specs.Whole.{Lists}
use Rattle.picture.specs.Picture.{tile_shown}
use Rattle.picture.specs.declared.Form.TheVariants.{Lines}
use Rattle.window.specs.Window.{Shows}
use Rattle.window.specs.Treat.{RestoredIn}
use Rattle.window.specs.Law.{settled_there, bytes_there, There, LastIs, looked_there}
use Rattle.window.specs.Untouched.{behind_change, same_length}
use Rattle.window.specs.declared.NoTile.{NoTile}
use Rattle.window.specs.declared.NoTile.TheVariants as no_tile
use Rattle.show.specs.Show.{shown_of, Walks, full, over, goes_on}
use Rattle.show.specs.Count.{tiles_counted}
use Rattle.show.specs.declared.Walk.{Walk}
use Rattle.show.specs.declared.Walked.{Walked}

-- ---- one tile

module _ {reel : List ℕ} {offset : ℕ} {window : List ℕ} {at : ℕ} (shows : Shows reel offset window at) {t : Tile} {said : Said} {after : List ℕ}
    (told : NextTold window at (tile t)) (restored : RestoredIn window t said after) where
  fits : t.at + length restored.new ≤ length window
  fits = omega (arith, restored.long, tile_within told)

  -- a tile that is restored leaves the window as long as it was ..
  pub long_on : length after ≡ length window
  long_on = ap length restored.is ∙ same_length window t.at restored.new fits

  -- .. and what stands behind it as it is on the reel
  pub shows_on : Shows reel offset after (t.at + tile_length t.p)
  shows_on = record {
    within = omega (arith, long_on, shows.within);
    same = λ n le lt.
        ap (λ (x : List ℕ). get_or x n 0) restored.is
        ∙ behind_change window t.at restored.new fits n (omega (arith, le, restored.long))
        ∙ shows.same n (omega (arith, le, moves_on told)) (omega (arith, lt, long_on));
  }

  -- its line is the one that stands in the listing of the reel
  pub listed_there : TileListed reel (offset + at) (tile_line t.number t.p t.l said)
  listed_there = lists (settled_there shows told tt) (record {
    new = restored.new;
    told = subst (λ (x : List ℕ). RestoreTold t.kind t.p t.l x t.first t.second said restored.new) (bytes_there shows told) restored.told;
  })

  pub after_there : AfterTold reel (offset + at) (offset + (t.at + tile_length t.p))
  after_there = record { said = tile (further offset t); told = settled_there shows told tt; is = omega arith }

-- ---- one window

-- a tile is shown by its line
listed_as : {reel : List ℕ} {place : ℕ} (offset : ℕ) (k : Walk) (t : Tile) (said : Said) → TileListed reel place (tile_line t.number t.p t.l said)
    → TileListed reel place (shown_of Lines offset k t said)
unfolding tile_shown
listed_as offset k t said x = x

-- what is listed behind a window is listed behind its lines
pub walk_lists : {reel : List ℕ} {last : Bool} {offset room : ℕ} {window : List ℕ} {k : Walk} {r : Walked} {text after rest : List ℕ}
    → Walks Lines last offset room window k r text after → Shows reel offset window k.place → LastIs last reel offset window
    → Lists reel (offset + r.walk.place) r.walk.tally.tiles rest → Lists reel (offset + k.place) k.tally.tiles (text ++ rest)
walk_lists (full h) shows last more = more
walk_lists (over h look) shows last more = more
walk_lists {reel} {offset = offset} {rest = rest} (goes_on {k = k} {t = t} {said} {more = more} h told restored walks) shows last later =
    let on = walk_lists walks (shows_on shows told restored) (λ is. omega (arith, long_on shows told restored, last is)) later in
    rw (append_assoc (shown_of Lines offset k t said) more rest)
    (whole.goes_on (listed_as offset k t said (listed_there shows told restored)) (after_there shows told restored)
    (subst (λ (n : ℕ). Lists reel (offset + (t.at + tile_length t.p)) n (more ++ rest)) (tiles_counted k.tally said) on))

-- how a walk ended is so on the reel
abbrev pub EndThere : List ℕ → ℕ → ℕ → Option NoTile → Type 0
EndThere reel place offset None = Unit {0}
EndThere reel place offset (Some no_tile.More) = Unit {0}
EndThere reel place offset (Some no_tile.End) = NextTold reel place end
EndThere reel place offset (Some (no_tile.Stopped r from)) = NextTold reel place (refused (number_of r) (offset + from))

end_there : (reel : List ℕ) (place offset : ℕ) (why : NoTile) → There reel place offset (Err why) → EndThere reel place offset (Some why)
end_there reel place offset no_tile.End there = there
end_there reel place offset (no_tile.Stopped r from) there = there
end_there reel place offset no_tile.More there = tt

pub walk_ends : {reel : List ℕ} {last : Bool} {offset room : ℕ} {window : List ℕ} {k : Walk} {r : Walked} {text after : List ℕ}
    → Walks Lines last offset room window k r text after → Shows reel offset window k.place → LastIs last reel offset window
    → EndThere reel (offset + r.walk.place) offset r.ending
walk_ends (full h) shows last = tt
walk_ends {reel} {offset = offset} (over {k = k} {why} h look) shows last = end_there reel (offset + k.place) offset why (looked_there shows last look)
walk_ends (goes_on h told restored walks) shows last = walk_ends walks (shows_on shows told restored) (λ is. omega (arith, long_on shows told restored, last is))

-- ---- all windows

-- one window was walked along, from a place of the reel on, behind so many tiles: what came of it, and its lines
pub record Seen (reel : List ℕ) (at n : ℕ) (r : Walked) (text : List ℕ) : Type 0 where
  pub offset : ℕ
  pub room : ℕ
  pub is_last : Bool
  pub window : List ℕ
  pub after : List ℕ
  pub k : Walk
  pub begins : offset + k.place ≡ at
  pub behind : k.tally.tiles ≡ n
  pub shows : Shows reel offset window k.place
  pub last : LastIs is_last reel offset window
  pub walks : Walks Lines is_last offset room window k r text after

-- windows one behind the other: each begins where the walk along the one before it came to, until one comes to the end or is stopped
pub data Windows (reel : List ℕ) : ℕ → ℕ → List ℕ → Type 0 where
  ends : {at n : ℕ} {r : Walked} {text : List ℕ} → Seen reel at n r text → r.ending ≡ Some no_tile.End → Windows reel at n (text ++ end_line r.walk.tally.tiles)
  stops : {at n : ℕ} {r : Walked} {text : List ℕ} {no : Refusal} {from : ℕ} → (seen : Seen reel at n r text) → r.ending ≡ Some (no_tile.Stopped no from)
      → Windows reel at n (text ++ stopped_line (number_of no) (seen.offset + from))
  next : {at n : ℕ} {r : Walked} {text more : List ℕ} → (seen : Seen reel at n r text) → Windows reel (seen.offset + r.walk.place) r.walk.tally.tiles more
      → Windows reel at n (text ++ more)

seen_lists : {reel : List ℕ} {at n : ℕ} {r : Walked} {text rest : List ℕ} → (seen : Seen reel at n r text)
    → Lists reel (seen.offset + r.walk.place) r.walk.tally.tiles rest → Lists reel at n (text ++ rest)
seen_lists {reel} {at} {n} {r} {text} {rest} seen more =
    subst (λ (m : ℕ). Lists reel at m (text ++ rest)) seen.behind
    (subst (λ (i : ℕ). Lists reel i seen.k.tally.tiles (text ++ rest)) seen.begins (walk_lists seen.walks seen.shows seen.last more))

-- THEIR LINES ARE THE LISTING
pub windows_list : {reel : List ℕ} {at n : ℕ} {text : List ℕ} → Windows reel at n text → Lists reel at n text
windows_list {reel} (ends {r = r} seen e) =
    seen_lists seen (whole.ends (subst (λ (x : Option NoTile). EndThere reel (seen.offset + r.walk.place) seen.offset x) e (walk_ends seen.walks seen.shows seen.last)))
windows_list {reel} (stops {r = r} seen e) =
    seen_lists seen (whole.stops (subst (λ (x : Option NoTile). EndThere reel (seen.offset + r.walk.place) seen.offset x) e (walk_ends seen.walks seen.shows seen.last)))
windows_list (next seen more) = seen_lists seen (windows_list more)
