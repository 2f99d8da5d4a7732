-- What follows from the relations, on every reel and at every place. Assumes nothing.
use Rattle.std.specs.Prelude.{◌≡◌, List, [], ℕ, ◌+◌, ◌≤◌, length, drop}
use Rattle.std.proofs.Common.{ap, ◌∙◌, subst, arith, length-drop, drop_of_length-le, length-take-le}
use Rattle.std.specs.Borrow.{Bor}
use Rattle.residue.specs.Size.{Size}
use Rattle.code.specs.Kind.{Takes}
use Rattle.code.specs.Tile.{tile_length}
use Rattle.reel.specs.Answer.{Said, tile, end, NoTile}
use Rattle.reel.specs.Calls.{NextTold, ends, AfterTold, PartOf, HandsBack, BytesTold, RestTold}
use Rattle.reel.specs.Told.{tile_taken, tile_within, after_stays, rest_drops}
use Rattle.reel.specs.Once.{next_told_once, after_once}
use Rattle.reel.specs.Reading.{MovesTo}
use Rattle.reel.specs.declared.Tile.{Tile}
use Rattle.reel.specs.declared.reader.Reader.{Reader}

-- a tile that is answered has a size, and a slope that its kind takes there, and lies within the reel; its bytes are (p-1)² long, and stand
-- there
pub record Stands (reel bytes : Bor (List ℕ)) (t : Tile) : Type 0 where
  pub size : Size t.p
  pub slope : Takes t.kind t.p t.l
  pub within : t.at + tile_length t.p ≤ length reel.now
  pub long : length bytes.now ≡ tile_length t.p
  pub part : PartOf reel bytes t.at (tile_length t.p)

pub tile_stands : (reel bytes : Bor (List ℕ)) (at : ℕ) (t : Tile) → NextTold reel.now at (tile t) → BytesTold reel at bytes → Stands reel bytes t
tile_stands reel bytes at t told handed = record {
  size = (tile_taken told).0;
  slope = (tile_taken told).1;
  within = tile_within told;
  long = ap length part.holds ∙ length-take-le (tile_length t.p) (drop t.at reel.now) (omega (arith, tile_within told, length-drop t.at reel.now));
  part = part;
}
  where
    part : PartOf reel bytes t.at (tile_length t.p)
    part = subst (λ (s : Said). HandsBack reel s bytes) (next_told_once reel.now at handed.said (tile t) handed.told told) handed.are

-- where the reel has no byte there is the end, however far behind the last byte it is asked for
pub past_end : (reel : List ℕ) (at : ℕ) (said : Said) → length reel ≤ at → NextTold reel at said → said ≡ end
past_end reel at said h told = next_told_once reel at said end told (ends h)

-- where no tile stands, nothing moves: the next place is the place itself, the rest begins there, and a reader stays as it is
pub stays : (reel : List ℕ) (at to : ℕ) (said : Said) → NextTold reel at said → NoTile said → AfterTold reel at to → to ≡ at
stays reel at to said told n after = after_once reel at to at after (record { said = said; told = told; is = after_stays at said n })

pub rest_stays : (reel rest : Bor (List ℕ)) (at : ℕ) (said : Said) → NextTold reel.now at said → NoTile said → RestTold reel at rest
    → rest.now ≡ drop at reel.now
rest_stays reel rest at said told n r =
    rest_drops reel rest at r ∙ ap (λ (k : ℕ). drop k reel.now) (stays reel.now at r.from said told n r.told)

pub rest_empty : (reel rest : Bor (List ℕ)) (at : ℕ) → length reel.now ≤ at → RestTold reel at rest → rest.now ≡ []
rest_empty reel rest at h r = rest_stays reel rest at end (ends h) tt r ∙ drop_of_length-le reel.now {i = at} h

pub reader_stays : (reader on : Reader) (said : Said) → NextTold reader.reel.now reader.at said → NoTile said → MovesTo reader on → on ≡ reader
reader_stays reader on said told n moved =
    let at = stays reader.reel.now reader.at on.at said told n moved.1 in λ i. record { reel = moved.0 i; at = at i }
