-- WHAT A READER MUST BELIEVE: what the calls on a reel promise (SPEC 7.2 and 7.3). All are answers about a place, which is an offset on
-- the reel, and change nothing. Of the prover's model of a slice, `RefT`, they use `now`, the list of its bytes, and `ptr`, where its first
-- byte stands: a block of memory, and an offset in it. Assumes nothing.
use Rattle.std.specs.Prelude.{◌≡◌, List, [], ℕ, ◌+◌, ◌-◌, ◌≤◌, ◌<◌, length, take, drop}
use Rattle.std.specs.Borrow.{Bor}
use Rattle.code.specs.Tile.{tile_length}
use Rattle.size.specs.Answer as size
use Rattle.header.specs.Header.{Marked, kind_of, header_length, HeaderAt, Carries}
use Rattle.header.specs.declared.Mark.{Mark}
use Rattle.header.specs.declared.Header.{Header}
use Rattle.reel.specs.Answer.{Said, tile, end, refused, tile_of}

-- SPEC 7.2: from the place on the reel has the bytes of the shortest header; those of this mark's header; and, behind this header, a whole
-- tile
abbrev pub StartWhole : List ℕ → ℕ → Type 0
StartWhole reel at = at + 10 ≤ length reel

abbrev pub HeaderWhole : List ℕ → ℕ → Mark → Type 0
HeaderWhole reel at m = at + header_length m ≤ length reel

abbrev pub TileWhole : List ℕ → ℕ → Header → Type 0
TileWhole reel at h = at + header_length h.mark + tile_length h.p ≤ length reel

-- SPEC 7.2 and 2.4: how the size and the slope that a header says are judged, for the kind of its mark
abbrev pub HeaderJudged : Header → size.Said → Type 0
HeaderJudged h = size.Judged (kind_of h.mark) h.p h.l

-- SPEC 7.2, rows 5 to 8: what stands at a place where a whole header does. A refusal comes with the place that was asked for
pub data HeaderTold (reel : List ℕ) (at : ℕ) (h : Header) : Said → Type 0 where
  refuses : {n : ℕ} → HeaderJudged h (size.refused n) → HeaderTold reel at h (refused n at)
  no_line : HeaderJudged h size.well → (Carries h → ⊥) → HeaderTold reel at h (refused 4 at)
  tile_cut : HeaderJudged h size.well → Carries h → (TileWhole reel at h → ⊥) → HeaderTold reel at h (refused 7 at)
  stands : HeaderJudged h size.well → Carries h → TileWhole reel at h → HeaderTold reel at h (tile (tile_of h at))

-- SPEC 7.2: NEXT. What stands at a place: the first row of the table there that is true
pub data NextTold (reel : List ℕ) (at : ℕ) : Said → Type 0 where
  ends : length reel ≤ at → NextTold reel at end
  start_cut : at < length reel → (StartWhole reel at → ⊥) → NextTold reel at (refused 7 at)
  no_mark : StartWhole reel at → ((m : Mark) → Marked m reel at → ⊥) → NextTold reel at (refused 6 at)
  header_cut : (m : Mark) → StartWhole reel at → Marked m reel at → (HeaderWhole reel at m → ⊥) → NextTold reel at (refused 7 at)
  headed : {h : Header} {said : Said} → HeaderAt reel at h → HeaderTold reel at h said → NextTold reel at said

-- SPEC 7.3: AFTER. The next record begins where the tile's bytes end; where no tile stands, it is the place that was asked for
abbrev pub after_said : ℕ → Said → ℕ
after_said at (tile t) = t.at + tile_length t.p
after_said at end = at
after_said at (refused n from) = at

pub record AfterTold (reel : List ℕ) (at to : ℕ) : Type 0 where
  pub said : Said
  pub told : NextTold reel at said
  pub is : to ≡ after_said at said

-- SPEC 7.3: a part of the whole, which is not copied: it holds so many of its bytes, from a place on; and unless there are none, it stands
-- where they stand
pub record PartOf (whole part : Bor (List ℕ)) (from count : ℕ) : Type 0 where
  pub holds : part.now ≡ take count (drop from whole.now)
  pub own : (part.now ≡ [] → ⊥) → part.ref_ptr ≡ (whole.ref_ptr.0, from + whole.ref_ptr.1)

-- SPEC 7.3: BYTES. The tile's, given as a part of the reel; where no tile stands there are none
abbrev pub HandsBack : Bor (List ℕ) → Said → Bor (List ℕ) → Type 0
HandsBack reel (tile t) bytes = PartOf reel bytes t.at (tile_length t.p)
HandsBack reel end bytes = bytes.now ≡ []
HandsBack reel (refused n from) bytes = bytes.now ≡ []

pub record BytesTold (reel : Bor (List ℕ)) (at : ℕ) (bytes : Bor (List ℕ)) : Type 0 where
  pub said : Said
  pub told : NextTold reel.now at said
  pub are : HandsBack reel said bytes

-- SPEC 7.3: REST. What is left from the next record on, given as a part of the reel
pub record RestTold (reel : Bor (List ℕ)) (at : ℕ) (rest : Bor (List ℕ)) : Type 0 where
  pub from : ℕ
  pub told : AfterTold reel.now at from
  pub is : PartOf reel rest from (length reel.now - from)
