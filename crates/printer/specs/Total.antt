-- Laying a record has an outcome, whatever it is told and lent. Assumes nothing.
use Rattle.std.specs.Prelude.{List, ℕ, ◌≤◌, ◌<◌, length}
use Rattle.std.proofs.Math.Decide.{ℕ_discrete, dec_le}
use Rattle.code.specs.Tile.{tile_length}
use Rattle.size.specs.Answer as size
use Rattle.size.specs.Total.{judged_total}
use Rattle.promise.specs.Calls.{TileLength, judged, no_length, admitted}
use Rattle.header.specs.Header.{kind_of, Carries}
use Rattle.header.specs.Carry.{carries_or_not}
use Rattle.header.specs.declared.Header.{Header}
use Rattle.printer.specs.Lay.{Said, laid, refused, Taken, record_length, LayTold, refuses, no_line, no_room, lays}
use Rattle.printer.specs.Laying.{taken_fit, laid_room, made_laid}

module _ (h : Header) (tile room : List ℕ) (less : h.number < 4294967296) where
  -- something is said, and some room is left
  abbrev Outcome : Type 0
  Outcome = (said : Said) × (new : List ℕ) × LayTold h tile room said new

  -- which it is the room decides at last, before it the flags ..
  by_room : Taken h tile size.well → Carries h → Dec (record_length h tile ≤ length room) → Outcome
  by_room t c (yes r) = (laid (record_length h tile), laid_room h tile room, lays t c r (made_laid h tile room (taken_fit t c less) r))
  by_room t c (no f) = (refused 9, room, no_room t c f)

  by_flags : Taken h tile size.well → Dec (Carries h) → Outcome
  by_flags t (yes c) = by_room t c (dec_le (record_length h tile) (length room))
  by_flags t (no f) = (refused 4, room, no_line t f)

  -- .. before these the tile's length, and first the kind, the size and the slope
  by_length : size.Judged (kind_of h.mark) h.p h.l size.well → Dec (TileLength h.p tile) → Outcome
  by_length j (yes e) = by_flags (admitted j e) (carries_or_not h)
  by_length j (no d) = (refused 3, room, refuses (no_length j d))

  by_judgement : (said : size.Said) → size.Judged (kind_of h.mark) h.p h.l said → Outcome
  by_judgement (size.slope _) j = elim j [ ]
  by_judgement size.well j = by_length j (ℕ_discrete (length tile) (tile_length h.p))
  by_judgement (size.refused n) j = (refused n, room, refuses (judged j))

  -- SO THERE IS ALWAYS AN OUTCOME
  pub lay_total : (said : Said) × (new : List ℕ) × LayTold h tile room said new
  lay_total = let j = judged_total (kind_of h.mark) h.p h.l in by_judgement j.0 j.1
