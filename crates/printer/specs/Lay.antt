-- WHAT A READER MUST BELIEVE: what the call that lays a record promises (SPEC 7.7). Assumes nothing.
use Rattle.std.specs.Prelude.{◌≡◌, List, ℕ, ◌+◌, ◌≤◌, length, take, drop, Result, Ok, Err}
use Rattle.size.specs.Answer as size
use Rattle.size.specs.Refusal as refusal
use Rattle.size.specs.declared.Refusal.{Refusal}
use Rattle.promise.specs.Calls.{Admitted, TileLength}
use Rattle.header.specs.Header.{kind_of, header_length, Carries}
use Rattle.header.specs.Record.{RecordOf}
use Rattle.header.specs.declared.Header.{Header}

-- SPEC 7.7: a record of so many bytes, or a refusal by its number
pub data Said : Type 0 where
  laid : ℕ → Said
  refused : ℕ → Said

-- SPEC 7.7: what each answer of the call stands for
abbrev pub laid_said : Result ℕ Refusal → Said
laid_said (Ok n) = laid n
laid_said (Err r) = refused (refusal.number_of r)

-- SPEC 7.7: how the call begins: refused 1 or 2 as the record's kind, p and l are judged, then 3 where the tile has another length
abbrev pub Taken : Header → List ℕ → size.Said → Type 0
Taken h tile = Admitted (kind_of h.mark) h.p h.l (TileLength h.p tile)

-- SPEC 7.7: how long the record is
abbrev pub record_length : Header → List ℕ → ℕ
record_length h tile = header_length h.mark + length tile

-- SPEC 7.7: the first n bytes of the room are the record of the tile, and those behind them stay as they were
pub record LaidFirst (h : Header) (tile room : List ℕ) (n : ℕ) (new : List ℕ) : Type 0 where
  pub is : RecordOf h tile (take n new)
  pub behind : drop n new ≡ drop n room
  pub long : length new ≡ length room

-- SPEC 7.7: LAY. Refused 4 where the record cannot carry a flag, 9 where the room is shorter than the record; otherwise it is laid, and its
-- length is said
pub data LayTold (h : Header) (tile room : List ℕ) : Said → List ℕ → Type 0 where
  refuses : {n : ℕ} → Taken h tile (size.refused n) → LayTold h tile room (refused n) room
  no_line : Taken h tile size.well → (Carries h → ⊥) → LayTold h tile room (refused 4) room
  no_room : Taken h tile size.well → Carries h → (record_length h tile ≤ length room → ⊥) → LayTold h tile room (refused 9) room
  lays : {new : List ℕ} → Taken h tile size.well → Carries h → record_length h tile ≤ length room
      → LaidFirst h tile room (record_length h tile) new → LayTold h tile room (laid (record_length h tile)) new
