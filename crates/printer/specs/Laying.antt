-- How a record is laid: what is taken and carries its flags may be laid, two copies put it together, and then it stands first in the room.
-- Assumes nothing.
use Rattle.std.specs.Prelude.{◌≡◌, List, ◌++◌, ℕ, ◌+◌, ◌-◌, ◌≤◌, ◌<◌, length, take, drop}
use Rattle.std.proofs.Common.{sym, ap, ap₂, ◌∙◌, subst, append_assoc, mul-le-mul, arith, length-append, length-drop, length-take-le, drop-drop, take_at, drop_at}
use Rattle.size.specs.Answer as size
use Rattle.promise.specs.Admit.{admitted_well}
use Rattle.header.specs.Header.{header_length, Carries}
use Rattle.header.specs.Record.{Fit, RecordOf}
use Rattle.header.specs.Laid.{header_bytes, counted, front, front_long, made, made_record}
use Rattle.header.specs.declared.Header.{Header}
use Rattle.printer.specs.Lay.{laid, Taken, record_length, LaidFirst, LayTold, lays}

-- what is taken and carries its flags may be laid
pub taken_fit : {h : Header} {tile : List ℕ} → Taken h tile size.well → Carries h → h.number < 4294967296 → Fit h tile
taken_fit taken carries less = let well = admitted_well taken in record { size = well.0; slope = well.1; number = less; flags = carries; long = well.2 }

-- and its record is not long: a tile has at most 256 bytes in each of 256 rows
pub taken_short : (h : Header) (tile : List ℕ) → Taken h tile size.well → record_length h tile ≤ 65550
taken_short h tile taken =
    let well = admitted_well taken in
    let rows : h.p - 1 ≤ 256 = omega (arith, well.0.high) in
    omega (arith, (counted h.mark).1, well.2, mul-le-mul rows rows)

-- ---- a record that is put together stands first in the room

module _ (h : Header) (tile room : List ℕ) where
  made_long : length (made h tile) ≡ record_length h tile
  made_long = length-append (front h) tile ∙ ap (λ (n : ℕ). n + length tile) (front_long h)

  -- the room in which it does
  abbrev pub laid_room : List ℕ
  laid_room = made h tile ++ drop (record_length h tile) room

  pub made_laid : Fit h tile → record_length h tile ≤ length room → LaidFirst h tile room (record_length h tile) laid_room
  made_laid fit fits = record {
    is = subst (RecordOf h tile) (sym (take_at (made h tile) (drop (record_length h tile) room) (record_length h tile) made_long)) (made_record h tile fit);
    behind = drop_at (made h tile) (drop (record_length h tile) room) (record_length h tile) made_long;
    long = length-append (made h tile) (drop (record_length h tile) room) ∙ omega (arith, made_long, length-drop (record_length h tile) room);
  }

-- ---- two copies put it together

-- some bytes are copied to the start of a room, and a tile behind them
module _ (bytes tile room : List ℕ) (start : ℕ) (long : length bytes ≡ start) where
  -- the room in between
  abbrev first : List ℕ
  first = bytes ++ drop start room

  behind_is : drop (start + length tile - start) (drop start first) ≡ drop (start + length tile) room
  behind_is =
      let count : start + length tile - start ≡ length tile = omega arith in
      ap₂ drop count (drop_at bytes (drop start room) start long) ∙ drop-drop (length tile) start room

  copied : take start first ++ (tile ++ drop (start + length tile - start) (drop start first)) ≡ (bytes ++ tile) ++ drop (start + length tile) room
  copied =
      ap₂ ◌++◌ (take_at bytes (drop start room) start long) (ap (λ (xs : List ℕ). tile ++ xs) behind_is)
      ∙ sym (append_assoc bytes tile (drop (start + length tile) room))

-- as many bytes of the header as count
module _ (h : Header) (start : ℕ) (bytes : List ℕ) (counts : start ≡ header_length h.mark) (of : bytes ≡ header_bytes h) where
  pub enough : start ≤ length bytes
  enough = omega (arith, counts, ap length of, (counted h.mark).1)

  pub so_many : length (take start bytes) ≡ start
  so_many = length-take-le start bytes enough

  -- so where these are copied, and behind them a tile, its record is laid
  pub ends_laid : (tile room one two : List ℕ) → Taken h tile size.well → Carries h → Fit h tile → start + length tile ≤ length room
      → one ≡ take start bytes → two ≡ tile
      → LayTold h tile room (laid (start + length tile)) (take start (one ++ drop start room) ++ (two ++ drop (start + length tile - start) (drop start (one ++ drop start room))))
  ends_laid tile room one two taken carries fit fits is_one is_two =
      let new = take start (take start bytes ++ drop start room) ++ (tile ++ drop (start + length tile - start) (drop start (take start bytes ++ drop start room))) in
      let is : new ≡ laid_room h tile room =
      copied (take start bytes) tile room start so_many
      ∙ ap₂ (λ (n : ℕ) (xs : List ℕ). (take n xs ++ tile) ++ drop (n + length tile) room) counts of in
      let room_for_it : record_length h tile ≤ length room = omega (arith, counts) in
      rw (is_one, is_two)
      (subst (λ (n : ℕ). LayTold h tile room (laid (n + length tile)) new) (sym counts)
      (lays taken carries room_for_it (subst (LaidFirst h tile room (record_length h tile)) (sym is) (made_laid h tile room fit room_for_it))))
