-- WHAT A READER MUST BELIEVE: the word and the numbers that stand for each answer, and the kind and the record that a number names (SPEC
-- 11.1, 11.5 and 11.6). Assumes nothing.
use Rattle.std.specs.Prelude.{cond, ℕ, ◌+◌, ◌*◌, eqb}
use Rattle.code.specs.declared.Kind.{Kind}
use Rattle.code.specs.declared.Kind.TheVariants.{New, Old}
use Rattle.header.specs.declared.Mark.{Mark}
use Rattle.header.specs.declared.Mark.TheVariants as mark
use Rattle.size.specs.Answer as size
use Rattle.promise.specs.Answer as tile

-- SPEC 11.1: an answer has a kind and two numbers, and is one word of 64 bits, in which each of the two has 16
pub data Answer : Type 0 where
  answer : (kind first second : ℕ) → Answer

abbrev pub word : Answer → ℕ
word (answer kind first second) = kind * 0x100000000 + first * 0x10000 + second

-- SPEC 11.1: what is well, and has no number to tell, is kind 0; a refusal is kind 4 with its number
abbrev pub done : Answer
done = answer 0 0 0

abbrev pub refusal : ℕ → Answer
refusal n = answer 4 n 0

-- SPEC 11.1: what the size calls say; the house slope is the first number
abbrev pub size_answer : size.Said → Answer
size_answer (size.slope l) = answer 0 l 0
size_answer size.well = done
size_answer (size.refused n) = refusal n

-- SPEC 11.1: what write, read, fill, judge and repair say; a column is kind 1 and a row kind 2, with its number, and a cell is kind 3 with
-- its row first and its column second
abbrev pub tile_answer : tile.Said → Answer
tile_answer tile.done = done
tile_answer tile.clean = done
tile_answer (tile.cell r c) = answer 3 r c
tile_answer (tile.column c) = answer 1 c 0
tile_answer (tile.row r) = answer 2 r 0
tile_answer (tile.refused n) = refusal n

-- SPEC 11.5: 1 is old, and every other number new; a kind comes back as 0 or 1
unfoldable pub tile_kind : ℕ → Kind
tile_kind n = cond (eqb n 1) Old New

abbrev pub kind_number : Kind → ℕ
kind_number New = 0
kind_number Old = 1

-- SPEC 11.6: 1 is the record of an old tile, 2 the flagged one, and every other number that of a new tile
unfoldable pub mark_of : ℕ → Mark
mark_of n = cond (eqb n 1) mark.Old (cond (eqb n 2) mark.Flagged mark.Plain)
