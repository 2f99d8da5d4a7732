-- WHAT A READER MUST BELIEVE: the answer and the numbers that stand for what a correction, a record and a reel say (SPEC 11.1 and 11.2).
-- Assumes nothing.
use Rattle.std.specs.Prelude.{◌≡◌, ℕ, None}
use Rattle.sheet.specs.Answer as sheet
use Rattle.flag.specs.Flag.{flag_number}
use Rattle.printer.specs.Lay as lay
use Rattle.reel.specs.Answer as reel
use Rattle.reel.specs.declared.Tile.{Tile}
use Rattle.word.specs.Word.{Answer, answer, done, refusal, kind_number}

-- SPEC 11.1 and 11.2: what a correction says, and the number that it sets: the count of records, or the offset of a refusal
abbrev pub sheet_answer : sheet.Said → Answer
sheet_answer (sheet.corrected n) = done
sheet_answer (sheet.refused n at) = refusal n

abbrev pub count_or_offset : sheet.Said → ℕ
count_or_offset (sheet.corrected n) = n
count_or_offset (sheet.refused n at) = at

-- SPEC 11.1 and 11.2: what laying a record says, and the number that it sets: the record's length
abbrev pub lay_answer : lay.Said → Answer
lay_answer (lay.laid n) = done
lay_answer (lay.refused n) = refusal n

abbrev pub record_length : lay.Said → ℕ
record_length (lay.laid n) = n
record_length (lay.refused n) = 0

-- SPEC 11.1: what stands at a place of a reel; the end is kind 7
abbrev pub reel_answer : reel.Said → Answer
reel_answer (reel.tile t) = done
reel_answer reel.end = answer 7 0 0
reel_answer (reel.refused n from) = refusal n

-- SPEC 11.2, 11.3 and 11.5: the seven numbers that it sets
pub record Seven : Type 0 where
  pub kind : ℕ
  pub number : ℕ
  pub p : ℕ
  pub l : ℕ
  pub first : ℕ
  pub second : ℕ
  pub offset : ℕ

-- SPEC 11.2: a refusal has its offset alone and the end has none: the flags are none there, and the others 0
abbrev pub no_tile : ℕ → Seven
no_tile from = record { kind = 0; number = 0; p = 0; l = 0; first = flag_number None; second = flag_number None; offset = from }

abbrev pub seven_of : reel.Said → Seven
seven_of (reel.tile t) =
    record { kind = kind_number t.kind; number = t.number; p = t.p; l = t.l; first = flag_number t.first; second = flag_number t.second; offset = t.at }
seven_of reel.end = no_tile 0
seven_of (reel.refused n from) = no_tile from

-- those of a tile, as they were worked out
pub tile_numbers : (t : Tile) {k f s : ℕ} → k ≡ kind_number t.kind → f ≡ flag_number t.first → s ≡ flag_number t.second
    → record { kind = k; number = t.number; p = t.p; l = t.l; first = f; second = s; offset = t.at } ≡ seven_of (reel.tile t)
tile_numbers t d e f = λ i. record { kind = d i; number = t.number; p = t.p; l = t.l; first = e i; second = f i; offset = t.at }
