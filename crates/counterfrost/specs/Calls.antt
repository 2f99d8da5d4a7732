-- WHAT A READER MUST BELIEVE: what each call of the C library promises (SPEC 11). Nothing is said again: each promise is that of the call
-- which it wraps, and that the word, and the numbers that it leaves, stand for what is said there. Assumes nothing.
use Rattle.std.specs.Prelude.{◌≡◌, List, ℕ}
use Rattle.size.specs.Answer.{HouseTold, Judged}
use Rattle.promise.specs.Calls.{WriteTold, ReadTold, RepairTold, InspectTold, RecoverTold, FillTold, JudgeTold}
use Rattle.sheet.specs.Calls.{CorrectTold}
use Rattle.reel.specs.Calls.{NextTold}
use Rattle.printer.specs.Lay.{LayTold}
use Rattle.flag.specs.Flag.{line_of, flag_of}
use Rattle.word.specs.Word.{Answer, word, size_answer, tile_answer, tile_kind, mark_of}
use Rattle.counterfrost.specs.Numbers.{sheet_answer, count_or_offset, lay_answer, record_length, reel_answer, seven_of}

-- SPEC 11.1: the word w is the answer to something that is rightly said
pub record Worded {Said : Type 0} (answer_of : Said → Answer) (Right : Said → Type 0) (w : ℕ) : Type 0 where
  pub said : Said
  pub right : Right said
  pub is : w ≡ word (answer_of said)

-- SPEC 11.1 and 2.4: the house slope of p
abbrev pub HouseWorded : ℕ → ℕ → Type 0
HouseWorded p = Worded size_answer (HouseTold p)

-- SPEC 11.1, 11.5 and 2.4: how a kind, p and l are judged
abbrev pub TakesWorded : ℕ → ℕ → ℕ → ℕ → Type 0
TakesWorded kind p l = Worded size_answer (Judged (tile_kind kind) p l)

-- SPEC 11.1, 5.1 to 5.4 and 5.7: a tile call that leaves the bytes x. The kind goes in as a number, by 11.5, and so do the lines to fill,
-- by 11.3 and 3.5
abbrev pub WriteWorded : ℕ → ℕ → ℕ → List ℕ → List ℕ → ℕ → List ℕ → Type 0
WriteWorded kind p l text tile w x = Worded tile_answer (λ s. WriteTold (tile_kind kind) p l text tile s x) w

abbrev pub ReadWorded : ℕ → ℕ → ℕ → List ℕ → List ℕ → ℕ → List ℕ → Type 0
ReadWorded kind p l tile text w x = Worded tile_answer (λ s. ReadTold (tile_kind kind) p l tile text s x) w

abbrev pub RepairWorded : ℕ → ℕ → ℕ → List ℕ → ℕ → List ℕ → Type 0
RepairWorded kind p l tile w x = Worded tile_answer (λ s. RepairTold (tile_kind kind) p l tile s x) w

abbrev pub RecoverWorded : ℕ → ℕ → ℕ → List ℕ → List ℕ → ℕ → List ℕ → Type 0
RecoverWorded kind p l scan text w x = Worded tile_answer (λ s. RecoverTold (tile_kind kind) p l scan text s x) w

abbrev pub FillWorded : ℕ → ℕ → ℕ → List ℕ → ℕ → ℕ → ℕ → List ℕ → Type 0
FillWorded kind p l tile first second w x = Worded tile_answer (λ s. FillTold (tile_kind kind) p l tile (line_of first) (line_of second) s x) w

-- SPEC 11.1, 11.5 and 5.6: an inspection, which leaves nothing
abbrev pub InspectWorded : ℕ → ℕ → ℕ → List ℕ → ℕ → Type 0
InspectWorded kind p l scan = Worded tile_answer (InspectTold (tile_kind kind) p l scan)

-- SPEC 11.1, 11.3 and 5.5: a judgement, which is told no kind and leaves nothing
abbrev pub JudgeWorded : ℕ → ℕ → List ℕ → List ℕ → ℕ → ℕ → ℕ → Type 0
JudgeWorded p l scan restored first second = Worded tile_answer (JudgeTold p l scan restored (line_of first) (line_of second))

-- SPEC 11.1, 11.2, 6.3 and 6.4: a correction that leaves the tile x, and the number n
abbrev pub CorrectWorded : ℕ → ℕ → ℕ → List ℕ → List ℕ → ℕ → List ℕ → ℕ → Type 0
CorrectWorded kind p l tile sheet w x n = Worded sheet_answer (λ s. CorrectTold (tile_kind kind) p l tile sheet s x × (n ≡ count_or_offset s)) w

-- SPEC 11.1, 11.2 and 7.2: what stands at a place, in seven numbers
abbrev pub NextWorded : List ℕ → ℕ → ℕ → ℕ → ℕ → ℕ → ℕ → ℕ → ℕ → ℕ → Type 0
NextWorded reel at w kind number p l first second from =
    Worded reel_answer (λ s. NextTold reel at s × (record { kind = kind; number = number; p = p; l = l; first = first; second = second; offset = from } ≡ seven_of s)) w

-- SPEC 11.1, 11.2, 11.3, 11.6 and 7.7: the laying of a record that leaves the room x, and the number n
abbrev pub LayWorded : ℕ → ℕ → ℕ → ℕ → ℕ → ℕ → List ℕ → List ℕ → ℕ → List ℕ → ℕ → Type 0
LayWorded which p l number first second tile room w x n =
    Worded lay_answer (λ s. LayTold (record { mark = mark_of which; p = p; l = l; number = number; first = flag_of first; second = flag_of second }) tile room s x
    × (n ≡ record_length s)) w
