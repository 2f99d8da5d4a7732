-- SPEC 10: the worked tiles 1 to 11 in one list, all claimed at once: 1 to 10 as the crate `promise` has them, and 11, which has a sheet.
-- The tiles are at p 5, l 2, written row by row; what is claimed of 11 is decided by a test that is computed, and by the laws that the test
-- is right. Assumes nothing.
use Rattle.std.specs.Prelude.{List, [], ◌∷◌, ℕ, ◌+◌, ◌-◌, ◌%◌, length, get_or}
use Rattle.xor.specs.Xor.{◌⊕◌}
use Rattle.xor.specs.Sum.{xor_below}
use Rattle.code.specs.Tabulate.{tabulate}
use Rattle.code.specs.Tile.{tile_length, place, cell, sum, text_from, text_of, Writes, xored}
use Rattle.residue.specs.Test.{up_to}
use Rattle.code.specs.declared.Kind.{Kind}
use Rattle.size.specs.Shams.{size_5}
use Rattle.promise.specs.Answer as answer
use Rattle.promise.specs.Calls.{RepairTold}
use Rattle.promise.specs.Admit.{admits}
use Rattle.promise.specs.Decide.{Test, so, both, some, below, equal, at_most, same, good, not_good, outside, differing, filling, more_bytes, one_byte, none, no_line, uncrossed, no_filling, Each, each, numbered}
use Rattle.promise.specs.Worked as worked
use Rattle.promise.specs.Worked.{Exactly, exactly, taken_5_2, zeros, text_1, tile_1, tile_4, writing, tested, mends, filled, admitted_tile}
use Rattle.sheet.specs.Sheet.{records, byte_of, Marked, row_of, column_of, given, differences, Placed, SoundBelow}
use Rattle.sheet.specs.Answer.{corrected}
use Rattle.sheet.specs.Calls.{sound, CorrectTold}
use Rattle.sheet.specs.Once.{correct_told_once}

-- ---- the tiles and the sheets

-- SPEC 10, tile 11: the tile of 4, and a sheet that puts 1 for 0 in cell (0, 0); the tile of 1 comes out, hurt in (2, 3) as that of 4 was,
-- and repair answers cell 2 3 again
abbrev pub sheet_11 : List ℕ
sheet_11 = 0xC3 ∷ 0x3C ∷ 0 ∷ 0 ∷ 0 ∷ 0 ∷ 0 ∷ 1 ∷ []

abbrev pub tile_11 : List ℕ
tile_11 = 1 ∷ 0 ∷ 0 ∷ 1 ∷ 0 ∷ 0 ∷ 1 ∷ 1 ∷ 0 ∷ 0 ∷ 1 ∷ 1 ∷ 0 ∷ 0 ∷ 1 ∷ 0 ∷ []

-- and a second record, which puts 1 for 0 in cell (1, 0): text 1 0 / 1 0 / 0 0 / 0 0 is written as 1 0 1 1 / 1 0 0 0 / 0 0 1 1 / 0 0 1 0
abbrev pub sheet_two : List ℕ
sheet_two = 0xC3 ∷ 0x3C ∷ 0 ∷ 0 ∷ 0 ∷ 0 ∷ 0 ∷ 1 ∷ 0xC3 ∷ 0x3C ∷ 0 ∷ 1 ∷ 0 ∷ 0 ∷ 0 ∷ 1 ∷ []

abbrev pub tile_two : List ℕ
tile_two = 1 ∷ 0 ∷ 1 ∷ 1 ∷ 1 ∷ 0 ∷ 0 ∷ 0 ∷ 0 ∷ 0 ∷ 1 ∷ 1 ∷ 0 ∷ 0 ∷ 1 ∷ 0 ∷ []

-- a 2 in cell (0, 0), the very place that is corrected; and the same with 2 XOR 1 there, once it is
abbrev pub hurt_cell : List ℕ
hurt_cell = 2 ∷ 0 ∷ 0 ∷ 0 ∷ 0 ∷ 0 ∷ 0 ∷ 0 ∷ 0 ∷ 0 ∷ 0 ∷ 0 ∷ 0 ∷ 0 ∷ 0 ∷ 0 ∷ []

abbrev pub corrected_cell : List ℕ
corrected_cell = 3 ∷ 0 ∷ 0 ∷ 1 ∷ 0 ∷ 0 ∷ 1 ∷ 1 ∷ 0 ∷ 0 ∷ 1 ∷ 0 ∷ 0 ∷ 0 ∷ 1 ∷ 0 ∷ []

-- ---- the cases

-- a case: one of a tile alone; or a tile, a sheet, the good tile written from its differences, and the tile afterwards, with what repair
-- then says and leaves
pub data Case : Type 0 where
  of_tile : worked.Case → Case
  corrects : List ℕ → List ℕ → List ℕ → List ℕ → answer.Said → List ℕ → Case

-- what a case claims, of either kind
abbrev pub Claim : Case → Type 0
Claim (of_tile c) = worked.Claim c
Claim (corrects tile sheet change new said fixed) =
    Writes 5 2 (differences 5 sheet) change
    × ((k : Kind) → Exactly (CorrectTold k 5 2 tile sheet) (corrected (records sheet)) new × Exactly (RepairTold k 5 2 new) said fixed)

-- cases of tiles alone, before others
abbrev after : List worked.Case → List Case → List Case
after [] ds = ds
after (c ∷ cs) ds = of_tile c ∷ after cs ds

-- tiles 1 to 11
abbrev pub cases : List Case
cases = after worked.cases (corrects tile_4 sheet_11 tile_1 tile_11 (answer.cell 2 3) tile_1 ∷ [])

-- and others: a good tile corrected by one record, and by two; and a tile that is hurt in the corrected place
abbrev pub others : List Case
others =
    corrects zeros sheet_11 tile_1 tile_1 answer.clean tile_1
    ∷ corrects zeros sheet_two tile_two tile_two answer.clean tile_two
    ∷ corrects hurt_cell sheet_11 tile_1 corrected_cell (answer.cell 0 0) tile_1
    ∷ []

-- ---- the tests

-- no record is faulty
unfoldable sound_sheet : (sheet : List ℕ) → Test (SoundBelow 5 sheet (records sheet))
sound_sheet sheet = below (λ k. Marked sheet k × Placed 5 sheet k) (records sheet) (λ k.
    both (both (equal (byte_of sheet k 0) 0xC3) (equal (byte_of sheet k 1) 0x3C)) (both (at_most (row_of sheet k + 2) 5) (at_most (column_of sheet k + 4) 5)))

-- the test of a case
unfoldable case_tested : (c : Case) → Test (Claim c)
case_tested (of_tile c) = tested c
case_tested (corrects tile sheet change new said fixed) =
    so (both (equal (length tile) (tile_length 5)) (both (both (equal (length sheet % 8) 0) (sound_sheet sheet))
    (both (writing (differences 5 sheet) change) (both (same new (xored tile change)) (tested (worked.repairs new said fixed)))))) (λ t.
    let made = t.1.1 in (
      made.0,
      λ k. (
        exactly (CorrectTold k 5 2 tile sheet) (correct_told_once k 5 2 tile sheet) (corrected (records sheet)) new
            (CorrectTold.corrects (admits size_5 (taken_5_2 k) t.0) (sound t.1.0.0 t.1.0.1) (record { change = change; written = made.0; becomes = made.1.0 })),
        made.1.1 k,
      ),
    ))

-- what the tests show
computed : Each Claim cases × Each Claim others
unfolding each case_tested sound_sheet tested mends filled admitted_tile writing some same good not_good outside differing filling more_bytes one_byte none no_line uncrossed no_filling up_to sum cell place text_from text_of xored differences given tabulate xor_below ◌⊕◌
computed = (both (each Claim case_tested cases) (each Claim case_tested others)).shows tt

-- THE WORKED TILES: every claim of the list holds
pub all_worked : Each Claim cases
all_worked = computed.0

-- and every claim of the others
pub others_worked : Each Claim others
others_worked = computed.1

-- the claim of a case by its number in SPEC 10
pub claimed : (k : ℕ) → Claim (get_or cases (k - 1) (of_tile (worked.writes text_1 tile_1 0)))
claimed k = numbered Claim (of_tile (worked.writes text_1 tile_1 0)) all_worked.0 cases all_worked (k - 1)

-- and of the others, from 1 in the order in which they stand above
pub other_claimed : (k : ℕ) → Claim (get_or others (k - 1) (corrects zeros sheet_11 tile_1 tile_1 answer.clean tile_1))
other_claimed k = numbered Claim (corrects zeros sheet_11 tile_1 tile_1 answer.clean tile_1) others_worked.0 others others_worked (k - 1)
