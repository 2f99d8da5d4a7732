-- SPEC 10: the old worked tiles, 13 to 17, at p 7 and l 2, whose powers miss 3, 5 and 6. Each claim is decided by tests that are computed.
-- Assumes nothing.
use Rattle.std.specs.Prelude.{◌≡◌, refl, List, [], ◌∷◌, ℕ, length, get_or}
use Rattle.std.proofs.Common.{ap, arith}
use Rattle.xor.specs.Xor.{◌⊕◌}
use Rattle.xor.specs.Sum.{xor_below}
use Rattle.residue.specs.Test.{up_to}
use Rattle.residue.specs.Order.{Order}
use Rattle.code.specs.Slope.{Slope}
use Rattle.code.specs.Kind.{taken_slope}
use Rattle.code.specs.Tile.{text_length, place, cell, sum, Good, text_of, EqualOutsideBoth, Fills}
use Rattle.code.specs.Classes.{class_sum}
use Rattle.code.specs.Count.{None}
use Rattle.code.specs.Margin.{TwoGood}
use Rattle.code.specs.declared.Kind.TheVariants.{Old}
use Rattle.code.specs.declared.Line.TheVariants.{Row, Column}
use Rattle.size.specs.Answer as size
use Rattle.size.specs.Shams.{size_7}
use Rattle.promise.specs.Answer.{Said, done, clean, refused}
use Rattle.promise.specs.Calls.{Admitted, TileLength, ReadTold, Looked, Explains, OneByte, by_cell, RepairTold, FillTold}
use Rattle.promise.specs.Admit.{admits}
use Rattle.promise.specs.Doubt.{cell_only, repairs}
use Rattle.promise.specs.Once.{read_told_once, repair_told_once, fill_told_once}
use Rattle.promise.specs.Decide.{good, outside, differing, filling, explaining, one_byte, no_filling, uncrossed, order_is}
use Rattle.promise.specs.Worked.{Exactly, exactly}

-- ---- the tiles

abbrev pub zeros : List ℕ
zeros =
    0 ∷ 0 ∷ 0 ∷ 0 ∷ 0 ∷ 0
    ∷ 0 ∷ 0 ∷ 0 ∷ 0 ∷ 0 ∷ 0
    ∷ 0 ∷ 0 ∷ 0 ∷ 0 ∷ 0 ∷ 0
    ∷ 0 ∷ 0 ∷ 0 ∷ 0 ∷ 0 ∷ 0
    ∷ 0 ∷ 0 ∷ 0 ∷ 0 ∷ 0 ∷ 0
    ∷ 0 ∷ 0 ∷ 0 ∷ 0 ∷ 0 ∷ 0
    ∷ []

-- SPEC 10: E, a good tile that is 0 outside row 0 and column 0
abbrev pub E : List ℕ
E =
    0 ∷ 1 ∷ 1 ∷ 0 ∷ 1 ∷ 0
    ∷ 1 ∷ 0 ∷ 0 ∷ 0 ∷ 0 ∷ 0
    ∷ 1 ∷ 0 ∷ 0 ∷ 0 ∷ 0 ∷ 0
    ∷ 0 ∷ 0 ∷ 0 ∷ 0 ∷ 0 ∷ 0
    ∷ 1 ∷ 0 ∷ 0 ∷ 0 ∷ 0 ∷ 0
    ∷ 0 ∷ 0 ∷ 0 ∷ 0 ∷ 0 ∷ 0
    ∷ []

-- SPEC 10, tile 14: E's column 0 alone
abbrev pub tile_14 : List ℕ
tile_14 =
    0 ∷ 0 ∷ 0 ∷ 0 ∷ 0 ∷ 0
    ∷ 1 ∷ 0 ∷ 0 ∷ 0 ∷ 0 ∷ 0
    ∷ 1 ∷ 0 ∷ 0 ∷ 0 ∷ 0 ∷ 0
    ∷ 0 ∷ 0 ∷ 0 ∷ 0 ∷ 0 ∷ 0
    ∷ 1 ∷ 0 ∷ 0 ∷ 0 ∷ 0 ∷ 0
    ∷ 0 ∷ 0 ∷ 0 ∷ 0 ∷ 0 ∷ 0
    ∷ []

-- SPEC 10, tiles 15 and 16: a 1 in cell (1, 1) alone
abbrev pub tile_15 : List ℕ
tile_15 =
    0 ∷ 0 ∷ 0 ∷ 0 ∷ 0 ∷ 0
    ∷ 0 ∷ 1 ∷ 0 ∷ 0 ∷ 0 ∷ 0
    ∷ 0 ∷ 0 ∷ 0 ∷ 0 ∷ 0 ∷ 0
    ∷ 0 ∷ 0 ∷ 0 ∷ 0 ∷ 0 ∷ 0
    ∷ 0 ∷ 0 ∷ 0 ∷ 0 ∷ 0 ∷ 0
    ∷ 0 ∷ 0 ∷ 0 ∷ 0 ∷ 0 ∷ 0
    ∷ []

-- ---- what the tests show

-- 2 is a slope at 7, and its third power is the first that is 1
slope_7_2 : Slope 7 2
slope_7_2 = taken_slope Old 7 2 size_7 (omega arith, omega arith)

pub order_7_2 : Order 7 2 3
unfolding order_is up_to
order_7_2 = (order_is 7 2 3).shows tt

-- zeros and E both fill row 0 and column 0 of zeros; column 0 explains tile 14 by zeros, row 0 by E; no filling has tile 15, as the offset
-- 1 shows, and a 1 in one cell is all that it has; E is good
record Tested : Type 0 where
  by_zeros : Fills 7 2 (Row 0) (Column 0) zeros zeros
  by_e : Fills 7 2 (Row 0) (Column 0) zeros E
  column_14 : Explains 7 2 (Column 0) tile_14 zeros
  row_14 : Explains 7 2 (Row 0) tile_14 E
  cell_16 : Explains 7 2 (Column 1) tile_15 zeros
  one_16 : OneByte 7 tile_15 zeros 1 1
  good_e : Good 7 2 E

computed : Tested
unfolding good outside differing filling one_byte up_to sum cell place xor_below ◌⊕◌
computed = record {
  by_zeros = (filling 7 2 (Row 0) (Column 0) zeros zeros).shows tt;
  by_e = (filling 7 2 (Row 0) (Column 0) zeros E).shows tt;
  column_14 = (explaining 7 2 (Column 0) tile_14 zeros).shows tt;
  row_14 = (explaining 7 2 (Row 0) tile_14 E).shows tt;
  cell_16 = (explaining 7 2 (Column 1) tile_15 zeros).shows tt;
  one_16 = (one_byte 7 tile_15 zeros 1 1).shows tt;
  good_e = (good 7 2 E).shows tt;
}

unfilled_15 : None (Fills 7 2 (Row 0) (Column 0) tile_15)
unfolding no_filling uncrossed class_sum up_to sum cell place xor_below ◌⊕◌
unfilled_15 = (no_filling 7 2 3 slope_7_2 order_7_2 1 (Row 0) (Column 0) tile_15).shows tt (omega arith) (omega arith)

apart : zeros ≡ E → ⊥
apart e = let q : get_or zeros 1 0 ≡ get_or E 1 0 = ap (λ (x : List ℕ). get_or x 1 0) e in omega arith

-- ---- the claims

-- a tile of 36 bytes is admitted
admitted_7 : (x : List ℕ) → length x ≡ 36 → Admitted Old 7 2 (TileLength 7 x) size.well
admitted_7 x e = admits size_7 (omega arith, omega arith) e

-- SPEC 10, tile 13: two fillings, refused 8
pub worked_13 : Exactly (FillTold Old 7 2 zeros (Row 0) (Column 0)) (refused 8) zeros
worked_13 = exactly (FillTold Old 7 2 zeros (Row 0) (Column 0)) (fill_told_once Old 7 2 zeros (Row 0) (Column 0)) (refused 8) zeros
    (FillTold.has_lines (admitted_7 zeros refl) (omega arith) (omega arith)
    (Looked.several (record { one = zeros; other = E; is = computed.by_zeros; is_other = computed.by_e; apart = apart })))

-- SPEC 10, tile 14: a column and a row explain it by different tiles, refused 8
pub worked_14 : Exactly (RepairTold Old 7 2 tile_14) (refused 8) tile_14
worked_14 = exactly (RepairTold Old 7 2 tile_14) (repair_told_once Old 7 2 tile_14) (refused 8) tile_14
    (repairs (admitted_7 tile_14 refl) (Looked.several (record {
      one = zeros;
      other = E;
      is = record { line = Column 0; explains = computed.column_14 };
      is_other = record { line = Row 0; explains = computed.row_14 };
      apart = apart;
    })))

-- SPEC 10, tile 15: the crossing agrees, and yet there is no filling, refused 5
pub worked_15 : Exactly (FillTold Old 7 2 tile_15 (Row 0) (Column 0)) (refused 5) tile_15
worked_15 = exactly (FillTold Old 7 2 tile_15 (Row 0) (Column 0)) (fill_told_once Old 7 2 tile_15 (Row 0) (Column 0)) (refused 5) tile_15
    (FillTold.has_lines (admitted_7 tile_15 refl) (omega arith) (omega arith) (Looked.none unfilled_15))

-- SPEC 10, tile 16: a row and a column explain it by the same tile, cell 1 1
pub worked_16 : Exactly (RepairTold Old 7 2 tile_15) (Said.cell 1 1) zeros
worked_16 = exactly (RepairTold Old 7 2 tile_15) (repair_told_once Old 7 2 tile_15) (Said.cell 1 1) zeros
    (repairs (admitted_7 tile_15 refl)
    (Looked.one (cell_only 7 2 tile_15 slope_7_2 (Column 1) computed.cell_16 computed.one_16) (by_cell computed.one_16)))

-- SPEC 10, tile 17: nothing is doubtful about a good tile: it is clean, and its text is read
pub worked_17 : Exactly (RepairTold Old 7 2 E) clean E
    × ((page : List ℕ) → length page ≡ text_length 7 → Exactly (ReadTold Old 7 2 E page) done (text_of 7 E))
worked_17 = (
  exactly (RepairTold Old 7 2 E) (repair_told_once Old 7 2 E) clean E (RepairTold.is_good (admitted_7 E refl) computed.good_e),
  λ page e. exactly (ReadTold Old 7 2 E page) (read_told_once Old 7 2 E page) done (text_of 7 E)
      (ReadTold.reads (admits size_7 (omega arith, omega arith) (refl, e)) computed.good_e),
)

-- SPEC 10, the margin: zeros and E are good and different, and agree outside row 0 and column 0
pub worked_old_pair : TwoGood 7 2 zeros E × EqualOutsideBoth 7 (Row 0) (Column 0) zeros E
worked_old_pair =
    (record { size = refl; size_other = refl; good = computed.by_zeros.good; good_other = computed.good_e; apart = apart }, computed.by_e.agrees)
