-- Wrong programs, each broken by a theorem: no such program meets its contract. Assumes nothing.
use Rattle.std.specs.Prelude.{◌≡◌, List, ◌++◌, ℕ, get_or}
use Rattle.std.proofs.Common.{sym, ap, ◌∙◌, arith}
use Rattle.std.proofs.lemmas.List.{append_cancel_left, append_cancel_right}
use Rattle.promise.specs.Answer.{done, clean, cell, column, refused}
use Rattle.lettering.specs.Line.{ascii, space, lf, decimal, tile_line, end_line, stopped_line}
use Rattle.lettering.specs.Decimal.{decimal_once}
use Rattle.listing.specs.Worked.{tile_7, tile_8, column_3, refused_8, filled_9, stopped_7, end_0, lone_second_line, good_line}
use Rattle.listing.specs.Listing.{TileListed}
use Rattle.reel.specs.Worked.{flag_case}

-- a line that is a text has its signs: the k-th of them
sign : {line text : List ℕ} → line ≡ text → {right wrong : List ℕ} → text ≡ right → line ≡ wrong → (k : ℕ) → get_or right k 0 ≡ get_or wrong k 0
sign line_is is said k = ap (λ (x : List ℕ). get_or x k 0) (sym is ∙ sym line_is ∙ said)

module _ {line : List ℕ} where
  -- ---- the line of a tile

  -- a number with a leading zero
  pub leading_zero : line ≡ tile_line 7 5 2 clean → line ≡ ascii "07 5 2 clean\n" → ⊥
  leading_zero is said = let z = sign is tile_7 said 0 in omega arith

  -- the row's word for a column
  pub row_for_column : line ≡ tile_line 8 5 2 (column 3) → line ≡ ascii "8 5 2 row 3\n" → ⊥
  row_for_column is said = let z = sign is column_3 said 6 in omega arith

  -- a cell by its column alone, and a cell with its column first
  pub column_for_cell : line ≡ tile_line 8 5 2 (cell 2 3) → line ≡ ascii "8 5 2 column 3\n" → ⊥
  column_for_cell is said = let z = sign is tile_8 said 7 in omega arith

  pub cell_exchanged : line ≡ tile_line 8 5 2 (cell 2 3) → line ≡ ascii "8 5 2 cell 3 2\n" → ⊥
  cell_exchanged is said = let z = sign is tile_8 said 11 in omega arith

  -- the number 5 for a doubtful tile
  pub five_for_eight : line ≡ tile_line 9 7 2 (refused 8) → line ≡ ascii "9 7 2 refused 5\n" → ⊥
  five_for_eight is said = let z = sign is refused_8 said 14 in omega arith

  -- a filling that is told as a clean tile
  pub clean_for_filled : line ≡ tile_line 9 5 2 done → line ≡ ascii "9 5 2 clean\n" → ⊥
  clean_for_filled is said = let z = sign is filled_9 said 6 in omega arith

  -- a line without its LF
  pub no_lf : line ≡ tile_line 7 5 2 clean → line ≡ ascii "7 5 2 clean" → ⊥
  no_lf is said = let z = sign is tile_7 said 11 in omega arith

  -- ---- the closing line at the end

  -- the count before the word
  pub count_first : line ≡ end_line 0 → line ≡ ascii "0 end\n" → ⊥
  count_first is said = let z = sign is end_0 said 0 in omega arith

  -- an invented count, whatever the right one is
  pub invented_count : (m n : ℕ) → (m ≡ n → ⊥) → line ≡ end_line n → line ≡ end_line m → ⊥
  unfolding end_line
  invented_count m n other is said =
      other (decimal_once m n (append_cancel_right (decimal m) (decimal n) lf (append_cancel_left (ascii "end" ++ space) _ _ (sym said ∙ is))))

  -- ---- the closing line at a refusal

  -- the offset before the refusal's number
  pub offset_first : line ≡ stopped_line 7 52 → line ≡ ascii "stopped 52 7\n" → ⊥
  offset_first is said = let z = sign is stopped_7 said 8 in omega arith

  -- an offset that counts from the record's own first byte
  pub offset_from_record : line ≡ stopped_line 7 52 → line ≡ ascii "stopped 7 0\n" → ⊥
  offset_from_record is said = let z = sign is stopped_7 said 10 in omega arith

-- ---- of what is listed

-- a listing that passes over the flags, and repairs: tile 10 of the reel with flags, whose lone flag is the second
pub flags_passed_over : TileListed flag_case 30 (ascii "10 5 2 row 0\n") → ⊥
flags_passed_over listed = let z = ap (λ (x : List ℕ). get_or x 7 0) (lone_second_line.1 (ascii "10 5 2 row 0\n") listed) in omega arith

-- one that looks at the tile first, and tells a good one clean though it has a flag
pub good_told_clean : TileListed flag_case 60 (ascii "11 5 2 clean\n") → ⊥
good_told_clean listed = let z = ap (λ (x : List ℕ). get_or x 7 0) (good_line.1 (ascii "11 5 2 clean\n") listed) in omega arith
