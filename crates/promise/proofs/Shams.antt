-- Wrong programs, each broken by a theorem: no such program meets its contract. Most are caught by a worked tile. Assumes nothing.
use Rattle.std.specs.Prelude.{◌≡◌, refl, List, [], ◌∷◌, ℕ, length}
use Rattle.std.proofs.Common.{arith}
use Rattle.residue.specs.Size.{Size}
use Rattle.code.specs.Tile.{tile_length, text_length, Fills}
use Rattle.code.specs.Kind.{Takes}
use Rattle.code.specs.Count.{Several, only_several}
use Rattle.code.specs.declared.Kind.{Kind}
use Rattle.code.specs.declared.Kind.TheVariants.{New, Old}
use Rattle.code.specs.declared.Line.{Line}
use Rattle.code.specs.declared.Line.TheVariants.{Row, Column}
use Rattle.size.specs.Answer as size
use Rattle.size.specs.Shams.{size_5, size_7, no_at_7_2}
use Rattle.promise.specs.Answer.{Said, done, clean, cell, column, refused}
use Rattle.promise.specs.Calls.{Admitted, judged, no_length, WriteTold, ReadTold, Looked, OneByte, MoreBytes, by_cell, by_column, by_row, RepairTold, InspectTold, RecoverTold, FillTold, JudgeTold}
use Rattle.promise.specs.Admit.{admitted_well, admitted_no}
use Rattle.promise.specs.Name.{line_said, one_or_more}
use Rattle.promise.specs.Once.{repair_told_once, inspect_told_once, recover_told_once}
use Rattle.promise.specs.Promise.{read_after_write, write_refused, recover_refused}
use Rattle.promise.specs.Judged.{unallowed_judged}
use Rattle.promise.specs.Worked.{Exactly, taken_5_2, zeros, text_1, tile_1, text_2, tile_2, tile_4, tile_5, tile_6, tile_8, tile_9, filled_9, tile_10, copied_1, hurt_2}
use Rattle.promise.specs.WorkedOld as old
use Rattle.promise.specs.WorkedJudged.{Judges, judgement}
use Rattle.promise.specs.WorkedRecovered.{nines}
use Rattle.promise.proofs.Worked.{claimed, other_claimed}
use Rattle.promise.proofs.WorkedRecovered.{recovery_claimed}

-- where a call allows one outcome, it does not allow another answer, nor other bytes
module _ {Answer : Type 0} (R : Answer → List ℕ → Type 0) {s : Answer} {x : List ℕ} (told : Exactly R s x) (t : Answer) (y : List ℕ) where
  pub wrong_answer : (t ≡ s → ◌≡◌ {A = ℕ} 0 1) → R t y → ⊥
  wrong_answer f r = let z = f (told.1 t y r).0 in omega arith

  pub wrong_bytes : (y ≡ x → ◌≡◌ {A = ℕ} 0 1) → R t y → ⊥
  wrong_bytes f r = let z = f (told.1 t y r).1 in omega arith

-- ---- repair

-- a repair that says 5 to every tile
pub repair_says_5 : (k : Kind) → RepairTold k 5 2 tile_4 (refused 5) tile_4 → ⊥
repair_says_5 k = wrong_answer (RepairTold k 5 2 tile_4) (claimed 4 k) (refused 5) tile_4 (λ e. cc)

-- a repair that calls every tile clean
pub repair_says_clean : (k : Kind) → RepairTold k 5 2 tile_4 clean tile_4 → ⊥
repair_says_clean k = wrong_answer (RepairTold k 5 2 tile_4) (claimed 4 k) clean tile_4 (λ e. cc)

-- a repair that still says the column of a lone byte, or its row: of any tile, at any size and slope
pub line_of_cell : {k : Kind} {p l i j : ℕ} {tile new : List ℕ} (a : Line) → OneByte p tile new i j → RepairTold k p l tile (line_said a) new → ⊥
line_of_cell (Row r) o (RepairTold.is_hurt h bad (Looked.one u (by_row m))) = one_or_more o m
line_of_cell (Column c) o (RepairTold.is_hurt h bad (Looked.one u (by_column m))) = one_or_more o m

-- one that says a cell where two bytes of a line differ
pub cell_of_two : {k : Kind} {p l i j : ℕ} {tile new : List ℕ} {a : Line} → MoreBytes p tile new a → RepairTold k p l tile (cell i j) new → ⊥
cell_of_two m (RepairTold.is_hurt h bad (Looked.one u (by_cell o))) = one_or_more o m

-- one that exchanges the row and the column
pub cell_exchanged : {k : Kind} {p l i j : ℕ} {tile new : List ℕ} → OneByte p tile new i j → (i ≡ j → ⊥) → RepairTold k p l tile (cell j i) new → ⊥
cell_exchanged o other (RepairTold.is_hurt h bad (Looked.one u (by_cell q))) = other (q.alone _ _ o.here).0

-- a repair that names column 0 where nothing is hurt
pub undamaged_column_0 : (k : Kind) → RepairTold k 5 2 zeros (column 0) zeros → ⊥
undamaged_column_0 k = wrong_answer (RepairTold k 5 2 zeros) (other_claimed 3 k) (column 0) zeros (λ e. cc)

-- a repair that wants all sums to be 0, and so finds tile 2 hurt
pub repair_even_sums : (k : Kind) (said : Said) (new : List ℕ) → (said ≡ clean → ⊥) → RepairTold k 5 2 tile_2 said new → ⊥
repair_even_sums k said new d r = d ((other_claimed 4 k).1 said new r).0

-- a repair that changes tile 2's column 0 by its shifted sums, and leaves the common byte 1 in them, whatever it says
pub common_byte_left : (k : Kind) (said : Said) → RepairTold k 5 2 hurt_2 said (1 ∷ 1 ∷ 1 ∷ 1 ∷ 0 ∷ 0 ∷ 0 ∷ 1 ∷ 1 ∷ 1 ∷ 1 ∷ 0 ∷ 0 ∷ 1 ∷ 1 ∷ 1 ∷ []) → ⊥
common_byte_left k said = wrong_bytes (RepairTold k 5 2 hurt_2) (other_claimed 5 k) said _ (λ e. cc)

-- a repair that takes the first line along which the two sums agree that the search begins with: of tile 6, whose row 0 is hurt, column 1
pub two_sums_alone : (k : Kind) (new : List ℕ) → RepairTold k 5 2 tile_6 (column 1) new → ⊥
two_sums_alone k new = wrong_answer (RepairTold k 5 2 tile_6) (claimed 6 k) (column 1) new (λ e. cc)

-- ---- fill

-- a fill that says 5 to every tile
pub fill_says_5 : (k : Kind) → FillTold k 5 2 tile_9 (Row 0) (Column 0) (refused 5) tile_9 → ⊥
fill_says_5 k = wrong_answer (FillTold k 5 2 tile_9 (Row 0) (Column 0)) (claimed 9 k) (refused 5) tile_9 (λ e. cc)

-- a fill that takes every row with a column to have a filling
pub fills_untested : (k : Kind) (new : List ℕ) → FillTold k 5 2 tile_10 (Row 0) (Column 0) done new → ⊥
fills_untested k new = wrong_answer (FillTold k 5 2 tile_10 (Row 0) (Column 0)) (claimed 10 k) done new (λ e. cc)

-- ---- what is doubtful

-- a fill that takes the first of two fillings, as the old reader did: of any tile, at any size and slope
pub takes_first : {k : Kind} {p l : ℕ} {a b : Line} {tile new : List ℕ} → Several (Fills p l a b tile) → FillTold k p l tile a b done new → ⊥
takes_first d (FillTold.has_lines h ha hb (Looked.one o q)) = only_several o d

-- one that says 5 where there are two
pub two_as_none : (new : List ℕ) → FillTold Old 7 2 old.zeros (Row 0) (Column 0) (refused 5) new → ⊥
two_as_none new = wrong_answer (FillTold Old 7 2 old.zeros (Row 0) (Column 0)) old.worked_13 (refused 5) new (λ e. cc)

-- one that says 8 of every row with a column at an old slope, or that looks at the crossing alone
pub always_8 : (new : List ℕ) → FillTold Old 7 2 old.tile_15 (Row 0) (Column 0) (refused 8) new → ⊥
always_8 new = wrong_answer (FillTold Old 7 2 old.tile_15 (Row 0) (Column 0)) old.worked_15 (refused 8) new (λ e. cc)

-- a repair that takes the column where a row explains the tile too, by another one; and one that says 5 there
pub takes_column : (new : List ℕ) → RepairTold Old 7 2 old.tile_14 (column 0) new → ⊥
takes_column new = wrong_answer (RepairTold Old 7 2 old.tile_14) old.worked_14 (column 0) new (λ e. cc)

pub doubtful_as_5 : (new : List ℕ) → RepairTold Old 7 2 old.tile_14 (refused 5) new → ⊥
doubtful_as_5 new = wrong_answer (RepairTold Old 7 2 old.tile_14) old.worked_14 (refused 5) new (λ e. cc)

-- one that counts lines, and not tiles, and so says 8 of a lone byte
pub counts_lines : (new : List ℕ) → RepairTold Old 7 2 old.tile_15 (refused 8) new → ⊥
counts_lines new = wrong_answer (RepairTold Old 7 2 old.tile_15) old.worked_16 (refused 8) new (λ e. cc)

-- a reader that refuses an old slope with 2
pub old_refused : (page new : List ℕ) → length page ≡ text_length 7 → ReadTold Old 7 2 old.E page (refused 2) new → ⊥
old_refused page new e = wrong_answer (ReadTold Old 7 2 old.E page) ((old.worked_17).1 page e) (refused 2) new (λ q. cc)

-- one that takes an old slope for a new tile
pub new_taken : (page new : List ℕ) → ReadTold New 7 2 old.E page done new → ⊥
new_taken page new (ReadTold.reads h g) = no_at_7_2 (admitted_well h).1

-- ---- inspect and recover

-- where inspect says one thing, it does not say another
misinspected : {k : Kind} {p l : ℕ} {scan : List ℕ} {s : Said} → InspectTold k p l scan s → (t : Said) → (t ≡ s → ◌≡◌ {A = ℕ} 0 1) → InspectTold k p l scan t → ⊥
misinspected {k} {p} {l} {scan} {s} told t f r = let z = f (inspect_told_once k p l scan t s r told) in omega arith

-- an inspector that finds every tile clean
pub inspects_clean : (k : Kind) → InspectTold k 5 2 tile_4 clean → ⊥
inspects_clean k = misinspected (recovery_claimed 26 k).1 clean (λ e. cc)

-- one that stops at the column of a lone byte
pub inspects_column : (k : Kind) → InspectTold k 5 2 tile_4 (column 3) → ⊥
inspects_column k = misinspected (recovery_claimed 26 k).1 (column 3) (λ e. cc)

-- one that names the column of a doubtful tile, and does not look at the rows
pub inspects_first : InspectTold Old 7 2 old.tile_14 (column 0) → ⊥
inspects_first t = takes_column t.tile t.told

-- a recovery that reads the scan as it stands: column 0 of tile 5 is hurt, and its bytes are left in the text
pub reads_unrepaired : (k : Kind) (said : Said) → RecoverTold k 5 2 tile_5 nines said (1 ∷ 0 ∷ 1 ∷ 0 ∷ 0 ∷ 0 ∷ 0 ∷ 0 ∷ []) → ⊥
reads_unrepaired k said = wrong_bytes (RecoverTold k 5 2 tile_5 nines) (recovery_claimed 27 k).0 said _ (λ e. cc)

-- one that mends the column beside the hurt one
pub wrong_column : (k : Kind) (said : Said) → RecoverTold k 5 2 tile_5 nines said (1 ∷ 1 ∷ 1 ∷ 1 ∷ 0 ∷ 0 ∷ 0 ∷ 0 ∷ []) → ⊥
wrong_column k said = wrong_bytes (RecoverTold k 5 2 tile_5 nines) (recovery_claimed 27 k).0 said _ (λ e. cc)

-- one that adds the change of a check column to the text
pub check_in_text : (k : Kind) (said : Said) → RecoverTold k 5 2 tile_8 nines said (1 ∷ 1 ∷ 0 ∷ 0 ∷ 0 ∷ 0 ∷ 0 ∷ 1 ∷ []) → ⊥
check_in_text k said = wrong_bytes (RecoverTold k 5 2 tile_8 nines) (recovery_claimed 29 k).0 said _ (λ e. cc)

-- one that writes to the text though it refuses: of any scan, at any size and slope, and with any number
pub leaves_text : {k : Kind} {p l n : ℕ} {scan text new : List ℕ} → (new ≡ text → ⊥) → RecoverTold k p l scan text (refused n) new → ⊥
leaves_text d r = d (recover_refused r)

-- one that looks at the scan before the text's length, and so does not say 3 where that is wrong
pub text_length_last : {k : Kind} {p l : ℕ} {scan text new : List ℕ} (said : Said) → Size p → Takes k p l → (length text ≡ text_length p → ⊥)
    → (said ≡ refused 3 → ⊥) → RecoverTold k p l scan text said new → ⊥
text_length_last {k} {p} {l} {scan} {text} {new} said s w f d r =
    d (recover_told_once k p l scan text said (refused 3) new text r (RecoverTold.refuses (no_length (size.taken s w) (λ e. f e.1)))).0

-- ---- judge

-- where judge says one thing, it does not say another
misjudged : {x : List ℕ} {a b : Line} {s : Said} → Judges x a b s → (t : Said) → (t ≡ s → ◌≡◌ {A = ℕ} 0 1) → JudgeTold 5 2 tile_9 x a b t → ⊥
misjudged told t f r = let z = f (told.1 t r) in omega arith

-- a judge that accepts every good tile
pub accepts_good : JudgeTold 5 2 tile_9 zeros (Row 0) (Column 0) done → ⊥
accepts_good = misjudged (judgement 19) done (λ e. cc)

-- one that accepts a tile that equals the scan elsewhere, good or not
pub accepts_spoiled : JudgeTold 5 2 tile_9 tile_9 (Row 0) (Column 0) done → ⊥
accepts_spoiled = misjudged (judgement 20) done (λ e. cc)

-- one that names 11 before 10
pub elsewhere_first : JudgeTold 5 2 tile_9 tile_4 (Row 0) (Column 0) (refused 11) → ⊥
elsewhere_first = misjudged (judgement 21) (refused 11) (λ e. cc)

-- one that looks at one of the two lines alone, and so refuses what differs on the other
pub one_line_alone : JudgeTold 5 2 tile_9 filled_9 (Row 0) (Column 0) (refused 11) → ⊥
one_line_alone = misjudged (judgement 18) (refused 11) (λ e. cc)

-- one that takes old slopes, and so says anything but 2 there, whatever the tiles and the lines
pub judges_old : {scan restored : List ℕ} {a b : Line} (said : Said) → (said ≡ refused 2 → ⊥) → JudgeTold 7 2 scan restored a b said → ⊥
judges_old said d r = d (unallowed_judged size_7 no_at_7_2 r)

-- ---- write and read

-- what writing texts 1 and 2 into zeros gives
written_1 : (k : Kind) → Exactly (WriteTold k 5 2 text_1 zeros) done tile_1
written_1 k = (claimed 1).0 k zeros refl

written_2 : (k : Kind) → Exactly (WriteTold k 5 2 text_2 zeros) done tile_2
written_2 k = (claimed 2).0 k zeros refl

-- a writer that lays the text in and makes no checks
pub copies_text : (k : Kind) → WriteTold k 5 2 text_1 zeros done copied_1 → ⊥
copies_text k = wrong_bytes (WriteTold k 5 2 text_1 zeros) (written_1 k) done copied_1 (λ e. cc)

-- a writer that makes a good tile with another text
pub other_text : (k : Kind) → WriteTold k 5 2 text_1 zeros done tile_2 → ⊥
other_text k = wrong_bytes (WriteTold k 5 2 text_1 zeros) (written_1 k) done tile_2 (λ e. cc)

-- a reader that gives one text for every tile
pub same_text : (k : Kind) (page text : List ℕ) (said : Said) → length page ≡ text_length 5
    → ReadTold k 5 2 tile_1 page said text → ReadTold k 5 2 tile_2 page said text → ⊥
same_text k page text said e r q =
    let a = (read_after_write k 5 2 text_1 zeros tile_1 page said text (written_1 k).0 e r).1 in
    let b = (read_after_write k 5 2 text_2 zeros tile_2 page said text (written_2 k).0 e q).1 in
    let z : ◌≡◌ {A = ℕ} 0 1 = cc in omega arith

-- a reader that wants all sums to be 0, and so refuses tile 2
pub read_even_sums : (k : Kind) (page new : List ℕ) → length page ≡ text_length 5 → ReadTold k 5 2 tile_2 page (refused 5) new → ⊥
read_even_sums k page new e r =
    let a = (read_after_write k 5 2 text_2 zeros tile_2 page (refused 5) new (written_2 k).0 e r).0 in
    let z : ◌≡◌ {A = ℕ} 0 1 = cc in omega arith

-- ---- refusals

-- a call that refuses the slope 0 and changes the tile all the same
pub refused_changed : (k : Kind) → WriteTold k 5 0 text_1 zeros (refused 2) tile_1 → ⊥
refused_changed k r = let e = write_refused r in let z : ◌≡◌ {A = ℕ} 0 1 = cc in omega arith

-- the slope 0 is refused with 2, whatever the tile's length ..
slope_0 : (k : Kind) (tile : List ℕ) → RepairTold k 5 0 tile (refused 2) tile
slope_0 k tile = RepairTold.refuses (judged (size.no_slope size_5 (no_0 k)))
  where
    no_0 : (k : Kind) → Takes k 5 0 → ⊥
    no_0 New a = omega (arith, a.low)
    no_0 Old t = omega arith

-- .. so not by a call that refuses a wrong length before a wrong slope
pub length_first : (k : Kind) (tile new : List ℕ) → RepairTold k 5 0 tile (refused 3) new → ⊥
length_first k tile new r =
    let e = (repair_told_once k 5 0 tile (refused 3) (refused 2) new tile r (slope_0 k tile)).0 in
    let z : ◌≡◌ {A = ℕ} 3 2 = cc in omega arith

-- ---- the judgement of size, slope and length

-- one that takes tiles that are too short
pub takes_12 : (k : Kind) → Admitted k 5 2 (12 ≡ tile_length 5) size.well → ⊥
takes_12 k a = let e = (admitted_well a).2 in omega arith

-- one that refuses tiles of the right length
pub refuses_16 : (k : Kind) (n : ℕ) → Admitted k 5 2 (16 ≡ tile_length 5) (size.refused n) → ⊥
refuses_16 k n a = admitted_no a (size_5, taken_5_2 k, refl)
