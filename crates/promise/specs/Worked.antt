-- SPEC 10: the worked tiles 1 to 10 in one list, all claimed at once (tile 11, whose sheet stands above this crate, joins them in
-- `sheet/specs/Worked.antt`, and the old tiles 13 to 17 stand in `WorkedOld`). The tiles are at p 5, l 2, written row by row, and every
-- claim is of both kinds; each is decided by a test that is computed, and the laws that the test is right. That every claim holds is
-- `Worked` of proofs/. Assumes nothing.
use Rattle.std.specs.Prelude.{◌≡◌, refl, List, [], ◌∷◌, ℕ, ◌+◌, length}
use Rattle.std.proofs.Common.{sym, ap, ◌∙◌, inr, arith}
use Rattle.code.specs.Tile.{tile_length, Good, text_length, text_of, Writes}
use Rattle.residue.specs.Test.{up_to}
use Rattle.residue.specs.Order.{Order}
use Rattle.code.specs.Slope.{Slope}
use Rattle.code.specs.Kind.{Takes, taken_slope, allowed_taken}
use Rattle.code.specs.Count.{Only, once_only}
use Rattle.code.specs.Fillings.{fills_once}
use Rattle.code.specs.Place.{text_length_lem}
use Rattle.code.specs.OneLine.{number}
use Rattle.code.specs.declared.Kind.{Kind}
use Rattle.code.specs.declared.Kind.TheVariants.{New}
use Rattle.code.specs.declared.Line.{Line}
use Rattle.code.specs.declared.Line.TheVariants.{Row, Column}
use Rattle.size.specs.Answer as size
use Rattle.size.specs.Shams.{size_5, at_5_2}
use Rattle.promise.specs.Answer.{Said, done, clean, column, row, refused}
use Rattle.promise.specs.Calls.{Admitted, TileLength, WriteTold, ReadTold, Looked, Explains, ByLine, by_cell, by_column, by_row, RepairTold, FillTold}
use Rattle.promise.specs.Admit.{admits}
use Rattle.promise.specs.Doubt as doubt
use Rattle.promise.specs.Once.{Single, write_told_once, read_told_once, repair_told_once, fill_told_once}
use Rattle.promise.specs.Decide.{Test, never, so, both, equal, at_most, same, sum_of, good, common_is, not_good, filling, explaining, more_bytes, one_byte, no_line, no_filling, order_is}

-- ---- the tiles

-- zeros
abbrev pub zeros : List ℕ
zeros = 0 ∷ 0 ∷ 0 ∷ 0 ∷ 0 ∷ 0 ∷ 0 ∷ 0 ∷ 0 ∷ 0 ∷ 0 ∷ 0 ∷ 0 ∷ 0 ∷ 0 ∷ 0 ∷ []

-- SPEC 10, tile 1: text 1 0 / 0 0 / 0 0 / 0 0 is written as 1 0 0 1 / 0 0 1 1 / 0 0 1 0 / 0 0 1 0, all sums 0
abbrev pub text_1 : List ℕ
text_1 = 1 ∷ 0 ∷ 0 ∷ 0 ∷ 0 ∷ 0 ∷ 0 ∷ 0 ∷ []

abbrev pub tile_1 : List ℕ
tile_1 = 1 ∷ 0 ∷ 0 ∷ 1 ∷ 0 ∷ 0 ∷ 1 ∷ 1 ∷ 0 ∷ 0 ∷ 1 ∷ 0 ∷ 0 ∷ 0 ∷ 1 ∷ 0 ∷ []

-- SPEC 10, tile 2: text 0 1 / 1 0 / 0 1 / 1 1 is written as 0 1 1 1 / 1 0 0 1 / 0 1 1 0 / 1 1 1 1, all sums 1 (the paper's example 2.1)
abbrev pub text_2 : List ℕ
text_2 = 0 ∷ 1 ∷ 1 ∷ 0 ∷ 0 ∷ 1 ∷ 1 ∷ 1 ∷ []

abbrev pub tile_2 : List ℕ
tile_2 = 0 ∷ 1 ∷ 1 ∷ 1 ∷ 1 ∷ 0 ∷ 0 ∷ 1 ∷ 0 ∷ 1 ∷ 1 ∷ 0 ∷ 1 ∷ 1 ∷ 1 ∷ 1 ∷ []

-- SPEC 10, tile 3: text 1 2 / 2 0 / 0 2 / 2 2 is written as 1 2 2 3 / 2 0 1 3 / 0 2 3 0 / 2 2 3 2, all sums 2
abbrev pub text_3 : List ℕ
text_3 = 1 ∷ 2 ∷ 2 ∷ 0 ∷ 0 ∷ 2 ∷ 2 ∷ 2 ∷ []

abbrev pub tile_3 : List ℕ
tile_3 = 1 ∷ 2 ∷ 2 ∷ 3 ∷ 2 ∷ 0 ∷ 1 ∷ 3 ∷ 0 ∷ 2 ∷ 3 ∷ 0 ∷ 2 ∷ 2 ∷ 3 ∷ 2 ∷ []

-- SPEC 10, tile 4: a 1 in cell (2, 3) alone; repair answers cell 2 3 and leaves zeros
abbrev pub tile_4 : List ℕ
tile_4 = 0 ∷ 0 ∷ 0 ∷ 0 ∷ 0 ∷ 0 ∷ 0 ∷ 0 ∷ 0 ∷ 0 ∷ 0 ∷ 1 ∷ 0 ∷ 0 ∷ 0 ∷ 0 ∷ []

-- SPEC 10, tile 5: a 1 in cells (0, 0) and (1, 0); column 0, and zeros are left
abbrev pub tile_5 : List ℕ
tile_5 = 1 ∷ 0 ∷ 0 ∷ 0 ∷ 1 ∷ 0 ∷ 0 ∷ 0 ∷ 0 ∷ 0 ∷ 0 ∷ 0 ∷ 0 ∷ 0 ∷ 0 ∷ 0 ∷ []

-- SPEC 10, tile 6: a 1 in cells (0, 0) and (0, 1); row 0, and zeros are left
abbrev pub tile_6 : List ℕ
tile_6 = 1 ∷ 1 ∷ 0 ∷ 0 ∷ 0 ∷ 0 ∷ 0 ∷ 0 ∷ 0 ∷ 0 ∷ 0 ∷ 0 ∷ 0 ∷ 0 ∷ 0 ∷ 0 ∷ []

-- SPEC 10, tile 7: a 1 in cells (0, 0) and (1, 2), which no line explains; refused 5
abbrev pub tile_7 : List ℕ
tile_7 = 1 ∷ 0 ∷ 0 ∷ 0 ∷ 0 ∷ 0 ∷ 1 ∷ 0 ∷ 0 ∷ 0 ∷ 0 ∷ 0 ∷ 0 ∷ 0 ∷ 0 ∷ 0 ∷ []

-- SPEC 10, tile 8: a 1 in cells (0, 0) and (1, 1); column 3, into which a 1 is put in rows 0, 1 and 3
abbrev pub tile_8 : List ℕ
tile_8 = 1 ∷ 0 ∷ 0 ∷ 0 ∷ 0 ∷ 1 ∷ 0 ∷ 0 ∷ 0 ∷ 0 ∷ 0 ∷ 0 ∷ 0 ∷ 0 ∷ 0 ∷ 0 ∷ []

abbrev pub repaired_8 : List ℕ
repaired_8 = 1 ∷ 0 ∷ 0 ∷ 1 ∷ 0 ∷ 1 ∷ 0 ∷ 1 ∷ 0 ∷ 0 ∷ 0 ∷ 0 ∷ 0 ∷ 0 ∷ 0 ∷ 1 ∷ []

-- SPEC 10, tile 9: row 0 and column 0 are lost, and of the other cells (1, 1) has a 1; filled, it is 0 1 0 1 / 1 1 0 0 / 1 0 0 0 / 1 0 0 0
abbrev pub tile_9 : List ℕ
tile_9 = 0 ∷ 0 ∷ 0 ∷ 0 ∷ 0 ∷ 1 ∷ 0 ∷ 0 ∷ 0 ∷ 0 ∷ 0 ∷ 0 ∷ 0 ∷ 0 ∷ 0 ∷ 0 ∷ []

abbrev pub filled_9 : List ℕ
filled_9 = 0 ∷ 1 ∷ 0 ∷ 1 ∷ 1 ∷ 1 ∷ 0 ∷ 0 ∷ 1 ∷ 0 ∷ 0 ∷ 0 ∷ 1 ∷ 0 ∷ 0 ∷ 0 ∷ []

-- SPEC 10, tile 10: the same lines are lost, and of the other cells (2, 3) has a 1; there is no filling; refused 5
abbrev pub tile_10 : List ℕ
tile_10 = 0 ∷ 0 ∷ 0 ∷ 0 ∷ 0 ∷ 0 ∷ 0 ∷ 0 ∷ 0 ∷ 0 ∷ 0 ∷ 1 ∷ 0 ∷ 0 ∷ 0 ∷ 0 ∷ []

-- tile 3 with its last byte changed
abbrev pub changed_3 : List ℕ
changed_3 = 1 ∷ 2 ∷ 2 ∷ 3 ∷ 2 ∷ 0 ∷ 1 ∷ 3 ∷ 0 ∷ 2 ∷ 3 ∷ 0 ∷ 2 ∷ 2 ∷ 3 ∷ 3 ∷ []

-- text 1 alone, the checks left at 0
abbrev pub copied_1 : List ℕ
copied_1 = 1 ∷ 0 ∷ 0 ∷ 0 ∷ 0 ∷ 0 ∷ 0 ∷ 0 ∷ 0 ∷ 0 ∷ 0 ∷ 0 ∷ 0 ∷ 0 ∷ 0 ∷ 0 ∷ []

-- tile 9 with other bytes in the flagged lines, which are ignored
abbrev pub other_9 : List ℕ
other_9 = 9 ∷ 8 ∷ 7 ∷ 6 ∷ 5 ∷ 1 ∷ 0 ∷ 0 ∷ 4 ∷ 0 ∷ 0 ∷ 0 ∷ 3 ∷ 0 ∷ 0 ∷ 0 ∷ []

-- tile 2 with its first byte changed
abbrev pub hurt_2 : List ℕ
hurt_2 = 1 ∷ 1 ∷ 1 ∷ 1 ∷ 1 ∷ 0 ∷ 0 ∷ 1 ∷ 0 ∷ 1 ∷ 1 ∷ 0 ∷ 1 ∷ 1 ∷ 1 ∷ 1 ∷ []

-- ---- the cases

-- a case: a text writes a tile whose sums are all b; a tile is not good; a repair answers and leaves a tile; a filling of two lines does
pub data Case : Type 0 where
  writes : List ℕ → List ℕ → ℕ → Case
  spoiled : List ℕ → Case
  repairs : List ℕ → Said → List ℕ → Case
  fills : List ℕ → Line → Line → Said → List ℕ → Case

-- a call allows this outcome, and no other
abbrev pub Exactly : {Answer : Type 0} → (Answer → List ℕ → Type 0) → Answer → List ℕ → Type 0
Exactly {Answer} R s x = R s x × ((t : Answer) (y : List ℕ) → R t y → (t ≡ s) × (y ≡ x))

-- what a case claims, of either kind. A tile is written whatever the lent tile held, and a tile that is not good is refused whatever the
-- lent text held
abbrev pub Claim : Case → Type 0
Claim (writes text tile b) =
    ((k : Kind) (lent : List ℕ) → length lent ≡ tile_length 5 → Exactly (WriteTold k 5 2 text lent) done tile) × ((g : Good 5 2 tile) → g.common ≡ b)
Claim (spoiled tile) =
    (Good 5 2 tile → ⊥) × ((k : Kind) (page : List ℕ) → length page ≡ text_length 5 → Exactly (ReadTold k 5 2 tile page) (refused 5) page)
Claim (repairs tile said new) = (k : Kind) → Exactly (RepairTold k 5 2 tile) said new
Claim (fills tile a b said new) = (k : Kind) → Exactly (FillTold k 5 2 tile a b) said new

-- tiles 1 to 10
abbrev pub cases : List Case
cases =
    writes text_1 tile_1 0
    ∷ writes text_2 tile_2 1
    ∷ writes text_3 tile_3 2
    ∷ repairs tile_4 (Said.cell 2 3) zeros
    ∷ repairs tile_5 (column 0) zeros
    ∷ repairs tile_6 (row 0) zeros
    ∷ repairs tile_7 (refused 5) tile_7
    ∷ repairs tile_8 (column 3) repaired_8
    ∷ fills tile_9 (Row 0) (Column 0) done filled_9
    ∷ fills tile_10 (Row 0) (Column 0) (refused 5) tile_10
    ∷ []

-- and others: two tiles that are not good, two that are not hurt, one whose cell is repaired though its sums are not zero, and tile 9
-- again, with other bytes in the flagged lines
abbrev pub others : List Case
others =
    spoiled changed_3
    ∷ spoiled copied_1
    ∷ repairs zeros clean zeros
    ∷ repairs tile_2 clean tile_2
    ∷ repairs hurt_2 (Said.cell 0 0) tile_2
    ∷ fills other_9 (Row 0) (Column 0) done filled_9
    ∷ []

-- ---- the tests

-- an outcome that is allowed is the only one, where one is allowed at most
pub exactly : {Answer : Type 0} (R : Answer → List ℕ → Type 0) → Single R → (s : Answer) (x : List ℕ) → R s x → Exactly R s x
exactly R once s x r = (r, λ t y q. once t s y x q r)

-- 2 is a slope at 5, which both kinds take, and its fourth power is the first that is 1
pub taken_5_2 : (k : Kind) → Takes k 5 2
taken_5_2 k = allowed_taken k 5 2 at_5_2

pub slope_5_2 : Slope 5 2
slope_5_2 = taken_slope New 5 2 size_5 at_5_2

pub order_5_2 : Order 5 2 4
unfolding order_is up_to
order_5_2 = (order_is 5 2 4).shows tt

-- by whatever a line explains a tile, it is the only one
pub sole : {a : Line} (x y : List ℕ) → Explains 5 2 a x y → Only (ByLine 5 2 x) y
sole {a} x y e = once_only (doubt.reach_once 5 2 x slope_5_2 at_5_2.reach) (record { line = a; explains = e })

-- what repair says and leaves, of a tile that is admitted
abbrev Mends : List ℕ → Said → List ℕ → Type 0
Mends x s y = (k : Kind) → Admitted k 5 2 (TileLength 5 x) size.well → RepairTold k 5 2 x s y

unfoldable pub mends : (x : List ℕ) (s : Said) (y : List ℕ) → Test (Mends x s y)
mends x done y = never
mends x clean y = so (both (same y x) (good 5 2 x)) (λ t k h. rw t.0 (RepairTold.is_good h t.1))
mends x (Said.cell i j) y =
    so (both (explaining 5 2 (Column j) x y) (one_byte 5 x y i j)) (λ t k h. doubt.repairs h (Looked.one (sole x y t.0) (by_cell t.1)))
mends x (column c) y =
    so (both (explaining 5 2 (Column c) x y) (more_bytes 5 (Column c) x y)) (λ t k h. doubt.repairs h (Looked.one (sole x y t.0) (by_column t.1)))
mends x (row r) y =
    so (both (explaining 5 2 (Row r) x y) (more_bytes 5 (Row r) x y)) (λ t k h. doubt.repairs h (Looked.one (sole x y t.0) (by_row t.1)))
mends x (refused n) y =
    so (both (equal n 5) (both (same y x) (both (not_good 5 2 x) (no_line 5 2 slope_5_2 x)))) (λ t k h.
    rw (t.0, t.1.0) (RepairTold.is_hurt h t.1.1.0 (Looked.none (t.1.1.1 t.1.1.0))))

-- what fill says and leaves, of a tile that is admitted
abbrev Filled : List ℕ → Line → Line → Said → List ℕ → Type 0
Filled x a b s y = (k : Kind) → Admitted k 5 2 (TileLength 5 x) size.well → FillTold k 5 2 x a b s y

unfoldable pub filled : (x : List ℕ) (a b : Line) (s : Said) (y : List ℕ) → Test (Filled x a b s y)
filled x a b done y =
    so (both (at_most (number a + 2) 5) (both (at_most (number b + 2) 5) (filling 5 2 a b x y))) (λ t k h.
    FillTold.has_lines h t.0 t.1.0 (Looked.one (once_only (fills_once 5 2 x slope_5_2 a b (inr at_5_2.reach)) t.1.1) refl))
filled x a b (refused n) y =
    so (both (equal n 5) (both (same y x) (both (at_most (number a + 2) 5) (both (at_most (number b + 2) 5) (no_filling 5 2 4 slope_5_2 order_5_2 0 a b x))))) (λ t k h.
    let lines = t.1.1 in
    rw (t.0, t.1.0) (FillTold.has_lines h lines.0 lines.1.0 (Looked.none (lines.1.1 lines.0 lines.1.0))))
filled x a b clean y = never
filled x a b (Said.cell i j) y = never
filled x a b (column c) y = never
filled x a b (row r) y = never

-- a tile is admitted if it has the right length
unfoldable pub admitted_tile : {A : Kind → Type 0} (x : List ℕ) → Test ((k : Kind) → Admitted k 5 2 (TileLength 5 x) size.well → A k) → Test ((k : Kind) → A k)
admitted_tile x s = so (both (equal (length x) (tile_length 5)) s) (λ t k. t.1 k (admits size_5 (taken_5_2 k) t.0))

-- the tile is good and has the text
unfoldable pub writing : (text tile : List ℕ) → Test (Writes 5 2 text tile)
writing text tile =
    so (both (equal (length tile) (tile_length 5)) (both (good 5 2 tile) (same (text_of 5 tile) text))) (λ t.
    record { size = t.0; good = t.1.0; has = t.1.1 })

-- the test of a case
unfoldable pub tested : (c : Case) → Test (Claim c)
tested (writes text tile b) = so (both (writing text tile) (equal (sum_of 5 tile 1 0) b)) (λ t. (
  λ k lent e. exactly (WriteTold k 5 2 text lent) (write_told_once k 5 2 text lent) done tile
      (WriteTold.writes (admits size_5 (taken_5_2 k) (e, sym (ap length t.0.has) ∙ text_length_lem 5 tile)) t.0),
  λ g. sym (common_is 5 2 tile g (omega arith)) ∙ t.1,
))
tested (spoiled tile) = so (both (equal (length tile) (tile_length 5)) (not_good 5 2 tile)) (λ t. (
  t.1,
  λ k page e. exactly (ReadTold k 5 2 tile page) (read_told_once k 5 2 tile page) (refused 5) page
      (ReadTold.not_good (admits size_5 (taken_5_2 k) (t.0, e)) t.1),
))
tested (repairs tile said new) =
    so (admitted_tile tile (mends tile said new)) (λ t k. exactly (RepairTold k 5 2 tile) (repair_told_once k 5 2 tile) said new (t k))
tested (fills tile a b said new) =
    so (admitted_tile tile (filled tile a b said new)) (λ t k. exactly (FillTold k 5 2 tile a b) (fill_told_once k 5 2 tile a b) said new (t k))
