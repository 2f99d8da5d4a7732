-- WHAT A READER MUST BELIEVE: what the correction call promises (SPEC 6.3, 6.4 and 9.2): one relation between what came in, what was
-- answered, and what the tile is afterwards. Assumes nothing.
use Rattle.std.specs.Prelude.{◌≡◌, List, ℕ, ◌*◌, ◌<◌}
use Rattle.code.specs.Tile.{Writes, xored}
use Rattle.code.specs.declared.Kind.{Kind}
use Rattle.size.specs.Answer as size
use Rattle.promise.specs.Calls.{Admitted, TileLength}
use Rattle.sheet.specs.Answer.{Said, corrected, refused}
use Rattle.sheet.specs.Sheet.{records, Marked, differences, Whole, Placed, SoundBelow}

-- SPEC 6.3 and 9.2: refused 7 with offset 0 if the sheet is not whole; else the first record with a fault settles the number, 6 or, if it
-- is marked, 4, with the offset at which it begins
pub data Judged (p : ℕ) (sheet : List ℕ) : Said → Type 0 where
  cut : (Whole sheet → ⊥) → Judged p sheet (refused 7 0)
  no_mark : {k : ℕ} → Whole sheet → k < records sheet → SoundBelow p sheet k → (Marked sheet k → ⊥) → Judged p sheet (refused 6 (8 * k))
  no_place : {k : ℕ} → Whole sheet → k < records sheet → SoundBelow p sheet k → Marked sheet k → (Placed p sheet k → ⊥)
      → Judged p sheet (refused 4 (8 * k))
  sound : Whole sheet → SoundBelow p sheet (records sheet) → Judged p sheet (corrected (records sheet))

-- SPEC 6.4: each byte of the tile is XORed with that of the good tile which has the sheet's differences as its text
pub record Corrects (p l : ℕ) (sheet x y : List ℕ) : Type 0 where
  pub change : List ℕ
  pub written : Writes p l (differences p sheet) change
  pub becomes : y ≡ xored x change

-- SPEC 6.3 and 6.4: CORRECT. Refused 1, 2 or 3 with offset 0, then as the sheet is judged; where there is no fault the tile is corrected
pub data CorrectTold (kind : Kind) (p l : ℕ) (tile sheet : List ℕ) : Said → List ℕ → Type 0 where
  refuses : {n : ℕ} → Admitted kind p l (TileLength p tile) (size.refused n) → CorrectTold kind p l tile sheet (refused n 0) tile
  faulty : {n at : ℕ} → Admitted kind p l (TileLength p tile) size.well → Judged p sheet (refused n at) → CorrectTold kind p l tile sheet (refused n at) tile
  corrects : {n : ℕ} {new : List ℕ} → Admitted kind p l (TileLength p tile) size.well → Judged p sheet (corrected n) → Corrects p l sheet tile new
      → CorrectTold kind p l tile sheet (corrected n) new
