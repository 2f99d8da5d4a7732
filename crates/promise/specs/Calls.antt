-- WHAT A READER MUST BELIEVE: what each tile call promises (SPEC 5 and 9.2). Each promise is one relation between what came in, what was
-- answered, and what the lent bytes are afterwards. Assumes nothing.
use Rattle.std.specs.Prelude.{◌≡◌, List, ℕ, ◌+◌, ◌≤◌, length}
use Rattle.code.specs.Tile.{tile_length, text_length, Good, text_of, Writes, On, EqualOutside, EqualOutsideBoth, Differ, Fills}
use Rattle.code.specs.Count.{None, Only, Several}
use Rattle.code.specs.OneLine.{number}
use Rattle.code.specs.declared.Kind.{Kind}
use Rattle.code.specs.declared.Kind.TheVariants.{New}
use Rattle.code.specs.declared.Line.{Line}
use Rattle.code.specs.declared.Line.TheVariants.{Row, Column}
use Rattle.size.specs.Answer as size
use Rattle.promise.specs.Answer.{Said, done, clean, cell, column, row, refused}

-- SPEC 5 and 9.2: how every tile call begins: refused 1 or 2 as the kind, p and l are judged, then 3 where a length is wrong; otherwise it
-- goes on
pub data Admitted (k : Kind) (p l : ℕ) (Lengths : Type 0) : size.Said → Type 0 where
  judged : {n : ℕ} → size.Judged k p l (size.refused n) → Admitted k p l Lengths (size.refused n)
  no_length : size.Judged k p l size.well → (Lengths → ⊥) → Admitted k p l Lengths (size.refused 3)
  admitted : size.Judged k p l size.well → Lengths → Admitted k p l Lengths size.well

-- SPEC 5, with 3.1 and 3.2: the length that repair, inspect and fill ask for, those that write, read and recover do, and those that judge
-- does
abbrev pub TileLength : ℕ → List ℕ → Type 0
TileLength p tile = length tile ≡ tile_length p

abbrev pub BothLengths : ℕ → List ℕ → List ℕ → Type 0
BothLengths p tile text = TileLength p tile × (length text ≡ text_length p)

abbrev pub TwoLengths : ℕ → List ℕ → List ℕ → Type 0
TwoLengths p scan restored = TileLength p scan × TileLength p restored

-- SPEC 5.1: WRITE. Whatever the tile held, it becomes the good one that has the text
pub data WriteTold (k : Kind) (p l : ℕ) (text tile : List ℕ) : Said → List ℕ → Type 0 where
  refuses : {n : ℕ} → Admitted k p l (BothLengths p tile text) (size.refused n) → WriteTold k p l text tile (refused n) tile
  writes : {new : List ℕ} → Admitted k p l (BothLengths p tile text) size.well → Writes p l text new → WriteTold k p l text tile done new

-- SPEC 5.2: READ. If the tile is good the text becomes the tile's, and otherwise it is refused with 5
pub data ReadTold (k : Kind) (p l : ℕ) (tile text : List ℕ) : Said → List ℕ → Type 0 where
  refuses : {n : ℕ} → Admitted k p l (BothLengths p tile text) (size.refused n) → ReadTold k p l tile text (refused n) text
  not_good : Admitted k p l (BothLengths p tile text) size.well → (Good p l tile → ⊥) → ReadTold k p l tile text (refused 5) text
  reads : Admitted k p l (BothLengths p tile text) size.well → Good p l tile → ReadTold k p l tile text done (text_of p tile)

-- SPEC 5.3 and 5.4: what comes of looking at all good tiles that have F. If there is exactly one, the lent tile becomes this one, and what
-- is said is its name; if there is none, this is refused with 5; if there are two that are different, with 8
pub data Looked (F : List ℕ → Type 0) (Name : List ℕ → Said → Type 0) (lent : List ℕ) : Said → List ℕ → Type 0 where
  one : {said : Said} {new : List ℕ} → Only F new → Name new said → Looked F Name lent said new
  none : None F → Looked F Name lent (refused 5) lent
  several : Several F → Looked F Name lent (refused 8) lent

-- SPEC 5.3: the line a explains x by y, a good tile that agrees with x outside a
pub record Explains (p l : ℕ) (a : Line) (x y : List ℕ) : Type 0 where
  pub size : length y ≡ tile_length p
  pub good : Good p l y
  pub same : EqualOutside p a x y

-- SPEC 5.3: some line, a row or a column, explains x by y
pub record ByLine (p l : ℕ) (x y : List ℕ) : Type 0 where
  pub line : Line
  pub explains : Explains p l line x y

-- SPEC 5.3: two tiles differ in exactly one byte, in cell (i, j)
pub record OneByte (p : ℕ) (x y : List ℕ) (i j : ℕ) : Type 0 where
  pub here : Differ p x y i j
  pub alone : (r k : ℕ) → Differ p x y r k → (r ≡ i) × (k ≡ j)

-- SPEC 5.3: two tiles differ in two bytes or more, of which (i, j) and (r, k) are two, and all of these stand on the line a
pub record MoreBytes (p : ℕ) (x y : List ℕ) (a : Line) : Type 0 where
  pub i : ℕ
  pub j : ℕ
  pub r : ℕ
  pub k : ℕ
  pub one : Differ p x y i j
  pub other : Differ p x y r k
  pub apart : (i ≡ r) × (j ≡ k) → ⊥
  pub within : (m n : ℕ) → Differ p x y m n → On a m n

-- SPEC 5.3: the name of the difference between two tiles: the cell of one byte, the line of more
pub data Named (p : ℕ) (x y : List ℕ) : Said → Type 0 where
  by_cell : {i j : ℕ} → OneByte p x y i j → Named p x y (cell i j)
  by_column : {c : ℕ} → MoreBytes p x y (Column c) → Named p x y (column c)
  by_row : {r : ℕ} → MoreBytes p x y (Row r) → Named p x y (row r)

-- SPEC 5.3: REPAIR. A good tile is clean. Of any other, all good tiles by which some line explains it are looked at, and the answer is the
-- name of the difference
pub data RepairTold (k : Kind) (p l : ℕ) (tile : List ℕ) : Said → List ℕ → Type 0 where
  refuses : {n : ℕ} → Admitted k p l (TileLength p tile) (size.refused n) → RepairTold k p l tile (refused n) tile
  is_good : Admitted k p l (TileLength p tile) size.well → Good p l tile → RepairTold k p l tile clean tile
  is_hurt : {said : Said} {new : List ℕ} → Admitted k p l (TileLength p tile) size.well → (Good p l tile → ⊥)
      → Looked (ByLine p l tile) (Named p tile) tile said new → RepairTold k p l tile said new

-- SPEC 5.6: INSPECT. There is a tile that repair would leave, and this is what it would say
pub record InspectTold (k : Kind) (p l : ℕ) (scan : List ℕ) (said : Said) : Type 0 where
  pub tile : List ℕ
  pub told : RepairTold k p l scan said tile

-- SPEC 5, 5.3: s is no refusal
abbrev pub Granted : Said → Type 0
Granted s = (n : ℕ) → s ≡ refused n → ⊥

-- SPEC 5.7: RECOVER. What is said is what repair would say of the scan. If that is a refusal the text stays, and otherwise it becomes that
-- of the tile that repair would leave
pub data RecoverTold (k : Kind) (p l : ℕ) (scan text : List ℕ) : Said → List ℕ → Type 0 where
  refuses : {n : ℕ} → Admitted k p l (BothLengths p scan text) (size.refused n) → RecoverTold k p l scan text (refused n) text
  unrepaired : {n : ℕ} → Admitted k p l (BothLengths p scan text) size.well → InspectTold k p l scan (refused n)
      → RecoverTold k p l scan text (refused n) text
  recovers : {said : Said} {tile : List ℕ} → Admitted k p l (BothLengths p scan text) size.well → Granted said → RepairTold k p l scan said tile
      → RecoverTold k p l scan text said (text_of p tile)

-- SPEC 3.4: the tile has the line, whose number is 0 to p-2
abbrev pub Has : ℕ → Line → Type 0
Has p a = number a + 2 ≤ p

-- SPEC 5.4: a filling has no name: whichever it is, done is said
abbrev pub Done : List ℕ → Said → Type 0
Done new said = said ≡ done

-- SPEC 5.4: FILL. Refused 4 where the tile does not have a named line; otherwise all its fillings are looked at
pub data FillTold (k : Kind) (p l : ℕ) (tile : List ℕ) (a b : Line) : Said → List ℕ → Type 0 where
  refuses : {n : ℕ} → Admitted k p l (TileLength p tile) (size.refused n) → FillTold k p l tile a b (refused n) tile
  no_line : Admitted k p l (TileLength p tile) size.well → (Has p a × Has p b → ⊥) → FillTold k p l tile a b (refused 4) tile
  has_lines : {said : Said} {new : List ℕ} → Admitted k p l (TileLength p tile) size.well → Has p a → Has p b
      → Looked (Fills p l a b tile) Done tile said new → FillTold k p l tile a b said new

-- SPEC 5.5: JUDGE, of a tile that was restored from a scan in the lines a and b. It is told no kind: the tiles are new ones. Refused 4
-- where they do not have a named line, 10 where the restored tile is not good, 11 where it differs from the scan elsewhere; otherwise it is
-- accepted, which is told as done. Nothing is written
pub data JudgeTold (p l : ℕ) (scan restored : List ℕ) (a b : Line) : Said → Type 0 where
  refuses : {n : ℕ} → Admitted New p l (TwoLengths p scan restored) (size.refused n) → JudgeTold p l scan restored a b (refused n)
  no_line : Admitted New p l (TwoLengths p scan restored) size.well → (Has p a × Has p b → ⊥) → JudgeTold p l scan restored a b (refused 4)
  not_good : Admitted New p l (TwoLengths p scan restored) size.well → Has p a → Has p b → (Good p l restored → ⊥)
      → JudgeTold p l scan restored a b (refused 10)
  elsewhere : Admitted New p l (TwoLengths p scan restored) size.well → Has p a → Has p b → Good p l restored
      → (EqualOutsideBoth p a b scan restored → ⊥) → JudgeTold p l scan restored a b (refused 11)
  accepts : Admitted New p l (TwoLengths p scan restored) size.well → Has p a → Has p b → Good p l restored
      → EqualOutsideBoth p a b scan restored → JudgeTold p l scan restored a b done
