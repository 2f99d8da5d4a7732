-- WHAT A READER MUST BELIEVE: which lines of a tile may be lost, and that the margin is two lines (SPEC 4.6). What is proved of it stands in
-- `Lost`. Assumes nothing.
use Rattle.std.specs.Prelude.{◌≡◌, ◌≢◌, List, ℕ, ◌-◌, ◌<◌, length}
use Rattle.code.specs.Tile.{tile_length, cell, Good, On, Differ, Bytes}
use Rattle.code.specs.OneLine.{number}
use Rattle.code.specs.declared.Line.{Line}

-- SPEC 4.6: two good tiles of one size and one slope, and different
pub record TwoGood (p l : ℕ) (x y : List ℕ) : Type 0 where
  pub size : length x ≡ tile_length p
  pub size_other : length y ≡ tile_length p
  pub good : Good p l x
  pub good_other : Good p l y
  pub apart : x ≢ y

-- SPEC 4.6: a cell of the tile that is on neither of two lines and in which two tiles differ
pub record DifferOutside (p : ℕ) (a b : Line) (x y : List ℕ) : Type 0 where
  pub row : ℕ
  pub column : ℕ
  pub here : Differ p x y row column
  pub off : On a row column → ⊥
  pub off_other : On b row column → ⊥

-- SPEC 4.6: two lines may be lost: whichever two good tiles are different, they differ in a cell outside these lines
abbrev pub MayLose : ℕ → ℕ → Line → Line → Type 0
MayLose p l a b = (x y : List ℕ) → TwoGood p l x y → DifferOutside p a b x y

-- SPEC 3.4: two tiles agree outside three lines
abbrev pub EqualOutsideThree : ℕ → Line → Line → Line → List ℕ → List ℕ → Type 0
EqualOutsideThree p a b c x y = (i j : ℕ) → i < p - 1 → j < p - 1 → (On a i j → ⊥) → (On b i j → ⊥) → (On c i j → ⊥) → cell p x i j ≡ cell p y i j

-- SPEC 4.6: another good tile than x, which agrees with it as is asked, and is of bytes if x is
pub record Another (p l : ℕ) (x : List ℕ) (Agrees : List ℕ → Type 0) : Type 0 where
  pub tile : List ℕ
  pub two : TwoGood p l x tile
  pub agrees : Agrees tile
  pub bytes : Bytes x → Bytes tile

-- SPEC 4.6: three lines of the tile, and two good tiles of bytes that are different and agree outside them
pub record WithinThree (p l : ℕ) : Type 0 where
  pub a : Line
  pub b : Line
  pub c : Line
  pub lines : (number a < p - 1) × (number b < p - 1) × (number c < p - 1)
  pub x : List ℕ
  pub y : List ℕ
  pub two : TwoGood p l x y
  pub agree : EqualOutsideThree p a b c x y
  pub bytes : Bytes x × Bytes y

-- SPEC 4.6: the margin is two lines: any two may be lost, and some three of the tile may not. (The paper calls this a criss-cross distance of 3)
pub record MarginOfTwo (p l : ℕ) : Type 0 where
  pub two : (a b : Line) → MayLose p l a b
  pub three : WithinThree p l
