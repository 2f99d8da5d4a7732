-- WHAT A READER MUST BELIEVE: what a good tile is, and when one is written or filled (SPEC 3 to 5). All is said of a list of bytes. Of the
-- crate `xor` it uses `a ⊕ b`, `xor_below n f`, the XOR of f 0 to f (n - 1), and `keep`, a value where a test holds and else 0. Assumes
-- nothing.
use Rattle.std.specs.Prelude.{◌≡◌, ◌≢◌, List, ℕ, ◌+◌, ◌-◌, ◌*◌, ◌/◌, ◌%◌, ◌<◌, eqb, ltb, length, get_or}
use Rattle.xor.specs.Xor.{◌⊕◌}
use Rattle.xor.specs.Sum.{xor_below, keep}
use Rattle.code.specs.Tabulate.{tabulate}
use Rattle.code.specs.declared.Line.{Line}
use Rattle.code.specs.declared.Line.TheVariants.{Row, Column}

-- SPEC 3.1: a byte for each row and column
abbrev pub Cells : Type 0
Cells = ℕ → ℕ → ℕ

-- SPEC 3.1: how many bytes a tile has, p-1 in each of its p-1 rows
abbrev pub tile_length : ℕ → ℕ
tile_length p = (p - 1) * (p - 1)

-- SPEC 3.1: where cell (i, j) stands in memory, as one row follows the other. This is the one definition that knows
unfoldable pub place : ℕ → ℕ → ℕ → ℕ
place p i j = i * (p - 1) + j

-- SPEC 3.1 and 3.3: the byte in cell (i, j), and 0 in the added row and column
unfoldable pub cell : ℕ → List ℕ → Cells
cell p tile i j = keep (ltb i (p - 1)) (keep (ltb j (p - 1)) (get_or tile (place p i j) 0))

-- SPEC 4.1: the number of the diagonal of slope s that cell (i, j) is in. Here, as in the paper, a diagonal is called a line of its slope
abbrev pub line : ℕ → ℕ → ℕ → ℕ → ℕ
line p s i j = (i + s * j) % p

-- SPEC 4.2: the sum of diagonal t of slope s, the XOR of the bytes in its cells
unfoldable pub sum : ℕ → ℕ → Cells → ℕ → ℕ
sum p s cells t = xor_below p (λ i. xor_below p (λ j. keep (eqb (line p s i j) t) (cells i j)))

-- SPEC 4.3: one byte, and that it is the sum of every diagonal, of the p with slope 1 and of the p with slope l
pub record OneSum (p l : ℕ) (cells : Cells) : Type 0 where
  pub common : ℕ
  pub first : (t : ℕ) → t < p → sum p 1 cells t ≡ common
  pub second : (t : ℕ) → t < p → sum p l cells t ≡ common

-- SPEC 4.3: the tile is good if one byte is the sum of every diagonal of both slopes
abbrev pub Good : ℕ → ℕ → List ℕ → Type 0
Good p l tile = OneSum p l (cell p tile)

-- SPEC 3.2: how many bytes a text has: all columns of the tile but the last two, which hold checks
abbrev pub text_length : ℕ → ℕ
text_length p = (p - 1) * (p - 3)

-- SPEC 3.2: the text whose byte in row i and column j is `cells i j`, one row behind the other; and the text of a tile
unfoldable pub text_from : ℕ → Cells → List ℕ
text_from p cells = tabulate (text_length p) (λ k. cells (k / (p - 3)) (k % (p - 3)))

unfoldable pub text_of : ℕ → List ℕ → List ℕ
text_of p tile = text_from p (cell p tile)

-- SPEC 5.1 and 4.5: a good tile that has the text; there is one, and no second
pub record Writes (p l : ℕ) (text tile : List ℕ) : Type 0 where
  pub size : length tile ≡ tile_length p
  pub good : Good p l tile
  pub has : text_of p tile ≡ text

-- SPEC 3.4: cell (i, j) lies on the line
abbrev pub On : Line → ℕ → ℕ → Type 0
On (Row r) i j = i ≡ r
On (Column c) i j = j ≡ c

-- SPEC 3.4: two tiles agree outside a line
abbrev pub EqualOutside : ℕ → Line → List ℕ → List ℕ → Type 0
EqualOutside p a x y = (i j : ℕ) → i < p - 1 → j < p - 1 → (On a i j → ⊥) → cell p x i j ≡ cell p y i j

-- SPEC 3.4: two tiles agree outside two lines. Where one line is named twice, as in 5.4, they agree outside that line
abbrev pub EqualOutsideBoth : ℕ → Line → Line → List ℕ → List ℕ → Type 0
EqualOutsideBoth p a b x y = (i j : ℕ) → i < p - 1 → j < p - 1 → (On a i j → ⊥) → (On b i j → ⊥) → cell p x i j ≡ cell p y i j

-- SPEC 3.4: two tiles differ in cell (i, j), which is one of theirs
pub record Differ (p : ℕ) (x y : List ℕ) (i j : ℕ) : Type 0 where
  pub row : i < p - 1
  pub column : j < p - 1
  pub bytes : cell p x i j ≢ cell p y i j

-- SPEC 5.4: y is a filling of x, a good tile that agrees with x outside the lines a and b
pub record Fills (p l : ℕ) (a b : Line) (x y : List ℕ) : Type 0 where
  pub size : length y ≡ tile_length p
  pub good : Good p l y
  pub agrees : EqualOutsideBoth p a b x y

-- SPEC 1.1: x with each of its bytes XORed with that of y
unfoldable pub xored : List ℕ → List ℕ → List ℕ
xored x y = tabulate (length x) (λ k. get_or x k 0 ⊕ get_or y k 0)

-- SPEC 1.1: a list of bytes, which are numbers from 0 to 255
abbrev pub Bytes : List ℕ → Type 0
Bytes xs = (k : ℕ) → get_or xs k 0 < 256
