-- A list of bytes and its cells determine each other, and so do a text and the cells of its columns. Here alone a law knows how a tile
-- or a text is laid out in memory. Assumes nothing.
use Rattle.std.specs.Prelude.{◌≡◌, refl, ◌⊎◌, List, ℕ, suc, ◌+◌, ◌-◌, ◌*◌, ◌/◌, ◌%◌, ◌<◌, ltb, length, get_or}
use Rattle.std.proofs.Common.{sym, ap, ap₂, ◌∙◌, inl, inr, mod-lt, div-add-mod', div-lt_iff_lt-mul, mul-le-mul_right, eq-or-lt_of_le, arith, ext_get_or, lt-ltb, le-ltb}
use Rattle.std.proofs.Math.Arith.{digits_div, digits_mod}
use Rattle.xor.specs.Sum.{keep_zero, keep_byte}
use Rattle.code.specs.Tabulate.{tabulate, tabulate_length, tabulate_at, tabulate_bytes}
use Rattle.code.specs.Tile.{Cells, tile_length, place, cell, text_length, text_from, text_of, Bytes}
use Rattle.code.specs.Sums.{Padded, Same, plus, padded_plus}

-- ---- n rows of w bytes, row by row

-- a byte of a row stands within them
pub row_lt : (n w i j : ℕ) → i < n → j < w → i * w + j < n * w
row_lt n w i j hi hj = omega (arith, mul-le-mul_right w hi)

-- at one place stands one byte
pub row_one : (w i j i' j' : ℕ) → j < w → j' < w → i * w + j ≡ i' * w + j' → (i ≡ i') × (j ≡ j')
row_one w i j i' j' h h' e = (
  sym (digits_div i h) ∙ ap (λ (k : ℕ). k / w) e ∙ digits_div i' h',
  sym (digits_mod i h) ∙ ap (λ (k : ℕ). k % w) e ∙ digits_mod i' h',
)

-- and each byte within them in a row
row_of : (n w k : ℕ) → 0 < w → k < n * w → k / w < n
row_of n w k h l = (div-lt_iff_lt-mul h).1 l

-- two lists that agree at each row and column are equal
by_rows : (n w : ℕ) (xs ys : List ℕ) → 0 < w → length xs ≡ n * w → length ys ≡ n * w
    → ((i j : ℕ) → i < n → j < w → get_or xs (i * w + j) 0 ≡ get_or ys (i * w + j) 0) → xs ≡ ys
by_rows n w xs ys h e f same = ext_get_or 0 xs ys (e ∙ sym f) (λ k l.
    rw (div-add-mod' k w) at (same (k / w) (k % w) (row_of n w k h (omega arith)) (mod-lt k h)))

-- ---- tiles

-- within the tile a cell is a byte of the list
pub cell_in : (p : ℕ) (tile : List ℕ) (i j : ℕ) → i < p - 1 → j < p - 1 → cell p tile i j ≡ get_or tile (place p i j) 0
unfolding cell
cell_in p tile i j hi hj = rw (lt-ltb i (p - 1) hi, lt-ltb j (p - 1) hj)

pub place_lt : (p i j : ℕ) → i < p - 1 → j < p - 1 → place p i j < tile_length p
unfolding place
place_lt p i j hi hj = row_lt (p - 1) (p - 1) i j hi hj

-- where it stands, in numbers
pub place_is : (p i j : ℕ) → place p i j ≡ i * (p - 1) + j
unfolding place
place_is p i j = refl

-- the added row and column are zeros
pub cell_padded : (p : ℕ) (tile : List ℕ) → Padded p (cell p tile)
unfolding cell
cell_padded p tile = record {
  row = λ j h. rw (le-ltb (p - 1) (p - 1) (omega arith));
  column = λ i h. rw (le-ltb (p - 1) (p - 1) (omega arith)) (keep_zero (ltb i (p - 1)));
}

-- where two tiles differ, and by what
abbrev pub difference : ℕ → List ℕ → List ℕ → Cells
difference p x y = plus (cell p x) (cell p y)

pub difference_padded : (p : ℕ) (x y : List ℕ) → Padded p (difference p x y)
difference_padded p x y = padded_plus p (cell p x) (cell p y) (cell_padded p x) (cell_padded p y)

pub cell_byte : (p : ℕ) (tile : List ℕ) → Bytes tile → (i j : ℕ) → cell p tile i j < 256
unfolding cell
cell_byte p tile h i j = keep_byte (ltb i (p - 1)) _ (keep_byte (ltb j (p - 1)) _ (h (place p i j)))

-- what holds in the added row, in the added column and within the tile holds everywhere
pub everywhere : (p : ℕ) (P : ℕ → ℕ → Type 0) → ((j : ℕ) → j < p → P (p - 1) j) → ((i : ℕ) → i < p → P i (p - 1))
    → ((i j : ℕ) → i < p - 1 → j < p - 1 → P i j) → (i j : ℕ) → i < p → j < p → P i j
everywhere p P row column within i j hi hj = go (eq-or-lt_of_le hi) (eq-or-lt_of_le hj)
  where
    go : (suc i ≡ p) ⊎ (suc i < p) → (suc j ≡ p) ⊎ (suc j < p) → P i j
    go (inl e) d = let q : i ≡ p - 1 = omega arith in rw q (row j hj)
    go (inr l) (inl e) = let q : j ≡ p - 1 = omega arith in rw q (column i hi)
    go (inr l) (inr m) = within i j (omega arith) (omega arith)

-- two padded tiles are the same if they are within the tile
pub same_within : (p : ℕ) (T U : Cells) → Padded p T → Padded p U → ((i j : ℕ) → i < p - 1 → j < p - 1 → T i j ≡ U i j) → Same p T U
same_within p T U a b =
    everywhere p (λ i j. T i j ≡ U i j) (λ j h. a.row j h ∙ sym (b.row j h)) (λ i h. a.column i h ∙ sym (b.column i h))

-- the cells of a tile determine its list
pub cells_determine : (p : ℕ) (x y : List ℕ) → 1 < p → length x ≡ tile_length p → length y ≡ tile_length p
    → ((i j : ℕ) → i < p - 1 → j < p - 1 → cell p x i j ≡ cell p y i j) → x ≡ y
unfolding place
cells_determine p x y h e f same =
    by_rows (p - 1) (p - 1) x y (omega arith) e f (λ i j hi hj. sym (cell_in p x i j hi hj) ∙ same i j hi hj ∙ cell_in p y i j hi hj)

-- the list that has given cells
pub tile_of : ℕ → Cells → List ℕ
tile_of p T = tabulate (tile_length p) (λ k. T (k / (p - 1)) (k % (p - 1)))

pub tile_length_lem : (p : ℕ) (T : Cells) → length (tile_of p T) ≡ tile_length p
unfolding tile_of
tile_length_lem p T = tabulate_length (tile_length p) _

-- within the tile it has them, and if they are padded, everywhere
pub tile_in : (p : ℕ) (T : Cells) (i j : ℕ) → i < p - 1 → j < p - 1 → cell p (tile_of p T) i j ≡ T i j
unfolding tile_of place
tile_in p T i j hi hj =
    cell_in p (tile_of p T) i j hi hj ∙ tabulate_at (tile_length p) (place p i j) _ (place_lt p i j hi hj) ∙ ap₂ T (digits_div i hj) (digits_mod i hj)

pub tile_cells : (p : ℕ) (T : Cells) → Padded p T → Same p (cell p (tile_of p T)) T
tile_cells p T h = same_within p (cell p (tile_of p T)) T (cell_padded p (tile_of p T)) h (tile_in p T)

pub tile_bytes_lem : (p : ℕ) (T : Cells) → ((i j : ℕ) → T i j < 256) → Bytes (tile_of p T)
unfolding tile_of
tile_bytes_lem p T h = tabulate_bytes (tile_length p) _ (λ k. h (k / (p - 1)) (k % (p - 1)))

-- ---- texts

-- a text of given bytes has its length ..
pub from_length : (p : ℕ) (T : Cells) → length (text_from p T) ≡ text_length p
unfolding text_from
from_length p T = tabulate_length (text_length p) _

-- the byte of a text in row i and column j
abbrev pub text_byte : ℕ → List ℕ → ℕ → ℕ → ℕ
text_byte p text i j = get_or text (i * (p - 3) + j) 0

-- .. and those bytes
pub from_at : (p : ℕ) (T : Cells) (i j : ℕ) → i < p - 1 → j < p - 3 → text_byte p (text_from p T) i j ≡ T i j
unfolding text_from
from_at p T i j hi hj =
    tabulate_at (text_length p) (i * (p - 3) + j) _ (row_lt (p - 1) (p - 3) i j hi hj) ∙ ap₂ T (digits_div i hj) (digits_mod i hj)

-- those of a tile's text are the tile's
pub text_length_lem : (p : ℕ) (tile : List ℕ) → length (text_of p tile) ≡ text_length p
unfolding text_of
text_length_lem p tile = from_length p (cell p tile)

pub text_at : (p : ℕ) (tile : List ℕ) (i j : ℕ) → i < p - 1 → j < p - 3 → text_byte p (text_of p tile) i j ≡ cell p tile i j
unfolding text_of
text_at p tile = from_at p (cell p tile)

-- the text of a tile is the list with its bytes
pub text_is : (p : ℕ) (tile text : List ℕ) → 3 < p → length text ≡ text_length p
    → ((i j : ℕ) → i < p - 1 → j < p - 3 → text_byte p text i j ≡ cell p tile i j) → text_of p tile ≡ text
text_is p tile text h e same =
    by_rows (p - 1) (p - 3) (text_of p tile) text (omega arith) (text_length_lem p tile) e (λ i j hi hj. text_at p tile i j hi hj ∙ sym (same i j hi hj))
