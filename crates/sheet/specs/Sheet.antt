-- WHAT A READER MUST BELIEVE: what a correction sheet says (SPEC 6.1 to 6.3). Records count from 0. Assumes nothing.
use Rattle.std.specs.Prelude.{◌≡◌, List, ℕ, ◌+◌, ◌*◌, ◌/◌, ◌%◌, ◌≤◌, ◌<◌, eqb, length, get_or}
use Rattle.xor.specs.Xor.{◌⊕◌}
use Rattle.xor.specs.Sum.{xor_below, keep}
use Rattle.code.specs.Tile.{Cells, text_from}
use Rattle.record.specs.Number.{big_endian}

-- ---- the records

-- SPEC 6.1: how many records of eight bytes there are, and the n-th byte of the k-th
abbrev pub records : List ℕ → ℕ
records sheet = length sheet / 8

abbrev pub byte_of : List ℕ → ℕ → ℕ → ℕ
byte_of sheet k n = get_or sheet (8 * k + n) 0

-- SPEC 6.1 and FORMATS: the mark, C3 3C; the row and the column, each a number of two bytes; what stood there; what is to stand there
abbrev pub Marked : List ℕ → ℕ → Type 0
Marked sheet k = (byte_of sheet k 0 ≡ 0xC3) × (byte_of sheet k 1 ≡ 0x3C)

abbrev pub row_of : List ℕ → ℕ → ℕ
row_of sheet k = big_endian (byte_of sheet k 2) (byte_of sheet k 3)

abbrev pub column_of : List ℕ → ℕ → ℕ
column_of sheet k = big_endian (byte_of sheet k 4) (byte_of sheet k 5)

abbrev pub was_of : List ℕ → ℕ → ℕ
was_of sheet k = byte_of sheet k 6

abbrev pub is_of : List ℕ → ℕ → ℕ
is_of sheet k = byte_of sheet k 7

-- SPEC 6.1: the k-th record names the cell in row i and column j
abbrev pub Names : List ℕ → ℕ → ℕ → ℕ → Type 0
Names sheet i j k = (i ≡ row_of sheet k) × (j ≡ column_of sheet k)

-- SPEC 6.2: the difference of the k-th record, its two bytes XORed
abbrev pub difference_of : List ℕ → ℕ → ℕ
difference_of sheet k = was_of sheet k ⊕ is_of sheet k

-- ---- the differences

-- SPEC 6.2: the XOR of the differences that the first n records give for row i and column j
unfoldable pub given : List ℕ → ℕ → Cells
given sheet n i j = xor_below n (λ k. keep (eqb i (row_of sheet k)) (keep (eqb j (column_of sheet k)) (difference_of sheet k)))

-- SPEC 6.2: the text that all of them make up, with 0 where no record names the place
unfoldable pub differences : ℕ → List ℕ → List ℕ
differences p sheet = text_from p (given sheet (records sheet))

-- ---- a sound sheet

-- SPEC 6.3: the sheet is whole: eight divides its length
abbrev pub Whole : List ℕ → Type 0
Whole sheet = length sheet % 8 ≡ 0

-- SPEC 6.3: the k-th record names a cell that the text has, in rows 0 to p-2 and columns 0 to p-4
abbrev pub Placed : ℕ → List ℕ → ℕ → Type 0
Placed p sheet k = (row_of sheet k + 2 ≤ p) × (column_of sheet k + 4 ≤ p)

-- SPEC 6.3: none of the first n records has a fault
abbrev pub SoundBelow : ℕ → List ℕ → ℕ → Type 0
SoundBelow p sheet n = (k : ℕ) → k < n → Marked sheet k × Placed p sheet k
