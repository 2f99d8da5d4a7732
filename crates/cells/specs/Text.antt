-- A run of bytes that is copied, and a text that is laid into a tile or taken out of it. Assumes nothing.
use Rattle.std.specs.Prelude.{◌≡◌, refl, ◌⊎◌, List, ℕ, ◌+◌, ◌-◌, ◌*◌, ◌≤◌, ◌<◌, length, get_or}
use Rattle.std.proofs.Common.{sym, ◌∙◌, inl, mul-le-mul_right, arith, below_more}
use Rattle.code.specs.Tile.{cell, tile_length, text_length, text_of}
use Rattle.code.specs.Place.{text_byte, cell_in, place_is, text_is}

-- a tile of n bytes and a text of m
pub record Lengths (p n m : ℕ) : Type 0 where
  pub low : 4 ≤ p
  pub high : p ≤ 257
  pub tile : n ≡ tile_length p
  pub text : m ≡ text_length p

-- ys is xs with n bytes of zs, from b on, copied to a
pub record Copied (zs : List ℕ) (b : ℕ) (xs : List ℕ) (a n : ℕ) (ys : List ℕ) : Type 0 where
  pub size : length ys ≡ length xs
  pub new : (k : ℕ) → k < n → get_or ys (a + k) 0 ≡ get_or zs (b + k) 0
  pub old : (v : ℕ) → (v < a) ⊎ (a + n ≤ v) → get_or ys v 0 ≡ get_or xs v 0

-- copied to a piece, and from there
pub copied_on : {zs : List ℕ} {b : ℕ} {ps piece xs : List ℕ} {a n : ℕ} {ys : List ℕ} → Copied zs b ps 0 n piece → Copied piece 0 xs a n ys → Copied zs b xs a n ys
copied_on c d = record { size = d.size; new = λ k h. d.new k h ∙ c.new k h; old = d.old }

-- the tile has the text in its columns
pub record Laid (p : ℕ) (text x y : List ℕ) : Type 0 where
  pub size : length y ≡ length x
  pub has : (i j : ℕ) → i < p - 1 → j < p - 3 → cell p y i j ≡ text_byte p text i j

-- ---- rows of bytes, copied row by row

-- ys is xs with the first w bytes of n rows of zs, of b bytes each, copied to the first of its own rows, of a bytes each
pub record RowsCopied (n w : ℕ) (zs : List ℕ) (b : ℕ) (xs : List ℕ) (a : ℕ) (ys : List ℕ) : Type 0 where
  pub size : length ys ≡ length xs
  pub rows : (i j : ℕ) → i < n → j < w → get_or ys (i * a + j) 0 ≡ get_or zs (i * b + j) 0

-- a row ends before the next begins
row_in : (n w a i : ℕ) → w ≤ a → i < n → i * a + w ≤ n * a
row_in n w a i h l = omega (arith, mul-le-mul_right a l)

-- none is copied yet
pub rows_none : (w : ℕ) (zs : List ℕ) (b : ℕ) (xs : List ℕ) (a : ℕ) → RowsCopied 0 w zs b xs a xs
rows_none w zs b xs a = record { size = refl; rows = λ i j h. omega arith }

-- one more is
pub rows_more : {n w : ℕ} {zs : List ℕ} {b : ℕ} {xs : List ℕ} {a : ℕ} {ys ys' : List ℕ} → w ≤ a → RowsCopied n w zs b xs a ys
    → Copied zs (n * b) ys (n * a) w ys' → RowsCopied (n + 1) w zs b xs a ys'
rows_more {n} {w} {zs} {b} {xs} {a} {ys} {ys'} h r c = record {
  size = c.size ∙ r.size;
  rows = λ i j l m. below_more (λ i. get_or ys' (i * a + j) 0 ≡ get_or zs (i * b + j) 0) n
      (λ i l. c.old (i * a + j) (inl (omega (arith, row_in n w a i h l))) ∙ r.rows i j l m) (c.new j m) i l;
}

-- ---- tiles and texts, by their rows

-- a text's rows, copied into a tile, are laid; and a tile's, copied out, are its text
pub rows_laid : {p : ℕ} {text x y : List ℕ} → RowsCopied (p - 1) (p - 3) text (p - 3) x (p - 1) y → Laid p text x y
rows_laid {p} {text} {x} {y} r = record {
  size = r.size;
  has = λ i j hi hj. cell_in p y i j hi (omega arith) ∙ rw (place_is p i j) (r.rows i j hi hj);
}

pub rows_taken : {p : ℕ} {tile text text' : List ℕ} → 3 < p → length text ≡ text_length p
    → RowsCopied (p - 1) (p - 3) tile (p - 1) text (p - 3) text' → text' ≡ text_of p tile
rows_taken {p} {tile} {text} {text'} h e r = sym (
    text_is p tile text' h (r.size ∙ e) (λ i j hi hj. r.rows i j hi hj ∙ rw (← place_is p i j) (sym (cell_in p tile i j hi (omega arith)))))
