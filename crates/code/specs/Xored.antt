-- The XOR of two tiles, as lists of bytes: it is the XOR of their cells and of their texts, done twice it is undone, and the XOR of two
-- good tiles is good. Assumes nothing.
use Rattle.std.specs.Prelude.{◌≡◌, List, ℕ, ◌-◌, ◌<◌, length, get_or}
use Rattle.std.proofs.Common.{sym, ap, ap₂, ◌∙◌, arith, ext_get_or}
use Rattle.xor.specs.Xor.{◌⊕◌, xors}
use Rattle.code.specs.Tabulate.{tabulate_length, tabulate_at}
use Rattle.code.specs.Tile.{tile_length, place, cell, Good, text_length, text_of, xored}
use Rattle.code.specs.Place.{row_lt, cell_in, place_lt, cells_determine, text_byte, text_length_lem, text_at, text_is}
use Rattle.code.specs.Good.{good_xor}

-- ---- bytes

pub xored_length : (x y : List ℕ) → length (xored x y) ≡ length x
unfolding xored
xored_length x y = tabulate_length (length x) _

pub xored_at : (x y : List ℕ) (k : ℕ) → k < length x → get_or (xored x y) k 0 ≡ get_or x k 0 ⊕ get_or y k 0
unfolding xored
xored_at x y k h = tabulate_at (length x) k _ h

-- done twice, it is undone
pub xored_twice : (x y : List ℕ) → xored (xored x y) y ≡ x
xored_twice x y =
    let e = xored_length x y in
    ext_get_or 0 (xored (xored x y) y) x (xored_length (xored x y) y ∙ e) (λ k h.
    let q : k < length x = omega (arith, e, xored_length (xored x y) y) in
    xored_at (xored x y) y k (omega arith) ∙ ap (λ (b : ℕ). b ⊕ get_or y k 0) (xored_at x y k q) ∙ simp xors)

-- ---- texts and cells

pub xored_letter : (p : ℕ) (u v : List ℕ) (i j : ℕ) → length u ≡ text_length p → i < p - 1 → j < p - 3
    → text_byte p (xored u v) i j ≡ text_byte p u i j ⊕ text_byte p v i j
xored_letter p u v i j e hi hj = xored_at u v _ (omega (arith, e, row_lt (p - 1) (p - 3) i j hi hj))

module _ (p : ℕ) (x y : List ℕ) (e : length x ≡ tile_length p) where
  pub xored_cell : (i j : ℕ) → i < p - 1 → j < p - 1 → cell p (xored x y) i j ≡ cell p x i j ⊕ cell p y i j
  xored_cell i j hi hj =
      cell_in p (xored x y) i j hi hj ∙ xored_at x y (place p i j) (omega (arith, place_lt p i j hi hj))
      ∙ ap₂ ◌⊕◌ (sym (cell_in p x i j hi hj)) (sym (cell_in p y i j hi hj))

  -- a tile with these cells is it
  pub xored_is : (z : List ℕ) → 1 < p → length z ≡ tile_length p
      → ((i j : ℕ) → i < p - 1 → j < p - 1 → cell p z i j ≡ cell p x i j ⊕ cell p y i j) → z ≡ xored x y
  xored_is z h f same =
      cells_determine p z (xored x y) h f (xored_length x y ∙ e) (λ i j hi hj. same i j hi hj ∙ sym (xored_cell i j hi hj))

  -- the XOR of two good tiles is good
  pub xored_good : (l : ℕ) → Good p l x → Good p l y → Good p l (xored x y)
  xored_good l g h = good_xor p l x y (xored x y) g h xored_cell

  -- the text of the XOR is the XOR of the texts
  pub xored_text : 3 < p → text_of p (xored x y) ≡ xored (text_of p x) (text_of p y)
  xored_text h =
      text_is p (xored x y) (xored (text_of p x) (text_of p y)) h (xored_length _ _ ∙ text_length_lem p x) (λ i j hi hj.
      xored_letter p (text_of p x) (text_of p y) i j (text_length_lem p x) hi hj
      ∙ ap₂ ◌⊕◌ (text_at p x i j hi hj) (text_at p y i j hi hj) ∙ sym (xored_cell i j hi (omega arith)))
