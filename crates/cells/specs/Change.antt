-- A change added to a tile. Assumes nothing.
use Rattle.std.specs.Prelude.{◌≡◌, refl, List, ℕ, ◌+◌, ◌-◌, ◌*◌, ◌≤◌, ◌<◌, eqb, length, set}
use Rattle.std.proofs.Common.{sym, ap, ap₂, ◌∙◌, mul-le-mul_left, arith, length-set, eq-eqb, ne_eqb}
use Rattle.std.proofs.Math.Decide.{ℕ_discrete}
use Rattle.std.specs.Int.Bits.{bit_xor}
use Rattle.xor.specs.Xor.{◌⊕◌, assoc, zero_r}
use Rattle.xor.specs.Sum.{xor_below, keep, keep_comm, none, more, ext, at}
use Rattle.code.specs.Tile.{Cells, tile_length, place, cell, sum, Good, text_of}
use Rattle.code.specs.Sums.{Padded, lone, plus, padded_plus, one_sum_ext}
use Rattle.code.specs.Place.{row_one, cell_in, cell_padded, same_within, place_is, cells_determine, tile_of, tile_length_lem, tile_in, text_byte, text_length_lem, text_at, text_is}
use Rattle.code.specs.Settle.{Settles, settles_good}
use Rattle.code.specs.OneLine.{row_at, column_at, along}
use Rattle.code.specs.declared.Line.{Line}
use Rattle.code.specs.declared.Line.TheVariants.{Row, Column}
use Rattle.code.specs.Held.{held, hit}

-- y is x with the change D added
abbrev pub Added : ℕ → Cells → List ℕ → List ℕ → Type 0
Added p D x y = (i j : ℕ) → i < p - 1 → j < p - 1 → cell p y i j ≡ cell p x i j ⊕ D i j

-- what the first n bytes of a run, from `start` on in steps, add at v
unfoldable pub run_part : ℕ → ℕ → (ℕ → ℕ) → ℕ → ℕ → ℕ
run_part start step x v n = xor_below n (λ k. keep (eqb (start + step * k) v) (x k))

-- the first n bytes of a run are added
pub record RunAdded (start step n : ℕ) (x : ℕ → ℕ) (from to : List ℕ) : Type 0 where
  pub size : length to ≡ length from
  pub added : (v : ℕ) → held to v ≡ held from v ⊕ run_part start step x v n

-- ---- a run, added byte by byte

-- it stays within a list that holds its last byte
pub run_in : (start step n k len : ℕ) → k < n → start + step * (n - 1) < len → start + step * k < len
run_in start step n k len h l = let m : k ≤ n - 1 = omega arith in omega (arith, mul-le-mul_left step m)

-- none is added yet
pub run_none : (start step : ℕ) (x : ℕ → ℕ) (tile : List ℕ) → RunAdded start step 0 x tile tile
unfolding run_part
run_none start step x tile = record { size = refl; added = λ v. rw none (sym (zero_r _)) }

-- one more is
pub run_more : {start step n : ℕ} {x : ℕ → ℕ} {from to : List ℕ} → start + step * n < length to
    → RunAdded start step n x from to → RunAdded start step (n + 1) x from (set to (start + step * n) (bit_xor (held to (start + step * n)) (x n)))
unfolding run_part
run_more {start} {step} {n} {x} {from} {to} h r = record {
  size = length-set to (start + step * n) _ ∙ r.size;
  added = λ v. hit to (start + step * n) (x n) v h ∙ rw (r.added v, more n (λ k. keep (eqb (start + step * k) v) (x k))) (assoc _ _ _);
}

-- ---- the run of a line, where there are n rows of w bytes, row by row

-- y is x with the change D added
pub record RowsAdded (n w : ℕ) (D : Cells) (x y : List ℕ) : Type 0 where
  pub size : length y ≡ length x
  pub added : (i j : ℕ) → i < n → j < w → held y (i * w + j) ≡ held x (i * w + j) ⊕ D i j

-- where a line's first byte stands, how far each is from the one before it, and how many there are
abbrev pub begin : ℕ → Line → ℕ
begin w (Row r) = r * w
begin w (Column c) = c

abbrev pub stride : ℕ → Line → ℕ
stride w (Row r) = 1
stride w (Column c) = w

abbrev pub count : ℕ → ℕ → Line → ℕ
count n w (Row r) = w
count n w (Column c) = n

-- it is one of these rows, or of these columns
abbrev pub Among : ℕ → ℕ → Line → Type 0
Among n w (Row r) = r < n
Among n w (Column c) = c < w

-- its k-th byte stands there, in numbers
nth_at : (w : ℕ) (a : Line) (k : ℕ) → begin w a + stride w a * k ≡ row_at a k * w + column_at a k
nth_at w (Row r) k = omega arith
nth_at w (Column c) k = omega arith

-- the test of a byte is that of its row and that of its column
byte_test : (w i j i' j' x : ℕ) → j < w → j' < w → keep (eqb (i' * w + j') (i * w + j)) x ≡ keep (eqb i i') (keep (eqb j j') x)
byte_test w i j i' j' x h h' = go (ℕ_discrete i i') (ℕ_discrete j j')
  where
    go : Dec (i ≡ i') → Dec (j ≡ j') → keep (eqb (i' * w + j') (i * w + j)) x ≡ keep (eqb i i') (keep (eqb j j') x)
    go (yes e) (yes d) = rw (e, d, eq-eqb i' i' refl, eq-eqb j' j' refl, eq-eqb (i' * w + j') (i' * w + j') refl)
    go (yes e) (no d) = rw (e, eq-eqb i' i' refl, ne_eqb j j' d, ne_eqb (i' * w + j') (i' * w + j) (λ q. d (sym (row_one w i' j' i' j h' h q).1)))
    go (no e) b = rw (ne_eqb i i' e, ne_eqb (i' * w + j') (i * w + j) (λ q. e (sym (row_one w i' j' i j h' h q).0)))

-- what the run of a line adds to a byte
line_part : (n w : ℕ) (a : Line) (x : ℕ → ℕ) (i j : ℕ) → Among n w a → i < n → j < w
    → run_part (begin w a) (stride w a) x (i * w + j) (count n w a) ≡ along a x i j
unfolding run_part
line_part n w (Row r) x i j h hi hj =
    ext w _ _ (λ k l. rw (nth_at w (Row r) k) (byte_test w i j r k (x k) hj l ∙ keep_comm (eqb i r) (eqb j k) (x k)))
    ∙ at w j (λ k. keep (eqb i r) (x k)) hj
line_part n w (Column c) x i j h hi hj =
    ext n _ _ (λ k l. rw (nth_at w (Column c) k) (byte_test w i j k c (x k) hj h))
    ∙ at n i (λ k. keep (eqb j c) (x k)) hi

-- so with its run a line's change is added
pub line_added : (n w : ℕ) (a : Line) {x : ℕ → ℕ} {from to : List ℕ} → Among n w a → RunAdded (begin w a) (stride w a) (count n w a) x from to
    → RowsAdded n w (along a x) from to
line_added n w a {x} {from} {to} h r = record {
  size = r.size;
  added = λ i j hi hj. r.added (i * w + j) ∙ ap (λ (y : ℕ). held from (i * w + j) ⊕ y) (line_part n w a x i j h hi hj);
}

-- and that of a column that is not there is nothing
pub column_none : (n w c : ℕ) (x : ℕ → ℕ) (bytes : List ℕ) → w ≤ c → RowsAdded n w (along (Column c) x) bytes bytes
column_none n w c x bytes h = record {
  size = refl;
  added = λ i j hi hj. sym (rw (ne_eqb j c (omega arith)) (zero_r _));
}

-- ---- tiles and texts, by their rows

-- the rows of a tile are its cells, but for the last two columns those of its text
pub tile_added : (p : ℕ) {D : Cells} {x y : List ℕ} → RowsAdded (p - 1) (p - 1) D x y → Added p D x y
tile_added p {D} {x} {y} r i j hi hj = rw (cell_in p y i j hi hj, cell_in p x i j hi hj, place_is p i j) (r.added i j hi hj)

-- so where a change is added to a tile, and to its text, that is the text of the new tile
pub text_added : (p : ℕ) {D : Cells} (x y : List ℕ) {text text' : List ℕ} → 3 < p → Added p D x y → text ≡ text_of p x → RowsAdded (p - 1) (p - 3) D text text'
    → text' ≡ text_of p y
text_added p {D} x y {text} {text'} h added e r =
    sym (text_is p y text' h (r.size ∙ ap length e ∙ text_length_lem p x) (λ i j hi hj.
    r.added i j hi hj
    ∙ ap (λ (v : ℕ). v ⊕ D i j) (ap (λ (t : List ℕ). text_byte p t i j) e ∙ text_at p x i j hi hj)
    ∙ sym (added i j hi (omega arith))))

-- the tile to which a change is added
pub changed : ℕ → Cells → List ℕ → List ℕ
changed p D x = tile_of p (plus (cell p x) D)

pub changed_added : (p : ℕ) (D : Cells) (x : List ℕ) → Added p D x (changed p D x)
unfolding changed
changed_added p D x i j hi hj = tile_in p (plus (cell p x) D) i j hi hj

pub changed_length : (p : ℕ) (D : Cells) (x : List ℕ) → length (changed p D x) ≡ tile_length p
unfolding changed
changed_length p D x = tile_length_lem p (plus (cell p x) D)

-- and it is the only one
pub added_changed : (p : ℕ) (D : Cells) (x y : List ℕ) → 1 < p → length y ≡ tile_length p → Added p D x y → y ≡ changed p D x
added_changed p D x y h e added =
    cells_determine p y (changed p D x) h e (changed_length p D x) (λ i j hi hj. added i j hi hj ∙ sym (changed_added p D x i j hi hj))

-- a byte that is added to one cell
pub cell_added : (p i j x k : ℕ) (y : List ℕ) → j < p - 1 → k ≡ place p i j → k < length y → Added p (lone i j x) y (set y k (bit_xor (held y k) x))
cell_added p i j x k y hj e h i' j' hi' hj' =
    cell_in p (set y k (bit_xor (held y k) x)) i' j' hi' hj' ∙ hit y k x (place p i' j') h
    ∙ ap₂ ◌⊕◌ (sym (cell_in p y i' j' hi' hj'))
    (ap (λ (m : ℕ). keep (eqb m (place p i' j')) x) e ∙ rw (place_is p i j, place_is p i' j') (byte_test (p - 1) i' j' i j x hj' hj))

-- ---- what a change makes of a tile

-- a change that settles the tile's sums, once added, makes a good tile
pub changed_good : (p l : ℕ) (x z : List ℕ) (D : Cells) → Padded p D → Settles p l (sum p 1 (cell p x)) (sum p l (cell p x)) D → Added p D x z → Good p l z
changed_good p l x z D padded settles added =
    one_sum_ext p l (plus (cell p x) D) (cell p z)
    (same_within p (plus (cell p x) D) (cell p z) (padded_plus p (cell p x) D (cell_padded p x) padded) (cell_padded p z) (λ i j hi hj. sym (added i j hi hj)))
    (settles_good p l (cell p x) D settles)
