-- The sum of one line of slope 1, by rows: line t has one cell in each row. Row `below`, t + 2 modulo p, has it in the last column. From
-- there on, and from row 0 on, the cells go down to the left, each p-2 places further in memory. The row above `below` has it in the added
-- column. Assumes nothing.
use Rattle.std.specs.Prelude.{◌≡◌, List, ℕ, ◌+◌, ◌-◌, ◌*◌, ◌%◌, ◌≤◌, ◌<◌}
use Rattle.std.proofs.Common.{sym, ap, ◌∙◌, mod-eq_of_lt, arith}
use Rattle.std.proofs.Math.Nat.{mod-add-mod}
use Rattle.std.specs.Int.Bits.{bit_xor}
use Rattle.xor.specs.Xor.{◌⊕◌, ⊕_is, comm, zero_l}
use Rattle.xor.specs.Sum.{xor_below, more, count, ext, zeros, parts}
use Rattle.residue.specs.Remainder.{same, alike, before, before_lt, step_before, same_step}
use Rattle.code.specs.Tile.{Cells, cell, sum, tile_length}
use Rattle.code.specs.Sums.{sum_by_column}
use Rattle.code.specs.Turn.{turned, turn_first}
use Rattle.code.specs.Place.{row_lt, cell_in, place_is, cell_padded}
use Rattle.code.specs.Held.{held}
use Rattle.walk.specs.Sums.{Stepped}
use Rattle.walk.specs.Walk.{last}

-- ---- a run

-- the bytes of a run: the first at `start`, and each `step` after the one before it
abbrev pub run : List ℕ → ℕ → ℕ → ℕ → ℕ
run tile start step k = held tile (start + step * k)

-- the sum of one more
pub run_more : (tile : List ℕ) (start step k : ℕ) → bit_xor (xor_below k (run tile start step)) (run tile start step k) ≡ xor_below (k + 1) (run tile start step)
run_more tile start step k = ⊕_is _ _ ∙ sym (more k _)

-- k rows down and k columns to the left of cell (i, j), it is p-2 places further for each
down_left : (p i j k : ℕ) → 2 ≤ p → k ≤ j → (i + k) * (p - 1) + (j - k) ≡ i * (p - 1) + j + (p - 2) * k
down_left p i j k h l = omega (arith, ap (λ (x : ℕ). x * k) {x = p - 1} {y = p - 2 + 1} (omega arith))

-- and that is within the tile
pub run_within : (p i j k : ℕ) → k ≤ j → j < p - 1 → i + k < p - 1 → i * (p - 1) + j + (p - 2) * k < tile_length p
run_within p i j k l hj hi = omega (arith, down_left p i j k (omega arith) l, row_lt (p - 1) (p - 1) (i + k) (j - k) hi (omega arith))

-- ---- a row

-- the cell of line t in row i
abbrev in_row : ℕ → ℕ → Cells → ℕ → ℕ
in_row p t T i = T i (before p (1 * i) t)

-- the line's sum is that of one cell of each row
by_rows : (p t : ℕ) (T : Cells) → t < p → sum p 1 T t ≡ xor_below p (in_row p t T)
by_rows p t T h = sym (turn_first p t T) ∙ sum_by_column p 1 t (turned T) h

-- the column in which it is
column_is : (p t i j : ℕ) → j < p → (j + i) % p ≡ t → before p (1 * i) t ≡ j
column_is p t i j h e = rw (same p {a = j + 1 * i} {b = j + i} (omega arith) ∙ e) at (step_before p (1 * i) j h)

-- within the tile it is a byte
row_byte : (p t : ℕ) (tile : List ℕ) (i j : ℕ) → i < p - 1 → j < p - 1 → (j + i) % p ≡ t
    → in_row p t (cell p tile) i ≡ held tile (i * (p - 1) + j)
row_byte p t tile i j hi hj e =
    ap (cell p tile i) (column_is p t i j (omega arith) e) ∙ cell_in p tile i j hi hj ∙ ap (held tile) (place_is p i j)

-- and in the added column it is zero
row_added : (p t : ℕ) (tile : List ℕ) (i : ℕ) → i < p → (p - 1 + i) % p ≡ t → in_row p t (cell p tile) i ≡ 0
row_added p t tile i h e = ap (cell p tile i) (column_is p t i (p - 1) (omega arith) e) ∙ (cell_padded p tile).column i h

-- ---- the rows

-- a step of 2 that comes to 2 or more has not passed p
pub ahead : (p t below : ℕ) → t < p → Stepped p t 2 below → 2 ≤ below → below ≡ t + 2
ahead p t below lt s h =
    omega (arith, same_step p 2 (below - 2) t (omega arith) lt (same p (omega arith) ∙ mod-eq_of_lt s.lt ∙ s.is))

-- the sum of the run from row `below` on, and of the run from row 0 on
abbrev pub lower_sum : ℕ → ℕ → List ℕ → ℕ
lower_sum p below tile = xor_below (p - 1 - below) (run tile (below * (p - 1) + (p - 2)) (p - 2))

abbrev pub upper_sum : ℕ → ℕ → List ℕ → ℕ
upper_sum p t tile = xor_below (t + 1) (run tile t (p - 2))

module _ (p t below : ℕ) (tile : List ℕ) (three : 3 ≤ p) (lt : t < p) (s : Stepped p t 2 below) where
  -- the cell (below, p-2), those down to the left of it and the one up to the right are on line t
  on_line : (i j : ℕ) → j + i ≡ below + (p - 2) → (j + i) % p ≡ t
  on_line i j e =
      same p e ∙ ap (λ (x : ℕ). (x + (p - 2)) % p) s.is ∙ mod-add-mod (t + 2) p (p - 2) ∙ alike p _ t 0 1 (omega arith) ∙ mod-eq_of_lt lt

  -- the rows from `below` on are a run
  lower : xor_below (p - 1 - below) (λ k. in_row p t (cell p tile) (below + k)) ≡ lower_sum p below tile
  lower = ext (p - 1 - below) _ _ (λ k h.
      row_byte p t tile (below + k) (p - 2 - k) (omega arith) (omega arith) (on_line (below + k) (p - 2 - k) (omega arith))
      ∙ ap (held tile) (down_left p below (p - 2) k (omega arith) (omega arith)))

  -- the row above is zero
  above : (i : ℕ) → i + 1 ≡ below → in_row p t (cell p tile) i ≡ 0
  above i e = row_added p t tile i (omega arith) (on_line i (p - 1) (omega arith))

  -- the rows before that one are a run
  upper : below ≡ t + 2 → xor_below (t + 1) (in_row p t (cell p tile)) ≡ upper_sum p t tile
  upper e = ext (t + 1) _ _ (λ i h.
      row_byte p t tile i (t - i) (omega arith) (omega arith) (same p (omega arith) ∙ mod-eq_of_lt lt)
      ∙ ap (held tile) (omega (arith, down_left p 0 t i (omega arith) (omega arith))))

  -- so the line's sum is that of the rows before `below`, and of a run
  halves : sum p 1 (cell p tile) t ≡ xor_below below (in_row p t (cell p tile)) ⊕ lower_sum p below tile
  halves =
      by_rows p t (cell p tile) lt
      ∙ last p _ (omega arith) ((cell_padded p tile).row _ (before_lt p (1 * (p - 1)) t (omega arith)))
      ∙ count (p - 1) (below + (p - 1 - below)) _ (omega arith)
      ∙ parts below (p - 1 - below) _
      ∙ ap (λ (x : ℕ). xor_below below (in_row p t (cell p tile)) ⊕ x) lower

  -- where `below` is 0 or 1, of that run alone
  pub sum_lower : below < 2 → lower_sum p below tile ≡ sum p 1 (cell p tile) t
  sum_lower h = sym (halves ∙ rw (zeros below (in_row p t (cell p tile)) (λ i l. above i (omega arith))) (zero_l _))

  -- and else of both
  pub sum_both : 2 ≤ below → lower_sum p below tile ⊕ upper_sum p t tile ≡ sum p 1 (cell p tile) t
  sum_both h =
      let e = ahead p t below lt s h in
      sym (halves ∙ comm _ _ ∙ ap (λ (x : ℕ). lower_sum p below tile ⊕ x)
      (last below _ (omega arith) (above (below - 1) (omega arith)) ∙ count (below - 1) (t + 1) _ (omega arith) ∙ upper e))
