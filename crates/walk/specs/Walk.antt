-- The walk of a tile that fills the sums of the turned tile's lines: what the rows passed have added to each line. A row is added in runs:
-- the bytes of a run, which follow each other in memory, are added to sums that do too. Assumes nothing.
use Rattle.std.specs.Prelude.{◌≡◌, List, ℕ, ◌+◌, ◌-◌, ◌*◌, ◌%◌, ◌<◌, eqb, length, take, drop, set, replicate}
use Rattle.std.proofs.Common.{sym, ap, ap₂, ◌∙◌, mod-lt, mod-eq_of_lt, arith}
use Rattle.std.proofs.Math.Nat.{mod-add-mod}
use Rattle.std.proofs.lemmas.List.{length-take, length-drop, get_or-take, get_or-drop}
use Rattle.std.proofs.lemmas.List.Edits.{get_or-between}
use Rattle.std.specs.List.{between}
use Rattle.std.specs.Int.Bits.{bit_xor}
use Rattle.xor.specs.Xor.{◌⊕◌, assoc, zero_r}
use Rattle.xor.specs.Sum.{xor_below, keep, keep_zero, none, more, count, ext, zeros, parts, swap}
use Rattle.residue.specs.Remainder.{same, alike}
use Rattle.code.specs.Tile.{Cells, cell, line, sum}
use Rattle.code.specs.Place.{cell_in, place_is, cell_padded}
use Rattle.code.specs.Turn.{turned, turn_second}
use Rattle.code.specs.Held.{held, hit, zeros_held}
use Rattle.walk.specs.Sums.{Summed, Sums, Stepped}
use Rattle.walk.specs.Fill.{begins, carried}
use Rattle.walk.specs.Along.{Stepping}

-- ---- a run

-- what the first n of some bytes add to sum t, where they are added to the sums from `first` on
unfoldable pub run_part : List ℕ → ℕ → ℕ → ℕ → ℕ
run_part bytes n first t = xor_below n (λ k. keep (eqb (first + k) t) (held bytes k))

-- they are added to the sums
pub record BytesAdded (bytes : List ℕ) (n first : ℕ) (sums sums' : List ℕ) : Type 0 where
  pub added : (t : ℕ) → held sums' t ≡ held sums t ⊕ run_part bytes n first t

-- no byte is added yet
pub bytes_none : {bytes : List ℕ} {first : ℕ} {sums : List ℕ} → BytesAdded bytes 0 first sums sums
unfolding run_part
bytes_none = record { added = λ t. rw none (sym (zero_r _)) }

-- one more is
pub bytes_more : {bytes : List ℕ} {k first : ℕ} {sums sums' : List ℕ} → first + k < length sums' → BytesAdded bytes k first sums sums'
    → BytesAdded bytes (k + 1) first sums (set sums' (first + k) (bit_xor (held sums' (first + k)) (held bytes k)))
unfolding run_part
bytes_more {bytes} {k} {first} {sums} {sums'} h b = record {
  added = λ t. hit sums' (first + k) (held bytes k) t h
      ∙ rw (b.added t, more k (λ k. keep (eqb (first + k) t) (held bytes k))) (assoc _ _ _);
}

-- ---- a row

-- what the p-1 bytes of a row add to the sum of line t, where the first of them is on line `first`. After line p-1 comes line 0
unfoldable pub row_part : ℕ → List ℕ → ℕ → ℕ → ℕ
row_part p row first t = xor_below (p - 1) (λ k. keep (eqb ((first + k) % p) t) (held row k))

-- they are added to the sums
pub record RowAdded (p : ℕ) (row : List ℕ) (first : ℕ) (sums sums' : List ℕ) : Type 0 where
  pub added : (t : ℕ) → held sums' t ≡ held sums t ⊕ row_part p row first t

-- from line 0 on it is one run
pub one_run : {p : ℕ} {row sums sums' : List ℕ} → length row ≡ p - 1 → BytesAdded row (length row) 0 sums sums' → RowAdded p row 0 sums sums'
unfolding run_part row_part
one_run {p} {row} {sums} e b = record {
  added = λ t. b.added t ∙ rw e (ap (λ (x : ℕ). held sums t ⊕ x)
      (ext (p - 1) _ _ (λ k h. ap (λ (u : ℕ). keep (eqb u t) (held row k)) (sym (mod-eq_of_lt (omega arith))))));
}

-- and else two
pub two_runs : {p : ℕ} {row : List ℕ} {first : ℕ} {sums between sums' : List ℕ} → 0 < first → first < p → length row ≡ p - 1
    → BytesAdded (take (p - first) row) (length (take (p - first) row)) first sums between
    → BytesAdded (drop (p - first) row) (length (drop (p - first) row)) 0 between sums' → RowAdded p row first sums sums'
unfolding run_part row_part
two_runs {p} {row} {first} {sums} {between} {sums'} pos lt e b b' = record {
  added = λ t. behind.added t ∙ rw (ahead.added t) (assoc _ _ _ ∙ ap (λ (x : ℕ). held sums t ⊕ x) (sym (
      count (p - 1) (p - first + (first - 1)) _ (omega arith) ∙ parts (p - first) (first - 1) _ ∙ ap₂ ◌⊕◌
      (ext (p - first) _ _ (λ k h. ap₂ (λ (u v : ℕ). keep (eqb u t) v) (mod-eq_of_lt (omega arith)) (sym (get_or-take (p - first) row k 0 h))))
      (ext (first - 1) _ _ (λ k h. ap₂ (λ (u v : ℕ). keep (eqb u t) v)
      (alike p _ (0 + k) 0 1 (omega arith) ∙ mod-eq_of_lt (omega arith)) (sym (get_or-drop (p - first) row k 0)))))));
}
  where
    ahead_long : length (take (p - first) row) ≡ p - first
    ahead_long = omega (arith, length-take (p - first) row)

    ahead : BytesAdded (take (p - first) row) (p - first) first sums between
    ahead = rw ahead_long at b

    behind_long : length (drop (p - first) row) ≡ first - 1
    behind_long = omega (arith, length-drop (p - first) row)

    behind : BytesAdded (drop (p - first) row) (first - 1) 0 between sums'
    behind = rw behind_long at b'

-- ---- rows

-- row i of a tile
abbrev pub row_of : ℕ → List ℕ → ℕ → List ℕ
row_of p tile i = between (i * (p - 1)) (i * (p - 1) + (p - 1)) tile

-- what the rows before row i add to the sum of the turned tile's slope-m line t: the first cell of row r is its cell (0, r)
unfoldable pub rows_part : ℕ → ℕ → List ℕ → ℕ → ℕ → ℕ
rows_part p m tile i t = xor_below i (λ r. row_part p (row_of p tile r) (line p m 0 r) t)

-- they are added to sums of zeros, and the first cell of row i is on line `first`
pub record RowsAdded (p m : ℕ) (tile : List ℕ) (i first : ℕ) (sums : List ℕ) : Type 0 where
  pub lt : first < p
  pub is : first ≡ line p m 0 i
  pub added : (t : ℕ) → held sums t ≡ rows_part p m tile i t

-- none is added yet
pub rows_none : (p m : ℕ) (tile : List ℕ) → 0 < p → RowsAdded p m tile 0 0 (replicate 257 0)
unfolding rows_part
rows_none p m tile h = record { lt = h; is = begins p 0 m h; added = λ t. zeros_held 257 t ∙ sym (none _) }

-- one more is
pub rows_more : {p m : ℕ} {tile : List ℕ} {i first next : ℕ} {sums sums' : List ℕ} → RowAdded p (row_of p tile i) first sums sums' → Stepped p first m next
    → RowsAdded p m tile i first sums → RowsAdded p m tile (i + 1) next sums'
unfolding rows_part
rows_more {p} {m} {tile} {i} {first} {next} d s r = record {
  lt = s.lt;
  is = carried p 0 m i first next r.is s;
  added = λ t. d.added t ∙ rw (r.added t, r.is) (sym (more i _));
}

-- the added row and column of zeros add nothing
pub last : (p : ℕ) (f : ℕ → ℕ) → 0 < p → f (p - 1) ≡ 0 → xor_below p f ≡ xor_below (p - 1) f
last p f h e = count p (p - 1 + 1) f (omega arith) ∙ more (p - 1) f ∙ rw e (zero_r _)

-- a row of the tile is a column of the turned tile
row_column : (p m : ℕ) (tile : List ℕ) (t i : ℕ) → i < p - 1
    → row_part p (row_of p tile i) (line p m 0 i) t ≡ xor_below (p - 1) (λ k. keep (eqb (line p m k i) t) (cell p tile i k))
unfolding row_part
row_column p m tile t i h = ext (p - 1) _ _ (λ k q. ap₂ (λ (u v : ℕ). keep (eqb u t) v)
    (mod-add-mod (0 + m * i) p k ∙ same p (omega arith))
    (get_or-between tile (i * (p - 1)) _ k 0 (omega arith) ∙ sym (cell_in p tile i k h q ∙ ap (held tile) (place_is p i k))))

-- so the rows of the tile have added the sums of the turned tile
pub rows_all : {p m : ℕ} {tile : List ℕ} {first : ℕ} {sums : List ℕ} → RowsAdded p m tile (p - 1) first sums → Sums p m (turned (cell p tile)) sums
unfolding sum rows_part
rows_all {p} {m} {tile} r t h = let d = cell_padded p tile in
    r.added t ∙ ext (p - 1) _ _ (row_column p m tile t) ∙ sym (
    swap p p _
    ∙ ext p _ _ (λ i l. last p (λ k. keep (eqb (line p m k i) t) (cell p tile i k)) (omega arith) (rw (d.column i l, keep_zero)))
    ∙ last p _ (omega arith) (zeros (p - 1) _ (λ k l. rw (d.row k (omega arith), keep_zero))))

-- line t of slope s is the turned tile's line m t of the inverse slope m
pub turned_back : (p s m : ℕ) (T : Cells) {A A' : ℕ → ℕ} → s * m % p ≡ 1 → Summed p m (turned T) A → Stepping p 0 m A A' → Summed p s T A'
turned_back p s m T {A} inverse h e t l =
    e t l ∙ ap A (same p (omega arith)) ∙ h (m * t % p) (mod-lt (m * t) (omega arith))
    ∙ sym (turn_second p m s (same p (omega arith) ∙ inverse) t (turned T) l)
