-- How a sheet's corrections are made, record by record, and that what they make is the change that is asked for. Assumes nothing.
use Rattle.std.specs.Prelude.{◌≡◌, refl, List, ℕ, ◌+◌, ◌-◌, ◌<◌, eqb, length, set, replicate}
use Rattle.std.proofs.Common.{sym, ap, ap₂, ◌∙◌, arith, length-set, ne_eqb}
use Rattle.std.proofs.Math.Decide.{ℕ_discrete}
use Rattle.std.specs.Int.Bits.{bit_xor}
use Rattle.xor.specs.Xor.{◌⊕◌, ⊕_is, assoc, zero_r}
use Rattle.xor.specs.Sum.{xor_below, keep, keep_zero, none, more, zeros}
use Rattle.code.specs.Slope.{Slope}
use Rattle.code.specs.Tile.{Cells, tile_length, place, cell, line, sum, text_length, Writes}
use Rattle.code.specs.Sums.{Padded, Same, plus, padded_plus, one_sum_ext, lone, sum_plus, sum_ext, sum_zeros, sum_lone}
use Rattle.code.specs.Place.{place_lt, tile_of, tile_length_lem, tile_cells, from_length, from_at, text_byte, text_is}
use Rattle.code.specs.Xored.{xored_is}
use Rattle.code.specs.Settle.{settles_good, settles_sums}
use Rattle.code.specs.declared.Line.TheVariants.{Column}
use Rattle.code.specs.Held.{held, hit, zeros_held}
use Rattle.walk.specs.Sums.{Sums}
use Rattle.chain.specs.Cases.{held_totals}
use Rattle.cells.specs.Change.{Added, cell_added}
use Rattle.chain.specs.Settled.{LinesSettled}
use Rattle.sheet.specs.Sheet.{records, row_of, column_of, Names, was_of, is_of, difference_of, given, differences, Placed, SoundBelow}
use Rattle.sheet.specs.Calls.{Corrects}

-- x is added to the sum of the slope-s line through the cell in row i and column j
abbrev pub ByteAdded : ℕ → ℕ → ℕ → ℕ → ℕ → List ℕ → List ℕ → Type 0
ByteAdded p s i j x sums sums' = (t : ℕ) → held sums' t ≡ held sums t ⊕ keep (eqb (line p s i j) t) x

-- `sums[k] = sums[k] ^ x`, where k is the slope-s line through a cell
pub byte_added : (p s i j x : ℕ) (sums : List ℕ) (k : ℕ) → k ≡ line p s i j → k < length sums → ByteAdded p s i j x sums (set sums k (bit_xor (held sums k) x))
byte_added p s i j x sums k e h t = hit sums k x t h ∙ ap (λ (u : ℕ). held sums t ⊕ keep (eqb u t) x) e

-- what one record adds
abbrev pub lonely : List ℕ → ℕ → Cells
lonely sheet k = lone (row_of sheet k) (column_of sheet k) (difference_of sheet k)

-- no record gives nothing, and one more gives its difference for its place
pub given_none : (sheet : List ℕ) (i j : ℕ) → given sheet 0 i j ≡ 0
unfolding given
given_none sheet i j = none _

pub given_more : (sheet : List ℕ) (n i j : ℕ) → given sheet (n + 1) i j ≡ given sheet n i j ⊕ lonely sheet n i j
unfolding given
given_more sheet n i j = more n _

-- the first n records are made: their differences are added to the cells, and to the sums of their lines
pub record Made (p l : ℕ) (sheet x : List ℕ) (n : ℕ) (y a b : List ℕ) : Type 0 where
  pub size : length y ≡ length x
  pub cells : Added p (given sheet n) x y
  pub first : Sums p 1 (given sheet n) a
  pub second : Sums p l (given sheet n) b

-- none is made yet
pub made_none : (p l : ℕ) (sheet x : List ℕ) → Made p l sheet x 0 x (replicate 257 0) (replicate 257 0)
made_none p l sheet x = record {
  size = refl;
  cells = λ i j hi hj. sym (ap (λ (w : ℕ). cell p x i j ⊕ w) (given_none sheet i j) ∙ zero_r _);
  first = λ t h. zeros_held 257 t ∙ sym (sum_zeros p 1 t (given sheet 0) (λ i j hi hj. given_none sheet i j));
  second = λ t h. zeros_held 257 t ∙ sym (sum_zeros p l t (given sheet 0) (λ i j hi hj. given_none sheet i j));
}

-- a record's cell stands within the tile
pub cell_within : (p l : ℕ) (sheet x : List ℕ) (n : ℕ) (y a b : List ℕ) (i j k : ℕ) → Placed p sheet n → Names sheet i j n → k ≡ place p i j
    → length x ≡ tile_length p → Made p l sheet x n y a b → k < length y
cell_within p l sheet x n y a b i j k h at_place k_is e made = omega (arith, k_is, e, made.size, place_lt p i j (omega arith) (omega arith))

-- one more is made: to the sums of either slope ..
sum_more : (p s : ℕ) (sheet : List ℕ) (n d : ℕ) (a a' : List ℕ) → row_of sheet n < p → column_of sheet n < p → d ≡ difference_of sheet n
    → Sums p s (given sheet n) a → ByteAdded p s (row_of sheet n) (column_of sheet n) d a a' → Sums p s (given sheet (n + 1)) a'
sum_more p s sheet n d a a' hi hj e held_a added t h =
    added t
    ∙ ap₂ ◌⊕◌ (held_a t h) (ap (keep (eqb (line p s (row_of sheet n) (column_of sheet n)) t)) e ∙ sym (sum_lone p s t (row_of sheet n) (column_of sheet n) (difference_of sheet n) hi hj))
    ∙ sym (sum_ext p s t (given sheet (n + 1)) (plus (given sheet n) (lonely sheet n)) (λ i j hi hj. given_more sheet n i j) ∙ sum_plus p s t (given sheet n) (lonely sheet n))

-- .. and to its cell. The record names row i and column j, and says that w was and v is to be
pub made_more : (p l : ℕ) (sheet x : List ℕ) (n : ℕ) (y a b : List ℕ) (i j w v k : ℕ) (a' b' : List ℕ) → Placed p sheet n
    → Names sheet i j n → (w ≡ was_of sheet n) × (v ≡ is_of sheet n) → k ≡ place p i j → k < length y → Made p l sheet x n y a b
    → ByteAdded p 1 i j (bit_xor w v) a a' → ByteAdded p l i j (bit_xor w v) b b'
    → Made p l sheet x (n + 1) (set y k (bit_xor (held y k) (bit_xor w v))) a' b'
made_more p l sheet x n y a b i j w v k a' b' h at_place by k_is within made to_a to_b = record {
  size = length-set y k _ ∙ made.size;
  cells = λ i j hi hj.
      cell_added p (row_of sheet n) (column_of sheet n) (bit_xor w v) k y (omega arith) (rw (at_place.0, at_place.1) at k_is) within i j hi hj
      ∙ ap₂ ◌⊕◌ (made.cells i j hi hj) (ap (λ (d : ℕ). lone (row_of sheet n) (column_of sheet n) d i j) difference_is)
      ∙ assoc _ _ _ ∙ sym (ap (λ (d : ℕ). cell p x i j ⊕ d) (given_more sheet n i j));
  first = sum_more p 1 sheet n (bit_xor w v) a a' (omega arith) (omega arith) difference_is made.first (rw (at_place.0, at_place.1) at to_a);
  second = sum_more p l sheet n (bit_xor w v) b b' (omega arith) (omega arith) difference_is made.second (rw (at_place.0, at_place.1) at to_b);
}
  where
    difference_is : bit_xor w v ≡ difference_of sheet n
    difference_is = ap₂ bit_xor by.0 by.1 ∙ ⊕_is (was_of sheet n) (is_of sheet n)

-- ---- the differences, as a text

pub differences_length : (p : ℕ) (sheet : List ℕ) → length (differences p sheet) ≡ text_length p
unfolding differences
differences_length p sheet = from_length p (given sheet (records sheet))

pub differences_at : (p : ℕ) (sheet : List ℕ) (i j : ℕ) → i < p - 1 → j < p - 3 → text_byte p (differences p sheet) i j ≡ given sheet (records sheet) i j
unfolding differences
differences_at p sheet = from_at p (given sheet (records sheet))

-- ---- what the records make

-- a record gives nothing for another place
pub lonely_off : (sheet : List ℕ) (k i j : ℕ) → (Names sheet i j k → ⊥) → lonely sheet k i j ≡ 0
lonely_off sheet k i j d = go (ℕ_discrete i (row_of sheet k)) (ℕ_discrete j (column_of sheet k))
  where
    go : Dec (i ≡ row_of sheet k) → Dec (j ≡ column_of sheet k) → lonely sheet k i j ≡ 0
    go (yes e) (yes f) = absurd (d (e, f))
    go (yes e) (no f) = rw (ne_eqb j (column_of sheet k) f) (keep_zero (eqb i (row_of sheet k)))
    go (no e) f = rw (ne_eqb i (row_of sheet k) e)

-- so for a place that no record names, nothing is given
pub given_off : (sheet : List ℕ) (n i j : ℕ) → ((k : ℕ) → k < n → Names sheet i j k → ⊥) → given sheet n i j ≡ 0
unfolding given
given_off sheet n i j d = zeros n _ (λ k h. lonely_off sheet k i j (d k h))

module _ (p : ℕ) (sheet : List ℕ) (sound : SoundBelow p sheet (records sheet)) where
  -- what a sound sheet gives for each place ..
  abbrev differing : Cells
  differing = given sheet (records sheet)

  -- (nothing in the added row and column) ..
  given_padded : Padded p differing
  given_padded = record {
    row = λ j h. given_off sheet (records sheet) (p - 1) j (λ k q e. let s = (sound k q).1 in omega (arith, e.0, s.0));
    column = λ i h. given_off sheet (records sheet) i (p - 1) (λ k q e. let s = (sound k q).1 in omega (arith, e.1, s.1));
  }

  module _ (l : ℕ) (x y z a b : List ℕ) (S : Slope p l) (e : length x ≡ tile_length p) (made : Made p l sheet x (records sheet) y a b)
      (settled : LinesSettled p l (Column (p - 3)) (Column (p - 2)) (held a) (held b) y z) where
    -- .. with what the check columns add, is a tile ..
    abbrev checking : Cells
    checking = settled.by

    abbrev made_change : List ℕ
    made_change = tile_of p (plus differing checking)

    -- (with these cells ..
    change_cells : Same p (cell p made_change) (plus differing checking)
    change_cells = tile_cells p (plus differing checking) (padded_plus p differing checking given_padded settled.padded)

    -- .. good, and with the differences as its text)
    change_written : Writes p l (differences p sheet) made_change
    change_written = record {
      size = tile_length_lem p (plus differing checking);
      good = one_sum_ext p l (plus differing checking) (cell p made_change) (λ i j hi hj. sym (change_cells i j hi hj))
          (settles_good p l differing checking (settles_sums p l (held a) (held b) (sum p 1 differing) (sum p l differing) checking made.first made.second settled.settles));
      has = text_is p made_change (differences p sheet) (omega (arith, S.low, S.high)) (differences_length p sheet) (λ i j hi hj.
          differences_at p sheet i j hi hj
          ∙ sym (change_cells i j (omega arith) (omega arith) ∙ ap (λ (w : ℕ). differing i j ⊕ w) (settled.off i j (omega arith) (omega arith) (omega arith) (omega arith)) ∙ zero_r _));
    }

    -- .. that is the change that is asked for
    pub made_corrects : Corrects p l sheet x z
    made_corrects = record {
      change = made_change;
      written = change_written;
      becomes = xored_is p x made_change e z (omega (arith, S.low, S.high)) (settled.size ∙ made.size ∙ e) (λ i j hi hj.
          settled.added i j hi hj ∙ ap (λ (w : ℕ). w ⊕ checking i j) (made.cells i j hi hj) ∙ assoc _ _ _
          ∙ ap (λ (w : ℕ). cell p x i j ⊕ w) (sym (change_cells i j (omega arith) (omega arith))));
    }

-- the sums that the records leave have one total
pub made_totals : (p l : ℕ) (sheet x : List ℕ) (n : ℕ) (y a b : List ℕ) → Made p l sheet x n y a b → xor_below p (held a) ≡ xor_below p (held b)
made_totals p l sheet x n y a b made = held_totals p l (given sheet n) a b made.first made.second
