-- FILLING, of lists of bytes: which good tiles agree with a given tile outside one or two lines (SPEC 5.4). In two columns, and in two
-- rows, there is exactly one; in a row with a column, and in one line, there is at most one, and there is one exactly if the sums agree.
-- Assumes nothing.
use Rattle.std.specs.Prelude.{◌≡◌, refl, ◌≢◌, ◌⊎◌, ◌↔◌, List, ℕ, ◌-◌, ◌<◌}
use Rattle.std.proofs.Common.{sym, ap, ◌∙◌, arith}
use Rattle.xor.specs.Xor.{◌⊕◌, again, zero_r, self, byte}
use Rattle.residue.specs.Power.{ReachesAll}
use Rattle.code.specs.Slope.{Slope, slope_inverse}
use Rattle.code.specs.Tile.{Cells, cell, line, sum, Fills, Bytes}
use Rattle.code.specs.Sums.{Same, plus, padded_plus, one_sum_ext, sum_byte, totals}
use Rattle.code.specs.Place.{difference, difference_padded, cell_byte, cell_padded, tile_of, tile_length_lem, tile_cells, tile_bytes_lem}
use Rattle.code.specs.Settle.{Settles, settles_good, good_settles}
use Rattle.code.specs.OneLine.{number, nth, ZeroOff, Agree, shifted, one_line_agrees, one_line_change}
use Rattle.code.specs.Pair.{ZeroOffBoth, pair_crossing}
use Rattle.code.specs.Distance.{Parallel, equal_tiles, within_off}
use Rattle.code.specs.Existence.{Settled, line_settled, columns_settled, rows_settled, crossed_settled}
use Rattle.code.specs.declared.Line.{Line}
use Rattle.code.specs.declared.Line.TheVariants.{Row, Column}

-- there is a filling, of bytes where the tile is
abbrev pub Filled : ℕ → ℕ → Line → Line → List ℕ → Type 0
Filled p l a b x = (y : List ℕ) × Fills p l a b x y × (Bytes x → Bytes y)

-- two fillings are the same
pub filled_once : (p l : ℕ) (a b : Line) (x y z : List ℕ) → Slope p l → (Parallel a b) ⊎ (ReachesAll p l) → Fills p l a b x y → Fills p l a b x z → y ≡ z
filled_once p l a b x y z S h f g =
    equal_tiles p l a b y z S h f.size g.size f.good g.good (λ i j hi hj d e. sym (f.agrees i j hi hj d e) ∙ g.agrees i j hi hj d e)

-- ---- a filling is a change that settles the tile's sums

module _ (p l : ℕ) (a b : Line) (x : List ℕ) where
  -- a change within the lines that settles the tile's sums makes a filling
  pub settled_filled : Settled p l a b (sum p 1 (cell p x)) (sum p l (cell p x)) → Filled p l a b x
  settled_filled t = (
    tile_of p U,
    record {
      size = tile_length_lem p U;
      good = one_sum_ext p l U (cell p (tile_of p U)) (λ i j hi hj. sym (cells i j hi hj)) (settles_good p l (cell p x) t.by t.settles);
      agrees = λ i j hi hj d e.
          sym (cells i j (omega arith) (omega arith) ∙ ap (λ (z : ℕ). cell p x i j ⊕ z) (t.off i j (omega arith) (omega arith) d e) ∙ zero_r _);
    },
    λ h. tile_bytes_lem p U (λ i j. byte _ _ (cell_byte p x h i j) (t.bytes (sum_bytes h 1) (sum_bytes h l) i j)),
  )
    where
      U : Cells
      U = plus (cell p x) t.by

      cells : Same p (cell p (tile_of p U)) U
      cells = tile_cells p U (padded_plus p (cell p x) t.by (cell_padded p x) t.padded)

      sum_bytes : Bytes x → (s k : ℕ) → sum p s (cell p x) k < 256
      sum_bytes h s k = sum_byte p s k (cell p x) (cell_byte p x h)

  -- the change that a filling makes is the difference of the two tiles
  pub filled_settles : (y : List ℕ) → Fills p l a b x y → Settles p l (sum p 1 (cell p x)) (sum p l (cell p x)) (difference p x y)
  filled_settles y f =
      good_settles p l (cell p x) (difference p x y) (one_sum_ext p l (cell p y) (plus (cell p x) (difference p x y)) (λ i j hi hj. sym (again _ _)) f.good)

  pub filled_off : (y : List ℕ) → Fills p l a b x y → ZeroOffBoth p a b (difference p x y)
  filled_off y f = within_off p a b (difference p x y) (difference_padded p x y)
      (λ i j hi hj d e. ap (λ (z : ℕ). z ⊕ cell p y i j) (f.agrees i j hi hj d e) ∙ self _)

line_off : (p l : ℕ) (a : Line) (x y : List ℕ) → Fills p l a a x y → ZeroOff p a (difference p x y)
line_off p l a x y f i j hi hj d = filled_off p l a a x y f i j hi hj d d

-- ---- which tiles have a filling

-- two columns, and two rows, always
pub parallel_filled : (p l : ℕ) (a b : Line) (x : List ℕ) → Slope p l → Parallel a b → number a ≢ number b → number a < p - 1 → number b < p - 1 → Filled p l a b x
parallel_filled p l (Column u) (Column v) x S h d hu hv =
    settled_filled p l (Column u) (Column v) x (columns_settled p l u v _ _ S hu hv d (totals p 1 l (cell p x)))
parallel_filled p l (Row r) (Row s) x S h d hr hs = settled_filled p l (Row r) (Row s) x (rows_settled p l r s _ _ S hr hs d (totals p 1 l (cell p x)))
parallel_filled p l (Column c) (Row s) x S h d ha hb = absurd h
parallel_filled p l (Row r) (Column c) x S h d ha hb = absurd h

-- a row with a column has a filling only if the two sums through the crossing agree ..
pub crossing_agrees : (p l s t : ℕ) (x y : List ℕ) → Slope p l → s < p - 1 → t < p - 1 → Fills p l (Column t) (Row s) x y
    → sum p 1 (cell p x) (line p 1 s t) ≡ sum p l (cell p x) (line p l s t)
crossing_agrees p l s t x y S hs ht f =
    let i = slope_inverse p l S in
    pair_crossing p l i.0 i.1 _ _ t (omega arith) (Row s) (omega arith) (difference p x y)
    (filled_settles p l (Column t) (Row s) x y f) (filled_off p l (Column t) (Row s) x y f) t (omega arith) refl

-- .. and where the powers reach all, exactly if they do
pub crossed_filled : (p l s t : ℕ) (x : List ℕ) → Slope p l → ReachesAll p l → s < p - 1 → t < p - 1
    → Filled p l (Column t) (Row s) x ↔ (sum p 1 (cell p x) (line p 1 s t) ≡ sum p l (cell p x) (line p l s t))
crossed_filled p l s t x S all hs ht = (
  λ f. crossing_agrees p l s t x f.0 S hs ht f.1,
  λ e. settled_filled p l (Column t) (Row s) x (crossed_settled p l s t _ _ S all hs ht (totals p 1 l (cell p x)) e),
)

-- the two lines may be named in either order
pub fills_either : (p l : ℕ) (a b : Line) (x y : List ℕ) → Fills p l a b x y → Fills p l b a x y
fills_either p l a b x y f = record { size = f.size; good = f.good; agrees = λ i j hi hj d e. f.agrees i j hi hj e d }

-- one line alone has a filling only if the sums agree along it ..
pub line_agrees : (p l : ℕ) (a : Line) (x y : List ℕ) → Slope p l → number a < p - 1 → Fills p l a a x y
    → Agree p l (sum p 1 (cell p x)) (sum p l (cell p x)) a
line_agrees p l a x y S h f =
    let i = slope_inverse p l S in
    one_line_agrees p l i.0 i.1 _ _ a (difference p x y) (omega arith) (filled_settles p l a a x y f) (line_off p l a x y f)

-- .. and exactly if they do
pub line_filled : (p l : ℕ) (a : Line) (x : List ℕ) → Slope p l → number a < p - 1
    → Filled p l a a x ↔ Agree p l (sum p 1 (cell p x)) (sum p l (cell p x)) a
line_filled p l a x S h = (λ f. line_agrees p l a x f.0 S h f.1, λ e. settled_filled p l a a x (line_settled p l a _ _ S h e))

-- its difference from the tile is then the shifted sum, with the common byte taken off
pub line_difference : (p l : ℕ) (a : Line) (x y : List ℕ) → Slope p l → number a < p - 1 → Fills p l a a x y
    → (k : ℕ) → k < p → nth a (difference p x y) k ≡ shifted p (sum p 1 (cell p x)) a k
line_difference p l a x y S h f =
    let i = slope_inverse p l S in
    one_line_change p l i.0 i.1 _ _ a (difference p x y) (omega arith) (filled_settles p l a a x y f) (line_off p l a x y f) (difference_padded p x y)
