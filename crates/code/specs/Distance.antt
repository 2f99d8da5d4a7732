-- DISTANCE (one half of Theorem 3.1 of the paper, of which all is in `Lost`): two good tiles are equal if some two lines hold all their
-- differences (SPEC 4.5). Two columns or two rows ask nothing of the slope but that it is from 2 to p-2; a row with a column asks that its
-- powers reach all. Assumes nothing.
use Rattle.std.specs.Prelude.{◌≡◌, refl, ◌⊎◌, Bool, true, false, List, ℕ, ◌-◌, ◌*◌, ◌%◌, ◌<◌, ltb, length}
use Rattle.std.proofs.Common.{ap, ◌∙◌, inl, inr, ⊎_elim, arith, lt-ltb, ltb-true}
use Rattle.std.proofs.Math.Decide.{ℕ_discrete}
use Rattle.xor.specs.Xor.{◌⊕◌, self, eq_of_zero}
use Rattle.xor.specs.Sum.{keep}
use Rattle.residue.specs.Power.{ReachesAll}
use Rattle.residue.specs.Size.{Size, Allowed}
use Rattle.code.specs.Slope.{Slope, allowed_slope, slope_pos, slope_inverse}
use Rattle.code.specs.Tile.{Cells, tile_length, cell, OneSum, Good, On, EqualOutsideBoth}
use Rattle.code.specs.Sums.{Padded, one_sum_plus}
use Rattle.code.specs.Place.{everywhere, difference, difference_padded, cells_determine}
use Rattle.code.specs.Turn.{turned, good_turned, padded_turned}
use Rattle.code.specs.OneLine.{number}
use Rattle.code.specs.Pair.{ZeroOffBoth, line_zero, pair_zero}
use Rattle.code.specs.Columns.{stride, stride_is, row_by, stop_by, columns_hops}
use Rattle.code.specs.Crossed.{cell_by, crossed_hops}
use Rattle.code.specs.declared.Line.{Line}
use Rattle.code.specs.declared.Line.TheVariants.{Row, Column}

-- two rows, or two columns
abbrev pub Parallel : Line → Line → Type 0
Parallel (Row r) (Row s) = Unit {0}
Parallel (Row r) (Column d) = ⊥
Parallel (Column c) (Row s) = ⊥
Parallel (Column c) (Column d) = Unit {0}

-- what a law about two lines asks: that they are parallel, or that they are not
pub parallel_or_not : (a b : Line) → (Parallel a b) ⊎ (Parallel a b → ⊥)
parallel_or_not (Row r) (Row s) = inl tt
parallel_or_not (Row r) (Column d) = inr (λ h. h)
parallel_or_not (Column c) (Row s) = inr (λ h. h)
parallel_or_not (Column c) (Column d) = inl tt

-- where two lines cross, every line is parallel to one of them
pub one_parallel : (a b d : Line) → (Parallel a b → ⊥) → (Parallel a d) ⊎ (Parallel b d)
one_parallel (Row r) b (Row s) cross = inl tt
one_parallel (Column c) b (Column k) cross = inl tt
one_parallel (Row r) (Row s) (Column k) cross = absurd (cross tt)
one_parallel (Row r) (Column c) (Column k) cross = inr tt
one_parallel (Column c) (Row r) (Row s) cross = inr tt
one_parallel (Column c) (Column k) (Row s) cross = absurd (cross tt)

-- no cell but zeros
abbrev pub Blank : ℕ → Cells → Type 0
Blank p D = (i j : ℕ) → i < p → j < p → D i j ≡ 0

columns_blank : (p l u v : ℕ) (D : Cells) → Slope p l → u < p → v < p → OneSum p l D → Padded p D → ZeroOffBoth p (Column u) (Column v) D → Blank p D
columns_blank p l u v D S hu hv good padded off = go (ℕ_discrete u v)
  where
    t : (m : ℕ) × (l * m % p ≡ 1) × Slope p m
    t = slope_inverse p l S

    go : Dec (u ≡ v) → Blank p D
    go (yes e) = line_zero p l t.0 (Column v) D t.1 hv good padded (λ i j hi hj d. off i j hi hj (λ q. d (q ∙ e)) d)
    go (no d) =
        let k : ℕ = stride p l u v in
        pair_zero p l t.0 u (Column v) p (row_by p k) (stop_by p k u v) D t.1 hu hv
        (columns_hops p l u v k S.prime S.low (omega (arith, S.high)) hu hv d (stride_is p l u v (omega arith)))
        good padded off

crossed_blank : (p l s t : ℕ) (D : Cells) → Slope p l → ReachesAll p l → s < p - 1 → t < p → OneSum p l D → Padded p D
    → ZeroOffBoth p (Column t) (Row s) D → Blank p D
crossed_blank p l s t D S all hs ht good padded off =
    let i = slope_inverse p l S in
    pair_zero p l i.0 t (Row s) (p - 1) (cell_by p l s s) (cell_by p l s t) D i.1 ht (omega arith)
    (crossed_hops p l s t S.prime (slope_pos p l S) all hs ht) good padded off

-- a good tile that is zero outside two lines is zero
pub lines_blank : (p l : ℕ) (a b : Line) (D : Cells) → Slope p l → (Parallel a b) ⊎ (ReachesAll p l) → number a < p - 1 → number b < p - 1
    → OneSum p l D → Padded p D → ZeroOffBoth p a b D → Blank p D
lines_blank p l (Column u) (Column v) D S h ha hb good padded off = columns_blank p l u v D S (omega arith) (omega arith) good padded off
lines_blank p l (Row r) (Row s) D S h ha hb good padded off = λ i j hi hj.
    let t = slope_inverse p l S in
    columns_blank p t.0 r s (turned D) t.2 (omega arith) (omega arith) ((good_turned p l t.0 D t.1).0 good) (padded_turned p D padded)
    (λ i j hi hj d e. off j i hj hi d e) j i hj hi
lines_blank p l (Column t) (Row s) D S (inl h) ha hb good padded off = absurd h
lines_blank p l (Column t) (Row s) D S (inr all) ha hb good padded off = crossed_blank p l s t D S all hb (omega arith) good padded off
lines_blank p l (Row s) (Column t) D S (inl h) ha hb good padded off = absurd h
lines_blank p l (Row s) (Column t) D S (inr all) ha hb good padded off =
    crossed_blank p l s t D S all ha (omega arith) good padded (λ i j hi hj d e. off i j hi hj e d)

-- ---- of lists of bytes

-- a padded tile is zero outside two lines if it is so within the tile
pub within_off : (p : ℕ) (a b : Line) (D : Cells) → Padded p D
    → ((i j : ℕ) → i < p - 1 → j < p - 1 → (On a i j → ⊥) → (On b i j → ⊥) → D i j ≡ 0) → ZeroOffBoth p a b D
within_off p a b D padded =
    everywhere p (λ i j. (On a i j → ⊥) → (On b i j → ⊥) → D i j ≡ 0) (λ j h d e. padded.row j h) (λ i h d e. padded.column i h)

-- a line that the tile does not have holds no cell of it: line 0 stands for it
abbrev kept : ℕ → Line → Line
kept p (Row r) = Row (keep (ltb r (p - 1)) r)
kept p (Column c) = Column (keep (ltb c (p - 1)) c)

kept_lt : (p : ℕ) (a : Line) → 1 < p → number (kept p a) < p - 1
kept_lt p a h = go a
  where
    at : (n : ℕ) (b : Bool) → ltb n (p - 1) ≡ b → keep b n < p - 1
    at n true e = ltb-true n (p - 1) e
    at n false e = omega arith

    go : (a : Line) → number (kept p a) < p - 1
    go (Row r) = at r (ltb r (p - 1)) refl
    go (Column c) = at c (ltb c (p - 1)) refl

kept_on : (p : ℕ) (a : Line) (i j : ℕ) → i < p - 1 → j < p - 1 → On a i j → On (kept p a) i j
kept_on p (Row r) i j hi hj e = rw (lt-ltb r (p - 1) (omega arith)) e
kept_on p (Column c) i j hi hj e = rw (lt-ltb c (p - 1) (omega arith)) e

kept_parallel : (p : ℕ) (a b : Line) → Parallel a b → Parallel (kept p a) (kept p b)
kept_parallel p (Row r) (Row s) h = h
kept_parallel p (Row r) (Column d) h = h
kept_parallel p (Column c) (Row s) h = h
kept_parallel p (Column c) (Column d) h = h

-- two good tiles that agree outside any two lines are equal
pub equal_tiles : (p l : ℕ) (a b : Line) (x y : List ℕ) → Slope p l → (Parallel a b) ⊎ (ReachesAll p l)
    → length x ≡ tile_length p → length y ≡ tile_length p → Good p l x → Good p l y → EqualOutsideBoth p a b x y → x ≡ y
equal_tiles p l a b x y S h ex ey gx gy same =
    cells_determine p x y (omega arith) ex ey (λ i j hi hj. eq_of_zero _ _
    (lines_blank p l (kept p a) (kept p b) (difference p x y) S (⊎_elim (λ q. inl (kept_parallel p a b q)) inr h) (kept_lt p a (omega arith)) (kept_lt p b (omega arith))
    (one_sum_plus p l (cell p x) (cell p y) gx gy) (difference_padded p x y) off i j (omega arith) (omega arith)))
  where
    off : ZeroOffBoth p (kept p a) (kept p b) (difference p x y)
    off = within_off p (kept p a) (kept p b) (difference p x y) (difference_padded p x y) (λ i j hi hj d e.
        ap (λ (z : ℕ). z ⊕ cell p y i j) (same i j hi hj (λ o. d (kept_on p a i j hi hj o)) (λ o. e (kept_on p b i j hi hj o))) ∙ self _)

-- THE DISTANCE, for a size and an allowed slope (SPEC 4.5)
pub distance : (p l : ℕ) (a b : Line) (x y : List ℕ) → Size p → Allowed p l
    → length x ≡ tile_length p → length y ≡ tile_length p → Good p l x → Good p l y → EqualOutsideBoth p a b x y → x ≡ y
distance p l a b x y s w = equal_tiles p l a b x y (allowed_slope p l s w) (inr w.reach)
