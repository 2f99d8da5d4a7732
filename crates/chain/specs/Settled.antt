-- A tile once a change in two lines that settles sums is added to it: where the sums are its own, the two lines are filled. Assumes nothing.
use Rattle.std.specs.Prelude.{◌≡◌, refl, ◌↔◌, List, ℕ, ◌-◌, ◌<◌, length}
use Rattle.std.proofs.Common.{sym, ap, ◌∙◌, arith}
use Rattle.xor.specs.Xor.{◌⊕◌, assoc, zero_l, zero_r}
use Rattle.code.specs.Tile.{Cells, tile_length, cell, sum, Fills}
use Rattle.code.specs.Sums.{Padded, plus, padded_plus}
use Rattle.code.specs.Place.{difference, difference_padded, cell_padded, tile_of, tile_length_lem, tile_cells}
use Rattle.code.specs.Settle.{Settles, settles_sums}
use Rattle.code.specs.OneLine.{number, along, along_off, along_padded}
use Rattle.code.specs.Pair.{ZeroOffBoth}
use Rattle.code.specs.Filling.{filled_settles, filled_off}
use Rattle.code.specs.declared.Line.{Line}
use Rattle.classes.specs.Many.{SettledSome}
use Rattle.chain.specs.Solve.{SettledBy}
use Rattle.cells.specs.Change.{Added, changed_good}

-- y is x with a change in the lines a and b that settles the sums A and B
pub record LinesSettled (p l : ℕ) (a b : Line) (A B : ℕ → ℕ) (x y : List ℕ) : Type 0 where
  pub by : Cells
  pub settles : Settles p l A B by
  pub padded : Padded p by
  pub off : ZeroOffBoth p a b by
  pub added : Added p by x y
  pub size : length y ≡ length x

-- the changes in both are added, one after the other
pub both_added : (p l : ℕ) (a b : Line) (A B X Y : ℕ → ℕ) (x y z : List ℕ) → number a < p - 1 → number b < p - 1 → SettledBy p l a b A B X Y
    → Added p (along a X) x y → Added p (along b Y) y z → length y ≡ length x → length z ≡ length y → LinesSettled p l a b A B x z
both_added p l a b A B X Y x y z ha hb s first second ey ez = record {
  by = plus (along a X) (along b Y);
  settles = s.settles;
  padded = padded_plus p (along a X) (along b Y) (along_padded p a X ha s.first) (along_padded p b Y hb s.second);
  off = λ i j hi hj d e. ap (λ (w : ℕ). w ⊕ along b Y i j) (along_off p a X i j hi hj d) ∙ zero_l _ ∙ along_off p b Y i j hi hj e;
  added = λ i j hi hj. second i j hi hj ∙ ap (λ (w : ℕ). w ⊕ along b Y i j) (first i j hi hj) ∙ assoc _ _ _;
  size = ez ∙ ey;
}

-- ---- what that makes of a tile

-- where the sums are the tile's, it is the filling of the two lines
pub settled_fill : (p l : ℕ) (a b : Line) (A B : ℕ → ℕ) (x y : List ℕ) → length x ≡ tile_length p → ((t : ℕ) → t < p → A t ≡ sum p 1 (cell p x) t)
    → ((t : ℕ) → t < p → B t ≡ sum p l (cell p x) t) → LinesSettled p l a b A B x y → Fills p l a b x y
settled_fill p l a b A B x y e ha hb c = record {
  size = c.size ∙ e;
  good = changed_good p l x y c.by c.padded (settles_sums p l A B _ _ c.by ha hb c.settles) c.added;
  agrees = λ i j hi hj d q.
      sym (c.added i j hi hj ∙ ap (λ (w : ℕ). cell p x i j ⊕ w) (c.off i j (omega arith) (omega arith) d q) ∙ zero_r _);
}

-- so a tile has a filling exactly if some change in the two lines settles its sums
pub some_fill : (p l : ℕ) (a b : Line) (x : List ℕ) → length x ≡ tile_length p
    → SettledSome p l a b (sum p 1 (cell p x)) (sum p l (cell p x)) ↔ ((y : List ℕ) × Fills p l a b x y)
some_fill p l a b x e = (
  λ s. (tile_of p (changed s), settled_fill p l a b _ _ x (tile_of p (changed s)) e (λ t q. refl) (λ t q. refl) (settled s)),
  λ f. record {
    by = difference p x f.0;
    settles = filled_settles p l a b x f.0 f.1;
    padded = difference_padded p x f.0;
    off = filled_off p l a b x f.0 f.1;
  },
)
  where
    changed : SettledSome p l a b (sum p 1 (cell p x)) (sum p l (cell p x)) → Cells
    changed s = plus (cell p x) s.by

    settled : (s : SettledSome p l a b (sum p 1 (cell p x)) (sum p l (cell p x))) → LinesSettled p l a b (sum p 1 (cell p x)) (sum p l (cell p x)) x (tile_of p (changed s))
    settled s = record {
      by = s.by;
      settles = s.settles;
      padded = s.padded;
      off = s.off;
      added = λ i j hi hj. tile_cells p (changed s) (padded_plus p (cell p x) s.by (cell_padded p x) s.padded) i j (omega arith) (omega arith);
      size = tile_length_lem p (changed s) ∙ sym e;
    }
