-- HOW MANY GOOD TILES EXPLAIN A TILE, at any slope from 2 to p-2: within columns there is one at most, and within rows too. So a tile is
-- doubtful exactly if a column explains it by two bytes or more, and a row explains it too (SPEC 5.3). Assumes nothing.
use Rattle.std.specs.Prelude.{◌≡◌, ◌≢◌, ◌⊎◌, List, ℕ, length}
use Rattle.std.proofs.Common.{sym, inl, inr, arith}
use Rattle.residue.specs.Power.{ReachesAll}
use Rattle.code.specs.Slope.{Slope}
use Rattle.code.specs.Tile.{tile_length, Good, Bytes}
use Rattle.code.specs.Differ.{differ_on}
use Rattle.code.specs.Distance.{Parallel, parallel_or_not, one_parallel}
use Rattle.code.specs.Filling.{line_filled}
use Rattle.code.specs.Count.{Only, Several, OfBytes, AtMostOne, only_several}
use Rattle.code.specs.declared.Kind.{Kind}
use Rattle.code.specs.declared.Line.{Line}
use Rattle.code.specs.declared.Line.TheVariants.{Row, Column}
use Rattle.size.specs.Answer as size
use Rattle.promise.specs.Answer.{Said}
use Rattle.promise.specs.Calls.{Admitted, TileLength, Looked, Explains, ByLine, OneByte, MoreBytes, Named, by_cell, by_column, by_row, RepairTold}
use Rattle.promise.specs.Admit.{admitted_well, slope_of_lem}
use Rattle.promise.specs.Name.{more_on}
use Rattle.promise.specs.Explain.{explains_fills, good_explains, explains_on, parallel_self, explains_once, named_hurt, explains_has, explains_named, explained}

module _ (p l : ℕ) (x : List ℕ) (S : Slope p l) where
  -- ---- exactly one

  -- a tile by which a line explains x is the only one, if no line that crosses this one explains x by another
  pub line_only : (a : Line) {y : List ℕ} → Explains p l a x y → ((b : Line) (z : List ℕ) → (Parallel a b → ⊥) → Explains p l b x z → z ≡ y)
      → Only (ByLine p l x) y
  line_only a {y} e crossing = record {
    is = record { line = a; explains = e };
    only = λ z t. go z t.line t.explains (parallel_or_not a t.line);
  }
    where
      go : (z : List ℕ) (b : Line) → Explains p l b x z → (Parallel a b) ⊎ (Parallel a b → ⊥) → z ≡ y
      go z b f (inl h) = sym (explains_once p l a b x y z S (inl h) e f)
      go z b f (inr h) = crossing b z h f

  -- so it is where two lines that cross explain x by it
  pub both_only : (a b : Line) {y : List ℕ} → (Parallel a b → ⊥) → Explains p l a x y → Explains p l b x y → Only (ByLine p l x) y
  both_only a b {y} cross e f = record {
    is = record { line = a; explains = e };
    only = λ z t. go z t.line t.explains (one_parallel a b t.line cross);
  }
    where
      go : (z : List ℕ) (d : Line) → Explains p l d x z → (Parallel a d) ⊎ (Parallel b d) → z ≡ y
      go z d g (inl h) = sym (explains_once p l a d x y z S (inl h) e g)
      go z d g (inr h) = sym (explains_once p l b d x y z S (inl h) f g)

  -- as they do where it differs in one byte, which is one of a column and of a row
  pub cell_only : (a : Line) {y : List ℕ} {i j : ℕ} → Explains p l a x y → OneByte p x y i j → Only (ByLine p l x) y
  cell_only a {y} {i} {j} e o =
      both_only (Column j) (Row i) (λ h. h) (explains_on p l a (Column j) x y e (λ r k d. (o.alone r k d).1))
      (explains_on p l a (Row i) x y e (λ r k d. (o.alone r k d).0))

  -- and at every slope that reaches all
  pub reach_once : ReachesAll p l → AtMostOne (ByLine p l x)
  reach_once all y z s t = explains_once p l s.line t.line x y z S (inr all) s.explains t.explains

  -- a good tile is the only one that explains itself
  pub good_only : length x ≡ tile_length p → Good p l x → Only (ByLine p l x) x
  good_only e g = record {
    is = record { line = Column 0; explains = good_explains p l (Column 0) x e g };
    only = λ z t. let a = t.line in sym (explains_once p l a a x x z S (inl (parallel_self a)) (good_explains p l a x e g) t.explains);
  }

  -- so whatever comes of looking at those that explain a tile, it is of one that is not good
  pub looked_hurt : {s : Said} {y : List ℕ} → length x ≡ tile_length p → Looked (ByLine p l x) (Named p x) x s y → Good p l x → ⊥
  looked_hurt {s} {y} e (Looked.one o n) g = named_hurt p l o.is.line x y S e o.is.explains n g
  looked_hurt e (Looked.none n) g = n x (good_only e g).is
  looked_hurt e (Looked.several d) g = only_several (good_only e g) d

  -- ---- several

  -- where a line explains x by two bytes or more, no line that crosses it has the same tile
  pub more_several : (a b : Line) {y z : List ℕ} → Explains p l a x y → MoreBytes p x y a → Explains p l b x z → (Parallel a b → ⊥) → Several (ByLine p l x)
  more_several a b {y} {z} e m f cross = record {
    one = y;
    other = z;
    is = record { line = a; explains = e };
    is_other = record { line = b; explains = f };
    apart = λ q.
        let same : a ≡ b = more_on b m ((differ_on p b x y).0 (rw q f.same)) in
        cross (rw same (parallel_self b));
  }

-- what comes of looking at those that explain a tile is what repair answers
pub repairs : {k : Kind} {p l : ℕ} {tile new : List ℕ} {said : Said} → Admitted k p l (TileLength p tile) size.well
    → Looked (ByLine p l tile) (Named p tile) tile said new → RepairTold k p l tile said new
repairs {k} {p} {l} {tile} h q = RepairTold.is_hurt h (looked_hurt p l tile (slope_of_lem h) (admitted_well h).2 q) q

-- SPEC 5.3: a column explains the tile by two bytes or more, and a row explains it too
pub record Doubt (p l : ℕ) (x : List ℕ) : Type 0 where
  pub column : ℕ
  pub row : ℕ
  pub by_column : List ℕ
  pub by_row : List ℕ
  pub column_explains : Explains p l (Column column) x by_column
  pub more : MoreBytes p x by_column (Column column)
  pub row_explains : Explains p l (Row row) x by_row

module _ (p l : ℕ) (x : List ℕ) (S : Slope p l) where
  -- DOUBTFUL EXACTLY THEN: where this holds there are several ..
  pub doubt_several : Doubt p l x → Several (ByLine p l x)
  doubt_several d = more_several p l x S (Column d.column) (Row d.row) d.column_explains d.more d.row_explains (λ h. h)

  module _ (size : length x ≡ tile_length p) (d : Several (ByLine p l x)) where
    bad : Good p l x → ⊥
    bad g = only_several (good_only p l x S size g) d

    -- of two different tiles, the one by a column and the one by a row: the column's differs in two bytes or more
    crossed_doubt : (c r : ℕ) {y z : List ℕ} → Explains p l (Column c) x y → Explains p l (Row r) x z → y ≢ z → Doubt p l x
    crossed_doubt c r {y} {z} e f apart = let n = explains_named p l (Column c) x y bad e in go n.1
      where
        go : {s : Said} → Named p x y s → Doubt p l x
        go (by_cell o) = absurd (apart (sym ((cell_only p l x S (Column c) e o).only z (record { line = Row r; explains = f }))))
        go (by_column {c = k} m) = record {
          column = k;
          row = r;
          by_column = y;
          by_row = z;
          column_explains = explains_on p l (Column c) (Column k) x y e m.within;
          more = m;
          row_explains = f;
        }
        go (by_row {r = k} m) = absurd (apart (explains_once p l (Row k) (Row r) x y z S (inl tt) (explains_on p l (Column c) (Row k) x y e m.within) f))

    -- .. and where there are several, it holds
    pub several_doubt : Doubt p l x
    several_doubt = go d.is.line d.is_other.line d.is.explains d.is_other.explains
      where
        go : (a b : Line) → Explains p l a x d.one → Explains p l b x d.other → Doubt p l x
        go (Row r) (Row s) e f = absurd (d.apart (explains_once p l (Row r) (Row s) x _ _ S (inl tt) e f))
        go (Column c) (Column k) e f = absurd (d.apart (explains_once p l (Column c) (Column k) x _ _ S (inl tt) e f))
        go (Column c) (Row r) e f = crossed_doubt c r e f d.apart
        go (Row r) (Column c) e f = crossed_doubt c r f e (λ q. d.apart (sym q))

    -- and then two are tiles of bytes, if x is: what a line explains x by has no bytes but x's and the line's change
    pub doubt_bytes : Bytes x → Several (OfBytes (ByLine p l x))
    doubt_bytes h = record {
      one = d.one;
      other = d.other;
      is = (d.is, bytes d.is.line d.is.explains);
      is_other = (d.is_other, bytes d.is_other.line d.is_other.explains);
      apart = d.apart;
    }
      where
        bytes : (a : Line) {y : List ℕ} → Explains p l a x y → Bytes y
        bytes a {y} e =
            let has = explains_has p l a x y bad e in
            let f = (line_filled p l a x S (omega arith)).1 ((explained p l a x S has).0 (y, e)) in
            let q : f.0 ≡ y = explains_once p l a a x f.0 y S (inl (parallel_self a)) ((explains_fills p l a x f.0).1 f.1) e in
            rw q at (f.2 h)
