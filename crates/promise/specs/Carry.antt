-- Repair and fill carry a good tile through: where one is added to a tile, the answer is the same, and the tile that is left is the one
-- that would have been, with that good tile added. Assumes nothing.
use Rattle.std.specs.Prelude.{◌≡◌, refl, List, ℕ, length}
use Rattle.std.proofs.Common.{sym, ap, ◌∙◌}
use Rattle.xor.specs.Xor.{◌⊕◌, xors, from}
use Rattle.code.specs.Tile.{tile_length, cell, Good, Differ, Fills, xored}
use Rattle.code.specs.Xored.{xored_length, xored_twice, xored_cell, xored_good}
use Rattle.code.specs.Count.{none_over, only_over, several_over}
use Rattle.code.specs.declared.Kind.{Kind}
use Rattle.code.specs.declared.Line.{Line}
use Rattle.size.specs.Answer as size
use Rattle.promise.specs.Answer.{Said}
use Rattle.promise.specs.Calls.{Admitted, TileLength, Looked, ByLine, MoreBytes, Named, by_cell, by_column, by_row, RepairTold, Granted, FillTold}
use Rattle.promise.specs.Admit.{admitted_well}
use Rattle.promise.specs.Explain.{explains_fills}
use Rattle.promise.specs.Doubt.{repairs}

-- w is the good tile that is added
module _ (k : Kind) (p l : ℕ) (w : List ℕ) (g : Good p l w) where
  -- what is judged of the tile's length stays
  admitted_carried : (x : List ℕ) {s : size.Said} → Admitted k p l (TileLength p x) s → Admitted k p l (TileLength p (xored x w)) s
  admitted_carried x h = rw (xored_length x w) h

  -- a filling of x, with w added, is one of x with w added ..
  fills_carried : (a b : Line) (x y : List ℕ) → length x ≡ tile_length p → Fills p l a b x y → Fills p l a b (xored x w) (xored y w)
  fills_carried a b x y e f = record {
    size = xored_length y w ∙ f.size;
    good = xored_good p y w f.size l f.good g;
    agrees = λ i j hi hj d q.
        xored_cell p x w e i j hi hj ∙ ap (λ (v : ℕ). v ⊕ cell p w i j) (f.agrees i j hi hj d q) ∙ sym (xored_cell p y w f.size i j hi hj);
  }

  -- .. and back, since w added twice is gone
  fills_back : (a b : Line) (x y : List ℕ) → length x ≡ tile_length p → Fills p l a b (xored x w) y → Fills p l a b x (xored y w)
  fills_back a b x y e f = rw (xored_twice x w) at (fills_carried a b (xored x w) y (xored_length x w ∙ e) f)

  -- the same of one line, which is a filling of that line named twice
  line_carried : (x y : List ℕ) → length x ≡ tile_length p → ByLine p l x y → ByLine p l (xored x w) (xored y w)
  line_carried x y e t = record {
    line = t.line;
    explains = (explains_fills p l t.line (xored x w) (xored y w)).1 (fills_carried t.line t.line x y e ((explains_fills p l t.line x y).0 t.explains));
  }

  line_back : (x y : List ℕ) → length x ≡ tile_length p → ByLine p l (xored x w) y → ByLine p l x (xored y w)
  line_back x y e t = rw (xored_twice x w) at (line_carried (xored x w) y (xored_length x w ∙ e) t)

  -- WHATEVER IS LOOKED AT: if w takes those that have F to those that have G, and back, and a name stays, then w is carried through: one
  -- stays one, none stays none, and what is doubtful stays doubtful
  looked_carried : {F G : List ℕ → Type 0} {Name Other : List ℕ → Said → Type 0} {x y : List ℕ} {s : Said}
      → ((z : List ℕ) → F z → G (xored z w)) → ((z : List ℕ) → G z → F (xored z w)) → ((z : List ℕ) → F z → Name z s → Other (xored z w) s)
      → Looked F Name x s y → Looked G Other (xored x w) s (xored y w)
  looked_carried there back named (Looked.one {new} o n) =
      Looked.one (only_over (λ z. xored z w) (λ z. xored z w) there back (λ z. xored_twice z w) o) (named new o.is n)
  looked_carried there back named (Looked.none f) = Looked.none (none_over (λ z. xored z w) (λ z. xored z w) there back f)
  looked_carried there back named (Looked.several d) = Looked.several (several_over (λ z. xored z w) (λ z. xored z w) there back (λ z. xored_twice z w) d)

  -- two tiles to which w is added differ where they did ..
  differ_carried : (x y : List ℕ) (i j : ℕ) → length x ≡ tile_length p → length y ≡ tile_length p → Differ p x y i j → Differ p (xored x w) (xored y w) i j
  differ_carried x y i j e f d = record {
    row = d.row;
    column = d.column;
    bytes = λ q. d.bytes
        (from (sym (xored_cell p x w e i j d.row d.column) ∙ q ∙ xored_cell p y w f i j d.row d.column) (simp xors));
  }

  -- .. and nowhere else
  differ_back : (x y : List ℕ) (i j : ℕ) → length x ≡ tile_length p → length y ≡ tile_length p → Differ p (xored x w) (xored y w) i j → Differ p x y i j
  differ_back x y i j e f d =
      rw (xored_twice x w, xored_twice y w) at (differ_carried (xored x w) (xored y w) i j (xored_length x w ∙ e) (xored_length y w ∙ f) d)

  -- so what differs keeps its name
  named_carried : (x y : List ℕ) {s : Said} → length x ≡ tile_length p → length y ≡ tile_length p → Named p x y s → Named p (xored x w) (xored y w) s
  named_carried x y e f n = go n
    where
      more : {a : Line} → MoreBytes p x y a → MoreBytes p (xored x w) (xored y w) a
      more m = record {
        i = m.i;
        j = m.j;
        r = m.r;
        k = m.k;
        one = differ_carried x y m.i m.j e f m.one;
        other = differ_carried x y m.r m.k e f m.other;
        apart = m.apart;
        within = λ i j d. m.within i j (differ_back x y i j e f d);
      }

      go : {s : Said} → Named p x y s → Named p (xored x w) (xored y w) s
      go (by_cell {i} {j} o) = by_cell (record { here = differ_carried x y i j e f o.here; alone = λ r k d. o.alone r k (differ_back x y r k e f d) })
      go (by_column m) = by_column (more m)
      go (by_row m) = by_row (more m)

  -- REPAIR carries w through
  pub repair_carried : {x y : List ℕ} {s : Said} → RepairTold k p l x s y → RepairTold k p l (xored x w) s (xored y w)
  repair_carried {x} (RepairTold.refuses h) = RepairTold.refuses (admitted_carried x h)
  repair_carried {x} (RepairTold.is_good h good) = RepairTold.is_good (admitted_carried x h) (xored_good p x w (admitted_well h).2 l good g)
  repair_carried {x} (RepairTold.is_hurt h bad q) =
      let size = (admitted_well h).2 in
      repairs (admitted_carried x h)
      (looked_carried (λ z. line_carried x z size) (λ z. line_back x z size) (λ z t. named_carried x z size t.explains.size) q)

  -- and so does FILL
  pub fill_carried : {x y : List ℕ} {a b : Line} {s : Said} → FillTold k p l x a b s y → FillTold k p l (xored x w) a b s (xored y w)
  fill_carried {x} (FillTold.refuses h) = FillTold.refuses (admitted_carried x h)
  fill_carried {x} (FillTold.no_line h f) = FillTold.no_line (admitted_carried x h) f
  fill_carried {x} {y} {a} {b} (FillTold.has_lines h ha hb q) =
      let size = (admitted_well h).2 in
      FillTold.has_lines (admitted_carried x h) ha hb (looked_carried (λ z. fills_carried a b x z size) (λ z. fills_back a b x z size) (λ z f d. d) q)

-- where a repair succeeds it leaves a good tile
pub repaired_good : {k : Kind} {p l : ℕ} {x y : List ℕ} {s : Said} → Granted s → RepairTold k p l x s y → (length y ≡ tile_length p) × Good p l y
repaired_good d (RepairTold.refuses {n} h) = absurd (d n refl)
repaired_good d (RepairTold.is_good h g) = ((admitted_well h).2, g)
repaired_good d (RepairTold.is_hurt h bad (Looked.one o n)) = (o.is.explains.size, o.is.explains.good)
repaired_good d (RepairTold.is_hurt h bad (Looked.none f)) = absurd (d 5 refl)
repaired_good d (RepairTold.is_hurt h bad (Looked.several e)) = absurd (d 8 refl)
