-- THE NAME OF A DIFFERENCE (SPEC 5.3): two tiles that differ, and do so within one line, have one name for what differs, and no second.
-- Assumes nothing.
use Rattle.std.specs.Prelude.{◌≡◌, ◌⊎◌, List, ℕ, ◌+◌, ◌-◌, ◌≤◌, ◌<◌}
use Rattle.std.proofs.Common.{sym, ap, ap₂, ◌∙◌, inl, inr, arith}
use Rattle.std.proofs.Math.Decide.{ℕ_discrete}
use Rattle.residue.specs.Search.{some_or_none}
use Rattle.code.specs.Tile.{On, EqualOutside, Differ}
use Rattle.code.specs.OneLine.{row_at, column_at}
use Rattle.code.specs.Differ.{differ_or_not, differ_on, index, on_index, differ_nth, nth_in, nth_apart, two_cells}
use Rattle.code.specs.declared.Line.{Line}
use Rattle.code.specs.declared.Line.TheVariants.{Row, Column}
use Rattle.promise.specs.Answer.{Said, done, clean, column, row, refused}
use Rattle.promise.specs.Calls.{OneByte, MoreBytes, Named, by_cell, by_column, by_row, Granted}

-- what is said of a line
abbrev pub line_said : Line → Said
line_said (Row r) = row r
line_said (Column c) = column c

-- s is said of a difference, and names a cell or a line that a tile of size p has
abbrev pub InTile : ℕ → Said → Type 0
InTile p done = ⊥
InTile p clean = ⊥
InTile p (Said.cell r c) = (r + 2 ≤ p) × (c + 2 ≤ p)
InTile p (column c) = c + 2 ≤ p
InTile p (row r) = r + 2 ≤ p
InTile p (refused n) = ⊥

-- ---- at most one

module _ {p : ℕ} {x y : List ℕ} where
  -- one byte is not two
  pub one_or_more : {i j : ℕ} {a : Line} → OneByte p x y i j → MoreBytes p x y a → ⊥
  one_or_more o m =
      let e = o.alone m.i m.j m.one in let f = o.alone m.r m.k m.other in m.apart (e.0 ∙ sym f.0, e.1 ∙ sym f.1)

  -- two bytes are on one line: any line that holds all that differs is that line
  pub more_on : {a : Line} (b : Line) → MoreBytes p x y a → ((i j : ℕ) → Differ p x y i j → On b i j) → a ≡ b
  more_on {a} b m on =
      two_cells a b m.i m.j m.r m.k m.apart (m.within _ _ m.one) (m.within _ _ m.other) (on _ _ m.one) (on _ _ m.other)

  more_once : {a b : Line} → MoreBytes p x y a → MoreBytes p x y b → a ≡ b
  more_once {a} {b} m n = more_on b m n.within

  -- ONE NAME: two names of one difference are the same
  pub named_once : {s t : Said} → Named p x y s → Named p x y t → s ≡ t
  named_once (by_cell o) (by_cell q) = let e = q.alone _ _ o.here in ap₂ Said.cell e.0 e.1
  named_once (by_cell o) (by_column n) = absurd (one_or_more o n)
  named_once (by_cell o) (by_row n) = absurd (one_or_more o n)
  named_once (by_column m) (by_cell q) = absurd (one_or_more q m)
  named_once (by_column m) (by_column n) = ap line_said (more_once m n)
  named_once (by_column m) (by_row n) = ap line_said (more_once m n)
  named_once (by_row m) (by_cell q) = absurd (one_or_more q m)
  named_once (by_row m) (by_column n) = ap line_said (more_once m n)
  named_once (by_row m) (by_row n) = ap line_said (more_once m n)

  -- what has a name is a difference ..
  pub named_differ : {s : Said} → Named p x y s → (i : ℕ) × (j : ℕ) × Differ p x y i j
  named_differ (by_cell {i} {j} o) = (i, j, o.here)
  named_differ (by_column m) = (m.i, m.j, m.one)
  named_differ (by_row m) = (m.i, m.j, m.one)

  -- .. within a line ..
  pub named_line : {s : Said} → Named p x y s → (a : Line) × EqualOutside p a x y
  named_line (by_cell {i} {j} o) = (Column j, (differ_on p (Column j) x y).1 (λ r k d. (o.alone r k d).1))
  named_line (by_column {c} m) = (Column c, (differ_on p (Column c) x y).1 m.within)
  named_line (by_row {r} m) = (Row r, (differ_on p (Row r) x y).1 m.within)

  -- .. and the name is a cell or a line of the tile
  pub named_in : {s : Said} → Named p x y s → InTile p s
  named_in (by_cell o) = (omega (arith, o.here.row), omega (arith, o.here.column))
  named_in (by_column m) = omega (arith, m.within _ _ m.one, m.one.column)
  named_in (by_row m) = omega (arith, m.within _ _ m.one, m.one.row)

-- what names a cell or a line is no refusal, and so the name of a difference is none
pub in_granted : (p : ℕ) (s : Said) → InTile p s → Granted s
in_granted p s h n e = rw e at h

pub named_granted : {p : ℕ} {x y : List ℕ} {s : Said} → Named p x y s → Granted s
named_granted {p} {s = s} n = in_granted p s (named_in n)

-- nor is clean
pub granted_clean : Granted clean
granted_clean n e = let z : ◌≡◌ {A = ℕ} 0 1 = cc in omega arith

-- ---- and one at least, where all that differs is on one line

-- two bytes of a line are named by it
pub line_named : {p : ℕ} {x y : List ℕ} (a : Line) → MoreBytes p x y a → Named p x y (line_said a)
line_named (Row r) m = by_row m
line_named (Column c) m = by_column m

module _ (p : ℕ) (a : Line) (x y : List ℕ) (same : EqualOutside p a x y) where
  -- they differ in the k-th cell of the line
  abbrev pub DifferNth : ℕ → Type 0
  DifferNth k = Differ p x y (row_at a k) (column_at a k)

  -- a cell in which they differ is the k-th of the line, for some k
  pub nth_of : (i j : ℕ) → Differ p x y i j → DifferNth (index a i j)
  nth_of i j d = differ_nth p a x y i j ((differ_on p a x y).0 same i j d) d

  -- in that one alone
  pub in_one : (k : ℕ) → DifferNth k → ((m : ℕ) → (m ≡ k → ⊥) → DifferNth m → ⊥) → OneByte p x y (row_at a k) (column_at a k)
  in_one k here none = record { here = here; alone = λ i j d. go i j d (ℕ_discrete (index a i j) k) }
    where
      go : (i j : ℕ) → Differ p x y i j → Dec (index a i j ≡ k) → (i ≡ row_at a k) × (j ≡ column_at a k)
      go i j d (yes e) = let at = on_index a i j ((differ_on p a x y).0 same i j d) in (at.0 ∙ ap (row_at a) e, at.1 ∙ ap (column_at a) e)
      go i j d (no f) = absurd (none (index a i j) f (nth_of i j d))

  -- in two
  pub in_more : (k m : ℕ) → (k ≡ m → ⊥) → DifferNth k → DifferNth m → MoreBytes p x y a
  in_more k m apart one other = record {
    i = row_at a k;
    j = column_at a k;
    r = row_at a m;
    k = column_at a m;
    one = one;
    other = other;
    apart = nth_apart a k m apart;
    within = (differ_on p a x y).0 same;
  }

  -- A NAME: the cells of the line are looked through for one that differs, and then for another
  pub has_name : (((i j : ℕ) → Differ p x y i j → ⊥) → ⊥) → (s : Said) × Named p x y s
  has_name hurt = first (some_or_none DifferNth decide (p - 1))
    where
      decide : (k : ℕ) → Dec (DifferNth k)
      decide k = differ_or_not p x y (row_at a k) (column_at a k)

      -- another than the k-th
      other : (k m : ℕ) → Dec ((m ≡ k → ⊥) × DifferNth m)
      other k m = go (ℕ_discrete m k) (decide m)
        where
          go : Dec (m ≡ k) → Dec (DifferNth m) → Dec ((m ≡ k → ⊥) × DifferNth m)
          go (yes e) d = no (λ t. t.0 e)
          go (no n) (yes d) = yes (n, d)
          go (no n) (no f) = no (λ t. f t.1)

      second : (k : ℕ) → DifferNth k → ((m : ℕ) × (m < p - 1) × ((m ≡ k → ⊥) × DifferNth m)) ⊎ ((m : ℕ) → m < p - 1 → (m ≡ k → ⊥) × DifferNth m → ⊥)
          → (s : Said) × Named p x y s
      second k d (inl t) = (line_said a, line_named a (in_more k t.0 (λ e. t.2.0 (sym e)) d t.2.1))
      second k d (inr none) = (Said.cell _ _, by_cell (in_one k d (λ m n e. none m ((nth_in p a m).1 (e.row, e.column)).1 (n, e))))

      first : ((k : ℕ) × (k < p - 1) × DifferNth k) ⊎ ((k : ℕ) → k < p - 1 → DifferNth k → ⊥) → (s : Said) × Named p x y s
      first (inl t) = second t.0 t.2 (some_or_none (λ m. (m ≡ t.0 → ⊥) × DifferNth m) (other t.0) (p - 1))
      first (inr none) = absurd (hurt (λ i j d. let e = nth_of i j d in none (index a i j) ((nth_in p a (index a i j)).1 (e.row, e.column)).1 e))
