-- Where two tiles differ: to agree outside a line is to differ on it alone, and no two lines hold two cells in common. So what differs has
-- one name (SPEC 5.3). Assumes nothing.
use Rattle.std.specs.Prelude.{◌≡◌, refl, ◌↔◌, List, ℕ, ◌-◌, ◌<◌}
use Rattle.std.proofs.Common.{sym, ap, ◌∙◌}
use Rattle.std.proofs.Math.Decide.{ℕ_discrete, dec_lt}
use Rattle.code.specs.Tile.{cell, On, EqualOutside, Differ}
use Rattle.code.specs.OneLine.{number, row_at, column_at}
use Rattle.code.specs.declared.Line.{Line}
use Rattle.code.specs.declared.Line.TheVariants.{Row, Column}

-- a cell is on a line, or it is not
pub on_or_off : (a : Line) (i j : ℕ) → Dec (On a i j)
on_or_off (Row r) i j = ℕ_discrete i r
on_or_off (Column c) i j = ℕ_discrete j c

-- two tiles differ in a cell, or they do not
pub differ_or_not : (p : ℕ) (x y : List ℕ) (i j : ℕ) → Dec (Differ p x y i j)
differ_or_not p x y i j = go (dec_lt i (p - 1)) (dec_lt j (p - 1)) (ℕ_discrete (cell p x i j) (cell p y i j))
  where
    go : Dec (i < p - 1) → Dec (j < p - 1) → Dec (cell p x i j ≡ cell p y i j) → Dec (Differ p x y i j)
    go (no h) b c = no (λ d. h d.row)
    go (yes hi) (no h) c = no (λ d. h d.column)
    go (yes hi) (yes hj) (yes e) = no (λ d. d.bytes e)
    go (yes hi) (yes hj) (no d) = yes (record { row = hi; column = hj; bytes = d })

-- where they do not they agree
pub agree_at : (p : ℕ) (x y : List ℕ) (i j : ℕ) → i < p - 1 → j < p - 1 → (Differ p x y i j → ⊥) → cell p x i j ≡ cell p y i j
agree_at p x y i j hi hj none = go (ℕ_discrete (cell p x i j) (cell p y i j))
  where
    go : Dec (cell p x i j ≡ cell p y i j) → cell p x i j ≡ cell p y i j
    go (yes e) = e
    go (no d) = absurd (none (record { row = hi; column = hj; bytes = d }))

-- two tiles that agree outside a line differ on it alone, and back
pub differ_on : (p : ℕ) (a : Line) (x y : List ℕ) → EqualOutside p a x y ↔ ((i j : ℕ) → Differ p x y i j → On a i j)
differ_on p a x y = (λ same i j d. on same i j d (on_or_off a i j), λ on i j hi hj off. agree_at p x y i j hi hj (λ d. off (on i j d)))
  where
    on : EqualOutside p a x y → (i j : ℕ) → Differ p x y i j → Dec (On a i j) → On a i j
    on same i j d (yes o) = o
    on same i j d (no o) = absurd (d.bytes (same i j d.row d.column o))

-- a cell of a line is its k-th, where k is the cell's column in a row and its row in a column
abbrev pub index : Line → ℕ → ℕ → ℕ
index (Row r) i j = j
index (Column c) i j = i

pub on_index : (a : Line) (i j : ℕ) → On a i j → (i ≡ row_at a (index a i j)) × (j ≡ column_at a (index a i j))
on_index (Row r) i j e = (e, refl)
on_index (Column c) i j e = (refl, e)

pub differ_nth : (p : ℕ) (a : Line) (x y : List ℕ) (i j : ℕ) → On a i j → Differ p x y i j → Differ p x y (row_at a (index a i j)) (column_at a (index a i j))
differ_nth p (Row r) x y i j e d = rw e at d
differ_nth p (Column c) x y i j e d = rw e at d

-- the k-th cell of a line is one of the tile's where the line is and k is below p-1, and another than the m-th
pub nth_in : (p : ℕ) (a : Line) (k : ℕ) → (number a < p - 1) × (k < p - 1) ↔ ((row_at a k < p - 1) × (column_at a k < p - 1))
nth_in p (Row r) k = (λ h. h, λ h. h)
nth_in p (Column c) k = (λ h. (h.1, h.0), λ h. (h.1, h.0))

pub nth_apart : (a : Line) (k m : ℕ) → (k ≡ m → ⊥) → (row_at a k ≡ row_at a m) × (column_at a k ≡ column_at a m) → ⊥
nth_apart (Row r) k m d e = d e.1
nth_apart (Column c) k m d e = d e.0

-- two lines that both hold two cells are one line
pub two_cells : (a b : Line) (i j r k : ℕ) → ((i ≡ r) × (j ≡ k) → ⊥) → On a i j → On a r k → On b i j → On b r k → a ≡ b
two_cells (Row s) (Row t) i j r k apart e f g h = ap Row (sym e ∙ g)
two_cells (Column c) (Column d) i j r k apart e f g h = ap Column (sym e ∙ g)
two_cells (Row s) (Column d) i j r k apart e f g h = absurd (apart (e ∙ sym f, g ∙ sym h))
two_cells (Column c) (Row t) i j r k apart e f g h = absurd (apart (g ∙ sym h, e ∙ sym f))
