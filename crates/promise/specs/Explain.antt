-- What it tells that a line explains a tile: a good tile agrees with that tile outside the line. Assumes nothing.
use Rattle.std.specs.Prelude.{◌≡◌, refl, ◌⊎◌, ◌↔◌, List, ℕ, ◌+◌, ◌-◌, ◌≤◌, ◌<◌, length}
use Rattle.std.proofs.Common.{sym, ap, ◌∙◌, inl}
use native.Mathlib.Omega.{arith, by_contra}
use Rattle.residue.specs.Power.{ReachesAll}
use Rattle.code.specs.Slope.{Slope}
use Rattle.code.specs.Tile.{tile_length, cell, sum, Good, On, Differ, Fills}
use Rattle.code.specs.Sums.{one_sum_ext}
use Rattle.code.specs.Place.{cell_padded, same_within}
use Rattle.code.specs.Good.{named_twice}
use Rattle.code.specs.OneLine.{number, Agree}
use Rattle.code.specs.Differ.{agree_at, differ_on}
use Rattle.code.specs.Distance.{Parallel, equal_tiles}
use Rattle.code.specs.Filling.{line_agrees, line_filled}
use Rattle.code.specs.declared.Kind.{Kind}
use Rattle.code.specs.declared.Line.{Line}
use Rattle.code.specs.declared.Line.TheVariants.{Row, Column}
use Rattle.promise.specs.Answer.{Said, row}
use Rattle.promise.specs.Calls.{Looked, Explains, Named, by_row, RepairTold, Has}
use Rattle.promise.specs.Name.{named_differ, has_name}

-- the line a does not explain x, by any tile
abbrev pub Unexplained : ℕ → ℕ → List ℕ → Line → Type 0
Unexplained p l x a = (y : List ℕ) → Explains p l a x y → ⊥

-- to explain a tile by a line is to fill that line, named twice
pub explains_fills : (p l : ℕ) (a : Line) (x y : List ℕ) → Explains p l a x y ↔ Fills p l a a x y
explains_fills p l a x y = (
  λ e. record { size = e.size; good = e.good; agrees = (named_twice p a x y).0 e.same },
  λ f. record { size = f.size; good = f.good; same = (named_twice p a x y).1 f.agrees },
)

-- a good tile explains itself, by any line
pub good_explains : (p l : ℕ) (a : Line) (x : List ℕ) → length x ≡ tile_length p → Good p l x → Explains p l a x x
good_explains p l a x e g = record { size = e; good = g; same = λ i j hi hj d. refl }

-- so a tile that some line does not explain is not good
pub unexplained_hurt : (p l : ℕ) (a : Line) (x : List ℕ) → length x ≡ tile_length p → Unexplained p l x a → Good p l x → ⊥
unexplained_hurt p l a x e u g = u x (good_explains p l a x e g)

-- a line that holds all cells in which x and y differ explains x by y, if any line does
pub explains_on : (p l : ℕ) (a b : Line) (x y : List ℕ) → Explains p l a x y → ((i j : ℕ) → Differ p x y i j → On b i j) → Explains p l b x y
explains_on p l a b x y e on = record { size = e.size; good = e.good; same = (differ_on p b x y).1 on }

-- so where repair names a row, the tile that it leaves is a filling of that row
pub row_fills : {k : Kind} {p l r : ℕ} {x y : List ℕ} → RepairTold k p l x (row r) y → Fills p l (Row r) (Row r) x y
row_fills {k} {p} {l} {r} {x} {y} (RepairTold.is_hurt h bad (Looked.one o (by_row m))) =
    (explains_fills p l (Row r) x y).0 (explains_on p l o.is.line (Row r) x y o.is.explains m.within)

-- a line is parallel to itself
pub parallel_self : (a : Line) → Parallel a a
parallel_self (Row r) = tt
parallel_self (Column c) = tt

-- two lines explain a tile by one good tile, if they are parallel or the slope reaches all: the two good tiles agree outside both
pub explains_once : (p l : ℕ) (a b : Line) (x y z : List ℕ) → Slope p l → (Parallel a b) ⊎ (ReachesAll p l) → Explains p l a x y → Explains p l b x z → y ≡ z
explains_once p l a b x y z S h e f =
    equal_tiles p l a b y z S h e.size f.size e.good f.good (λ i j hi hj d q. sym (e.same i j hi hj d) ∙ f.same i j hi hj q)

-- so a tile that differs from the one by which a line explains it is not good: else it would explain itself
pub named_hurt : (p l : ℕ) (a : Line) (x y : List ℕ) {s : Said} → Slope p l → length x ≡ tile_length p → Explains p l a x y → Named p x y s → Good p l x → ⊥
named_hurt p l a x y S size e n g =
    let d = named_differ n in
    d.2.bytes (ap (λ (z : List ℕ). cell p z d.0 d.1) (explains_once p l a a x x y S (inl (parallel_self a)) (good_explains p l a x size g) e))

-- a tile with the cells of a good one is good
pub same_good : (p l : ℕ) (x y : List ℕ) → ((i j : ℕ) → i < p - 1 → j < p - 1 → cell p x i j ≡ cell p y i j) → Good p l y → Good p l x
same_good p l x y same g =
    one_sum_ext p l (cell p y) (cell p x) (same_within p (cell p y) (cell p x) (cell_padded p y) (cell_padded p x) (λ i j hi hj. sym (same i j hi hj))) g

-- a line that the tile does not have holds no cell of it ..
on_has : (p : ℕ) (a : Line) (i j : ℕ) → i < p - 1 → j < p - 1 → On a i j → number a + 2 ≤ p
on_has p (Row r) i j hi hj e = omega arith
on_has p (Column c) i j hi hj e = omega arith

-- .. so it explains only a tile that is good already: the good tile has the same cells
pub explains_has : (p l : ℕ) (a : Line) (x y : List ℕ) → (Good p l x → ⊥) → Explains p l a x y → Has p a
explains_has p l a x y bad e = by_contra (number a + 2) p (λ h.
    bad (same_good p l x y (λ i j hi hj. e.same i j hi hj (λ o. omega (arith, on_has p a i j hi hj o))) e.good))

-- and where a line explains a tile that is not good, the difference has a name
pub explains_named : (p l : ℕ) (a : Line) (x y : List ℕ) → (Good p l x → ⊥) → Explains p l a x y → (s : Said) × Named p x y s
explains_named p l a x y bad e = has_name p a x y e.same (λ none. bad (same_good p l x y (λ i j hi hj. agree_at p x y i j hi hj (none i j)) e.good))

-- a line that the tile has explains it exactly if the sums of both slopes agree along the line
pub explained : (p l : ℕ) (a : Line) (x : List ℕ) → Slope p l → Has p a
    → ((y : List ℕ) × Explains p l a x y) ↔ Agree p l (sum p 1 (cell p x)) (sum p l (cell p x)) a
explained p l a x S h = (
  λ t. line_agrees p l a x t.0 S (omega arith) ((explains_fills p l a x t.0).0 t.1),
  λ e. let f = (line_filled p l a x S (omega arith)).1 e in (f.0, (explains_fills p l a x f.0).1 f.1),
)
