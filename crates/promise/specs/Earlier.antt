-- WHAT EARLIER VERSIONS SAID of new tiles, for those who have their reports. No call follows these rules any more.
--
-- Before version 0.3.0 repair took the first column that explains a tile, and a row only where no column does, so that a lone byte was told
-- as its column. Each answer of today stands for one of that rule, with the same bytes, and each of that rule for one of today's.
--
-- Before version 0.4.0 fill took any filling, as there was never a second one. Its answers and bytes are today's. Assumes nothing.
use Rattle.std.specs.Prelude.{◌≡◌, refl, List, ℕ, ◌<◌}
use Rattle.std.proofs.Common.{sym, ap, ◌∙◌, inr, arith}
use Rattle.std.proofs.Math.Decide.{ℕ_discrete}
use Rattle.code.specs.Tile.{cell, Good, On, Differ, Fills}
use Rattle.code.specs.Differ.{differ_on}
use Rattle.code.specs.Count.{None, Only, once_only, once_several}
use Rattle.code.specs.Fillings.{fills_once}
use Rattle.code.specs.declared.Kind.TheVariants.{New}
use Rattle.code.specs.declared.Line.{Line}
use Rattle.code.specs.declared.Line.TheVariants.{Row, Column}
use Rattle.size.specs.Answer as size
use Rattle.promise.specs.Answer.{Said, done, clean, column, row, refused}
use Rattle.promise.specs.Calls.{Admitted, TileLength, Looked, Explains, ByLine, MoreBytes, Named, by_cell, by_column, by_row, RepairTold, Has, FillTold}
use Rattle.promise.specs.Admit.{admitted_well, slope_of_lem}
use Rattle.promise.specs.Name.{line_said, more_on}
use Rattle.promise.specs.Explain.{Unexplained, unexplained_hurt, explains_on, explains_named}
use Rattle.promise.specs.Doubt.{reach_once, repairs}
use Rattle.promise.specs.Once.{repair_told_once, fill_told_once}

-- repair: the first column that explains a tile that is not good; where no column does, the first row; else 5
pub data ToldEarlier (p l : ℕ) (tile : List ℕ) : Said → List ℕ → Type 0 where
  refuses : {n : ℕ} → Admitted New p l (TileLength p tile) (size.refused n) → ToldEarlier p l tile (refused n) tile
  is_good : Admitted New p l (TileLength p tile) size.well → Good p l tile → ToldEarlier p l tile clean tile
  first_column : {c : ℕ} {new : List ℕ} → Admitted New p l (TileLength p tile) size.well → (Good p l tile → ⊥)
      → Explains p l (Column c) tile new → ((k : ℕ) → k < c → Unexplained p l tile (Column k)) → ToldEarlier p l tile (column c) new
  first_row : {r : ℕ} {new : List ℕ} → Admitted New p l (TileLength p tile) size.well → ((k : ℕ) → Unexplained p l tile (Column k))
      → Explains p l (Row r) tile new → ((k : ℕ) → k < r → Unexplained p l tile (Row k)) → ToldEarlier p l tile (row r) new
  by_none : Admitted New p l (TileLength p tile) size.well → ((a : Line) → Unexplained p l tile a) → ToldEarlier p l tile (refused 5) tile

-- what was said in its place: of a cell its column, and of anything else the same
abbrev pub earlier : Said → Said
earlier done = done
earlier clean = clean
earlier (Said.cell r c) = column c
earlier (column c) = column c
earlier (row r) = row r
earlier (refused n) = refused n

module _ (p l : ℕ) (tile : List ℕ) where
  -- of a tile that is explained by new alone ..
  module _ {new : List ℕ} (o : Only (ByLine p l tile) new) where
    -- .. no line explains it that misses a cell where the two differ: by that line too it would be new
    missed : (b : Line) (i j : ℕ) → Differ p tile new i j → (On b i j → ⊥) → Unexplained p l tile b
    missed b i j d off y f =
        d.bytes (f.same i j d.row d.column off ∙ ap (λ (z : List ℕ). cell p z i j) (o.only y (record { line = b; explains = f })))

    -- .. and where two bytes of a row differ no column does
    no_column : {r : ℕ} → MoreBytes p tile new (Row r) → (k : ℕ) → Unexplained p l tile (Column k)
    no_column m k = go (ℕ_discrete m.j k) (ℕ_discrete m.k k)
      where
        go : Dec (m.j ≡ k) → Dec (m.k ≡ k) → Unexplained p l tile (Column k)
        go (no d) b = missed (Column k) m.i m.j m.one d
        go (yes q) (no d) = missed (Column k) m.r m.k m.other d
        go (yes q) (yes o) = absurd (m.apart (m.within _ _ m.one ∙ sym (m.within _ _ m.other), q ∙ sym o))

    -- a line that holds all that differs explains it
    held : (b : Line) → ((i j : ℕ) → Differ p tile new i j → On b i j) → Explains p l b tile new
    held b = explains_on p l o.is.line b tile new o.is.explains

  -- each answer stands for one of the earlier rule, and the bytes are the same
  pub stands_for : {said : Said} {new : List ℕ} → RepairTold New p l tile said new → ToldEarlier p l tile (earlier said) new
  stands_for (RepairTold.refuses h) = refuses h
  stands_for (RepairTold.is_good h g) = is_good h g
  stands_for (RepairTold.is_hurt h bad (Looked.none f)) = by_none h (λ a y e. f y (record { line = a; explains = e }))
  stands_for (RepairTold.is_hurt h bad (Looked.several d)) = absurd (once_several (reach_once p l tile (slope_of_lem h) (admitted_well h).1.reach) d)
  stands_for (RepairTold.is_hurt h bad (Looked.one o (by_cell {i} {j} b))) =
      first_column h bad (held o (Column j) (λ r k d. (b.alone r k d).1)) (λ k q. missed o (Column k) i j b.here (omega arith))
  stands_for (RepairTold.is_hurt h bad (Looked.one o (by_column {c} m))) =
      first_column h bad (held o (Column c) m.within) (λ k q. missed o (Column k) m.i m.j m.one (omega (arith, m.within _ _ m.one)))
  stands_for (RepairTold.is_hurt h bad (Looked.one o (by_row {r} m))) =
      first_row h (no_column o m) (held o (Row r) m.within) (λ k q. missed o (Row k) m.i m.j m.one (omega (arith, m.within _ _ m.one)))

  -- by whatever a line explains a new tile, it is the only one
  mends : {a : Line} {said : Said} {new : List ℕ} → Admitted New p l (TileLength p tile) size.well → Explains p l a tile new → Named p tile new said
      → RepairTold New p l tile said new
  mends {a} h e n = repairs h (Looked.one (once_only (reach_once p l tile (slope_of_lem h) (admitted_well h).1.reach) (record { line = a; explains = e })) n)

  -- each answer of the earlier rule is one of today's
  pub stood_for : {said : Said} {new : List ℕ} → ToldEarlier p l tile said new → (now : Said) × RepairTold New p l tile now new × (earlier now ≡ said)
  stood_for (refuses {n} h) = (refused n, RepairTold.refuses h, refl)
  stood_for (is_good h g) = (clean, RepairTold.is_good h g, refl)
  stood_for (by_none h f) = (refused 5, repairs h (Looked.none (λ y t. f t.line y t.explains)), refl)
  stood_for (first_column {c} {new} h bad e first) =
      let n = explains_named p l (Column c) tile new bad e in (n.0, mends h e n.1, go n.1)
    where
      on : (i j : ℕ) → Differ p tile new i j → On (Column c) i j
      on = (differ_on p (Column c) tile new).0 e.same

      go : {s : Said} → Named p tile new s → earlier s ≡ column c
      go (by_cell o) = ap column (on _ _ o.here)
      go (by_column m) = ap line_said (more_on (Column c) m on)
      go (by_row m) = ap line_said (more_on (Column c) m on)
  stood_for (first_row {r} {new} h none e first) =
      let n = explains_named p l (Row r) tile new (unexplained_hurt p l (Column 0) tile (admitted_well h).2 (none 0)) e in
      (n.0, mends h e n.1, go n.1)
    where
      on : (i j : ℕ) → Differ p tile new i j → On (Row r) i j
      on = (differ_on p (Row r) tile new).0 e.same

      go : {s : Said} → Named p tile new s → earlier s ≡ row r
      go (by_cell {i} {j} o) = absurd (none j new (explains_on p l (Row r) (Column j) tile new e (λ m n d. (o.alone m n d).1)))
      go (by_column m) = ap line_said (more_on (Row r) m on)
      go (by_row m) = ap line_said (more_on (Row r) m on)

  -- so of one tile the earlier report said what today's answer stands for, and the bytes are the same
  pub earlier_report : {said was : Said} {new old : List ℕ} → RepairTold New p l tile said new → ToldEarlier p l tile was old
      → (was ≡ earlier said) × (old ≡ new)
  earlier_report {said} {was} {new} {old} told report =
      let s = stood_for report in
      let q = repair_told_once New p l tile s.0 said old new s.1 told in
      (sym s.2 ∙ ap earlier q.0, q.1)

-- ---- fill

-- 4 where the tile lacks a line, 5 where it has no filling, else a filling
pub data FilledEarlier (p l : ℕ) (tile : List ℕ) (a b : Line) : Said → List ℕ → Type 0 where
  refuses : {n : ℕ} → Admitted New p l (TileLength p tile) (size.refused n) → FilledEarlier p l tile a b (refused n) tile
  no_line : Admitted New p l (TileLength p tile) size.well → (Has p a × Has p b → ⊥) → FilledEarlier p l tile a b (refused 4) tile
  no_filling : Admitted New p l (TileLength p tile) size.well → Has p a → Has p b → None (Fills p l a b tile) → FilledEarlier p l tile a b (refused 5) tile
  a_filling : {new : List ℕ} → Admitted New p l (TileLength p tile) size.well → Has p a → Has p b → Fills p l a b tile new → FilledEarlier p l tile a b done new

-- each of its outcomes is today's, and so of one tile both are the same
pub fill_as_before : {p l : ℕ} {tile x y : List ℕ} {a b : Line} {s t : Said} → FillTold New p l tile a b s x → FilledEarlier p l tile a b t y
    → (s ≡ t) × (x ≡ y)
fill_as_before {p} {l} {tile} {x} {y} {a} {b} {s} {t} told was = fill_told_once New p l tile a b s t x y told (today was)
  where
    today : {t : Said} {y : List ℕ} → FilledEarlier p l tile a b t y → FillTold New p l tile a b t y
    today (FilledEarlier.refuses h) = FillTold.refuses h
    today (FilledEarlier.no_line h f) = FillTold.no_line h f
    today (FilledEarlier.no_filling h ha hb f) = FillTold.has_lines h ha hb (Looked.none f)
    today (FilledEarlier.a_filling h ha hb f) =
        FillTold.has_lines h ha hb (Looked.one (once_only (fills_once p l tile (slope_of_lem h) a b (inr (admitted_well h).1.reach)) f) refl)
