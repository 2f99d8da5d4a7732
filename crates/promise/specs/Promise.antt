-- WHAT THE PROMISES MEAN FOR A USER: what was written is read again, one hurt line is repaired, flagged lines are filled, and a call that
-- refuses changes no byte; for every kind, size and slope. Assumes nothing.
use Rattle.std.specs.Prelude.{◌≡◌, refl, ◌≢◌, ◌⊎◌, List, ℕ, ◌+◌, ◌≤◌, length}
use Rattle.std.proofs.Common.{sym, ◌∙◌, inl, inr, arith}
use Rattle.residue.specs.Size.{Size, Allowed}
use Rattle.code.specs.Kind.{Takes, taken_slope, allowed_taken}
use Rattle.code.specs.Tile.{tile_length, text_length, Good, text_of, EqualOutside, EqualOutsideBoth, Fills}
use Rattle.code.specs.OneLine.{number}
use Rattle.code.specs.Distance.{Parallel}
use Rattle.code.specs.Filling.{parallel_filled}
use Rattle.code.specs.Count.{once_only, none_over, only_over, several_over}
use Rattle.code.specs.Fillings.{Sure, fills_once}
use Rattle.code.specs.declared.Kind.{Kind}
use Rattle.code.specs.declared.Line.{Line}
use Rattle.promise.specs.Answer.{Said, done, clean, cell, column, row, refused}
use Rattle.promise.specs.Calls.{WriteTold, ReadTold, Looked, ByLine, OneByte, Named, by_cell, RepairTold, Granted, RecoverTold, Has, Done, FillTold}
use Rattle.promise.specs.Admit.{admits, admitted_well, admitted_no, slope_of_lem}
use Rattle.promise.specs.Name.{named_line, named_in, granted_clean, named_granted}
use Rattle.promise.specs.Doubt.{cell_only, reach_once, good_only, repairs}
use Rattle.promise.specs.Once.{read_told_once, repair_told_once, fill_told_once}
use Rattle.promise.specs.Kinds.{repair_sure}

-- a tile that was written is read, and what is read is the text that was written
pub read_after_write : (k : Kind) (p l : ℕ) (text tile new page : List ℕ) (said : Said) (page' : List ℕ) → WriteTold k p l text tile done new
    → length page ≡ text_length p → ReadTold k p l new page said page' → (said ≡ done) × (page' ≡ text)
read_after_write k p l text tile new page said page' (WriteTold.writes h w) e r =
    let s = admitted_well h in
    let t = read_told_once k p l new page said done page' (text_of p new) r (ReadTold.reads (admits s.0 s.1 (w.size, e)) w.good) in
    (t.0, t.1 ∙ w.has)

-- ---- repair

-- a good tile is answered Clean, and not touched
pub repair_good : (k : Kind) (p l : ℕ) (tile : List ℕ) (said : Said) (new : List ℕ) → Size p → Takes k p l → length tile ≡ tile_length p → Good p l tile
    → RepairTold k p l tile said new → (said ≡ clean) × (new ≡ tile)
repair_good k p l tile said new s w e g t = repair_told_once k p l tile said clean new tile t (RepairTold.is_good (admits s w e) g)

-- of a good tile x in which one line was changed
module _ (k : Kind) (p l : ℕ) (a : Line) (x tile : List ℕ) (s : Size p) (ex : length x ≡ tile_length p) (e : length tile ≡ tile_length p) (g : Good p l x)
    (same : EqualOutside p a x tile) where
  -- that line explains what it became by x
  itself : ByLine p l tile x
  itself = record { line = a; explains = record { size = ex; good = g; same = λ i j hi hj d. sym (same i j hi hj d) } }

  -- AT EVERY SLOPE it is repaired to itself, or it is doubtful
  pub repair_or_doubt : {said : Said} {new : List ℕ} → Takes k p l → RepairTold k p l tile said new
      → ((new ≡ x) × Granted said) ⊎ (said ≡ refused 8)
  repair_or_doubt w (RepairTold.refuses h) = absurd (admitted_no h (s, w, e))
  repair_or_doubt w (RepairTold.is_good h f) = inl (sym ((good_only p l tile (slope_of_lem h) e f).only x itself), granted_clean)
  repair_or_doubt w (RepairTold.is_hurt h bad (Looked.one o n)) = inl (sym (o.only x itself), named_granted n)
  repair_or_doubt w (RepairTold.is_hurt h bad (Looked.none f)) = absurd (f x itself)
  repair_or_doubt w (RepairTold.is_hurt h bad (Looked.several d)) = inr refl

  -- AT AN ALLOWED SLOPE it is repaired to itself, and never refused
  pub repair_one_line : (said : Said) (new : List ℕ) → Allowed p l → RepairTold k p l tile said new → (new ≡ x) × Granted said
  repair_one_line said new w told = sure (repair_or_doubt (allowed_taken k p l w) told)
    where
      sure : ((new ≡ x) × Granted said) ⊎ (said ≡ refused 8) → (new ≡ x) × Granted said
      sure (inl q) = q
      sure (inr q) = absurd (repair_sure w (rw q at told))

-- THE NAME of what happened to a good tile is the answer: the cell where one byte was changed, at every slope ..
pub repair_cell : (k : Kind) (p l : ℕ) (x tile : List ℕ) (i j : ℕ) (said : Said) (new : List ℕ) → Size p → Takes k p l
    → length x ≡ tile_length p → length tile ≡ tile_length p → Good p l x → OneByte p tile x i j
    → RepairTold k p l tile said new → (said ≡ cell i j) × (new ≡ x)
repair_cell k p l x tile i j said new s w ex e g o told =
    let a = named_line (by_cell o) in
    repair_told_once k p l tile said (cell i j) new x told
    (repairs (admits s w e) (Looked.one (cell_only p l tile (taken_slope k p l s w) a.0 (record { size = ex; good = g; same = a.1 }) o) (by_cell o)))

-- .. and at an allowed one the line too, where more bytes of one line were
pub repair_named : (k : Kind) (p l : ℕ) (x tile : List ℕ) (name said : Said) (new : List ℕ) → Size p → Allowed p l
    → length x ≡ tile_length p → length tile ≡ tile_length p → Good p l x → Named p tile x name
    → RepairTold k p l tile said new → (said ≡ name) × (new ≡ x)
repair_named k p l x tile name said new s w ex e g n told =
    let a = named_line n in
    let taken = allowed_taken k p l w in
    let is : ByLine p l tile x = record { line = a.0; explains = record { size = ex; good = g; same = a.1 } } in
    repair_told_once k p l tile said name new x told
    (repairs (admits s taken e) (Looked.one (once_only (reach_once p l tile (taken_slope k p l s taken) w.reach) is) n))

-- the cell or the line that repair names is one of the tile's
module _ {k : Kind} {p l : ℕ} {tile new : List ℕ} where
  pub cell_within : {r c : ℕ} → RepairTold k p l tile (cell r c) new → (r + 2 ≤ p) × (c + 2 ≤ p)
  cell_within (RepairTold.is_hurt h bad (Looked.one o n)) = named_in n

  pub column_within : {c : ℕ} → RepairTold k p l tile (column c) new → c + 2 ≤ p
  column_within (RepairTold.is_hurt h bad (Looked.one o n)) = named_in n

  pub row_within : {r : ℕ} → RepairTold k p l tile (row r) new → r + 2 ≤ p
  row_within (RepairTold.is_hurt h bad (Looked.one o n)) = named_in n

-- ---- fill

-- a good tile with changes in two lines that are flagged becomes itself, if they are parallel or the slope reaches all
pub fill_flagged : (k : Kind) (p l : ℕ) (a b : Line) (x tile : List ℕ) (said : Said) (new : List ℕ) → Size p → Takes k p l → Sure p l a b
    → length x ≡ tile_length p → length tile ≡ tile_length p → Good p l x → Has p a → Has p b → EqualOutsideBoth p a b x tile
    → FillTold k p l tile a b said new → (said ≡ done) × (new ≡ x)
fill_flagged k p l a b x tile said new s w sure ex e g ha hb same t =
    fill_told_once k p l tile a b said done new x t
    (FillTold.has_lines (admits s w e) ha hb (Looked.one
    (once_only (fills_once p l tile (taken_slope k p l s w) a b sure) (record { size = ex; good = g; agrees = λ i j hi hj d q. sym (same i j hi hj d q) })) refl))

-- a filling of x is one of y, where x and y are equal outside the flagged lines ..
fills_alike : (p l : ℕ) (a b : Line) (x y z : List ℕ) → EqualOutsideBoth p a b x y → Fills p l a b x z → Fills p l a b y z
fills_alike p l a b x y z same f = record { size = f.size; good = f.good; agrees = λ i j hi hj d q. sym (same i j hi hj d q) ∙ f.agrees i j hi hj d q }

-- .. so the bytes of those lines are ignored: both get one answer, and where it is Done one tile
pub fill_ignores : (k : Kind) (p l : ℕ) (a b : Line) (x y : List ℕ) (said said' : Said) (new new' : List ℕ) → length x ≡ length y → EqualOutsideBoth p a b x y
    → FillTold k p l x a b said new → FillTold k p l y a b said' new' → (said ≡ said') × (said ≡ done → new ≡ new')
fill_ignores k p l a b x y said said' new new' e same t u = known (also t)
  where
    known : (z : List ℕ) × FillTold k p l y a b said z × (said ≡ done → new ≡ z) → (said ≡ said') × (said ≡ done → new ≡ new')
    known v = let q = fill_told_once k p l y a b said said' v.0 new' v.1 u in (q.0, λ d. v.2 d ∙ q.1)

    never : {n : ℕ} {A : Type 0} → refused n ≡ done → A
    never d = absurd (let z : ◌≡◌ {A = ℕ} 0 1 = cc in omega arith)

    there : (z : List ℕ) → Fills p l a b x z → Fills p l a b y z
    there z = fills_alike p l a b x y z same

    back : (z : List ℕ) → Fills p l a b y z → Fills p l a b x z
    back z = fills_alike p l a b y x z (λ i j hi hj d q. sym (same i j hi hj d q))

    looks : {said : Said} {new : List ℕ} → Looked (Fills p l a b x) Done x said new → (z : List ℕ) × Looked (Fills p l a b y) Done y said z × (said ≡ done → new ≡ z)
    looks (Looked.one {new} o q) = (new, Looked.one (only_over (λ z. z) (λ z. z) there back (λ z. refl) o) q, λ d. refl)
    looks (Looked.none f) = (y, Looked.none (none_over (λ z. z) (λ z. z) there back f), never)
    looks (Looked.several d) = (y, Looked.several (several_over (λ z. z) (λ z. z) there back (λ z. refl) d), never)

    also : {said : Said} {new : List ℕ} → FillTold k p l x a b said new → (z : List ℕ) × FillTold k p l y a b said z × (said ≡ done → new ≡ z)
    also (FillTold.refuses h) = (y, FillTold.refuses (rw e at h), never)
    also (FillTold.no_line h f) = (y, FillTold.no_line (rw e at h) f, never)
    also (FillTold.has_lines h ha hb q) = let v = looks q in (v.0, FillTold.has_lines (rw e at h) ha hb v.1, v.2)

-- for two different rows, and for two different columns, there is a filling whatever the tile holds, and whatever the slope
pub fill_parallel : (k : Kind) (p l : ℕ) (tile : List ℕ) (a b : Line) (said : Said) (new : List ℕ) → Size p → Takes k p l
    → length tile ≡ tile_length p → Has p a → Has p b → Parallel a b → number a ≢ number b → FillTold k p l tile a b said new → said ≡ done
fill_parallel k p l tile a b said new s w e ha hb side apart t =
    let S = taken_slope k p l s w in
    let f = parallel_filled p l a b tile S side apart (omega arith) (omega arith) in
    (fill_told_once k p l tile a b said done new f.0 t
    (FillTold.has_lines (admits s w e) ha hb (Looked.one (once_only (fills_once p l tile S a b (inl side)) f.1) refl))).0

-- ---- a call that refuses leaves the lent bytes as they were

module _ {k : Kind} {p l : ℕ} where
  -- a refused write leaves the tile
  pub write_refused : {n : ℕ} {text tile new : List ℕ} → WriteTold k p l text tile (refused n) new → new ≡ tile
  write_refused (WriteTold.refuses h) = refl

  -- a refused read leaves the text
  pub read_refused : {n : ℕ} {tile text new : List ℕ} → ReadTold k p l tile text (refused n) new → new ≡ text
  read_refused (ReadTold.refuses h) = refl
  read_refused (ReadTold.not_good h f) = refl

  -- a refused repair leaves the tile
  pub repair_refused : {n : ℕ} {tile new : List ℕ} → RepairTold k p l tile (refused n) new → new ≡ tile
  repair_refused (RepairTold.refuses h) = refl
  repair_refused (RepairTold.is_hurt h bad (Looked.one o m)) = absurd (named_in m)
  repair_refused (RepairTold.is_hurt h bad (Looked.none f)) = refl
  repair_refused (RepairTold.is_hurt h bad (Looked.several d)) = refl

  -- a refused recovery leaves the text
  pub recover_refused : {n : ℕ} {scan text new : List ℕ} → RecoverTold k p l scan text (refused n) new → new ≡ text
  recover_refused (RecoverTold.refuses h) = refl
  recover_refused (RecoverTold.unrepaired h t) = refl
  recover_refused {n} (RecoverTold.recovers h d t) = absurd (d n refl)

  -- a refused filling leaves the tile
  pub fill_refused : {n : ℕ} {tile new : List ℕ} {a b : Line} → FillTold k p l tile a b (refused n) new → new ≡ tile
  fill_refused (FillTold.refuses h) = refl
  fill_refused (FillTold.no_line h f) = refl
  fill_refused (FillTold.has_lines h ha hb (Looked.one o q)) = absurd (let z : ◌≡◌ {A = ℕ} 0 1 = cc in omega arith)
  fill_refused (FillTold.has_lines h ha hb (Looked.none f)) = refl
  fill_refused (FillTold.has_lines h ha hb (Looked.several d)) = refl
