-- WHAT THE KIND AND THE SLOPE DECIDE (SPEC 2.5, 5.3 and 5.4): where a slope is allowed both kinds answer alike, and nothing is doubtful; at
-- every slope two rows, two columns and one line are sure; and where the powers of the slope miss a remainder no row with a column is
-- filled. Assumes nothing.
use Rattle.std.specs.Prelude.{◌≡◌, refl, ◌⊎◌, List, ℕ}
use Rattle.std.proofs.Common.{inl, inr, ⊎_elim, arith}
use Rattle.residue.specs.Power.{ReachesAll}
use Rattle.residue.specs.Size.{Allowed}
use Rattle.code.specs.Tile.{Fills, Bytes}
use Rattle.code.specs.Distance.{Parallel}
use Rattle.code.specs.Count.{Several, OfBytes, once_several, only_several}
use Rattle.code.specs.Fillings.{Sure, fills_sure, unsure_several, several_bytes}
use Rattle.code.specs.declared.Kind.{Kind}
use Rattle.code.specs.declared.Line.{Line}
use Rattle.size.specs.Answer as size
use Rattle.promise.specs.Answer.{Said, done, refused}
use Rattle.promise.specs.Calls.{Admitted, TileLength, WriteTold, ReadTold, Looked, ByLine, RepairTold, InspectTold, RecoverTold, Has, FillTold}
use Rattle.promise.specs.Admit.{admitted_well, admitted_no, admitted_low, admitted_alike, slope_of_lem}
use Rattle.promise.specs.Name.{named_in}
use Rattle.promise.specs.Doubt.{Doubt, reach_once, doubt_several, several_doubt, doubt_bytes, repairs}
use Rattle.promise.specs.Once.{write_told_once, read_told_once, repair_told_once, inspect_told_once, recover_told_once, fill_told_once}

-- ---- both kinds alike, where the slope is allowed

module _ {p l : ℕ} (allowed : Allowed p l) {j k : Kind} where
  -- what is right for one kind is right for the other ..
  pub write_either : {text tile new : List ℕ} {s : Said} → WriteTold j p l text tile s new → WriteTold k p l text tile s new
  write_either (WriteTold.refuses h) = WriteTold.refuses (admitted_alike allowed h)
  write_either (WriteTold.writes h w) = WriteTold.writes (admitted_alike allowed h) w

  pub read_either : {tile text new : List ℕ} {s : Said} → ReadTold j p l tile text s new → ReadTold k p l tile text s new
  read_either (ReadTold.refuses h) = ReadTold.refuses (admitted_alike allowed h)
  read_either (ReadTold.not_good h f) = ReadTold.not_good (admitted_alike allowed h) f
  read_either (ReadTold.reads h g) = ReadTold.reads (admitted_alike allowed h) g

  pub repair_either : {tile new : List ℕ} {s : Said} → RepairTold j p l tile s new → RepairTold k p l tile s new
  repair_either (RepairTold.refuses h) = RepairTold.refuses (admitted_alike allowed h)
  repair_either (RepairTold.is_good h g) = RepairTold.is_good (admitted_alike allowed h) g
  repair_either (RepairTold.is_hurt h bad q) = RepairTold.is_hurt (admitted_alike allowed h) bad q

  pub inspect_either : {scan : List ℕ} {s : Said} → InspectTold j p l scan s → InspectTold k p l scan s
  inspect_either t = record { tile = t.tile; told = repair_either t.told }

  pub recover_either : {scan text new : List ℕ} {s : Said} → RecoverTold j p l scan text s new → RecoverTold k p l scan text s new
  recover_either (RecoverTold.refuses h) = RecoverTold.refuses (admitted_alike allowed h)
  recover_either (RecoverTold.unrepaired h t) = RecoverTold.unrepaired (admitted_alike allowed h) (inspect_either t)
  recover_either (RecoverTold.recovers h d t) = RecoverTold.recovers (admitted_alike allowed h) d (repair_either t)

  pub fill_either : {tile new : List ℕ} {a b : Line} {s : Said} → FillTold j p l tile a b s new → FillTold k p l tile a b s new
  fill_either (FillTold.refuses h) = FillTold.refuses (admitted_alike allowed h)
  fill_either (FillTold.no_line h f) = FillTold.no_line (admitted_alike allowed h) f
  fill_either (FillTold.has_lines h ha hb q) = FillTold.has_lines (admitted_alike allowed h) ha hb q

  -- .. SO BOTH GIVE ONE ANSWER, and leave the same bytes
  pub write_alike : {text tile x y : List ℕ} {s t : Said} → WriteTold j p l text tile s x → WriteTold k p l text tile t y → (s ≡ t) × (x ≡ y)
  write_alike {text} {tile} {x} {y} {s} {t} a b = write_told_once k p l text tile s t x y (write_either a) b

  pub read_alike : {tile text x y : List ℕ} {s t : Said} → ReadTold j p l tile text s x → ReadTold k p l tile text t y → (s ≡ t) × (x ≡ y)
  read_alike {tile} {text} {x} {y} {s} {t} a b = read_told_once k p l tile text s t x y (read_either a) b

  pub repair_alike : {tile x y : List ℕ} {s t : Said} → RepairTold j p l tile s x → RepairTold k p l tile t y → (s ≡ t) × (x ≡ y)
  repair_alike {tile} {x} {y} {s} {t} a b = repair_told_once k p l tile s t x y (repair_either a) b

  pub inspect_alike : {scan : List ℕ} {s t : Said} → InspectTold j p l scan s → InspectTold k p l scan t → s ≡ t
  inspect_alike {scan} {s} {t} a b = inspect_told_once k p l scan s t (inspect_either a) b

  pub recover_alike : {scan text x y : List ℕ} {s t : Said} → RecoverTold j p l scan text s x → RecoverTold k p l scan text t y → (s ≡ t) × (x ≡ y)
  recover_alike {scan} {text} {x} {y} {s} {t} a b = recover_told_once k p l scan text s t x y (recover_either a) b

  pub fill_alike : {tile x y : List ℕ} {a b : Line} {s t : Said} → FillTold j p l tile a b s x → FillTold k p l tile a b t y → (s ≡ t) × (x ≡ y)
  fill_alike {tile} {x} {y} {a} {b} {s} {t} c d = fill_told_once k p l tile a b s t x y (fill_either c) d

-- ---- what is never doubtful

-- 8 is said of looking at good tiles alone: no other refusal has this number
repair_eight : {k : Kind} {p l : ℕ} {tile new : List ℕ} → RepairTold k p l tile (refused 8) new
    → Admitted k p l (TileLength p tile) size.well × Several (ByLine p l tile)
repair_eight (RepairTold.refuses h) = absurd (omega (arith, admitted_low h))
repair_eight (RepairTold.is_hurt h bad (Looked.one o n)) = absurd (named_in n)
repair_eight (RepairTold.is_hurt h bad (Looked.several d)) = (h, d)

fill_eight : {k : Kind} {p l : ℕ} {tile new : List ℕ} {a b : Line} → FillTold k p l tile a b (refused 8) new
    → Admitted k p l (TileLength p tile) size.well × (Has p a) × (Has p b) × Several (Fills p l a b tile)
fill_eight (FillTold.refuses h) = absurd (omega (arith, admitted_low h))
fill_eight (FillTold.has_lines h ha hb (Looked.one o q)) = absurd (let z : ◌≡◌ {A = ℕ} 0 1 = cc in omega arith)
fill_eight (FillTold.has_lines h ha hb (Looked.several d)) = (h, ha, hb, d)

module _ {k : Kind} {p l : ℕ} {tile new : List ℕ} where
  -- AT AN ALLOWED SLOPE no tile is, for repair ..
  pub repair_sure : Allowed p l → RepairTold k p l tile (refused 8) new → ⊥
  repair_sure allowed t = let d = repair_eight t in once_several (reach_once p l tile (slope_of_lem d.0) allowed.reach) d.1

  -- .. nor for fill; AT EVERY SLOPE two rows, two columns and one line are not
  pub fill_sure : {a b : Line} → (Parallel a b) ⊎ (Allowed p l) → FillTold k p l tile a b (refused 8) new → ⊥
  fill_sure {a} {b} sure t = let d = fill_eight t in fills_sure p l tile (slope_of_lem d.0) a b (go sure) d.3
    where
      go : (Parallel a b) ⊎ (Allowed p l) → Sure p l a b
      go (inl h) = inl h
      go (inr w) = inr w.reach

  -- ---- what is

  -- REPAIR IS DOUBTFUL EXACTLY if a column explains the tile by two bytes or more, and a row explains it too
  pub repair_doubtful : RepairTold k p l tile (refused 8) new → Doubt p l tile
  repair_doubtful t = let d = repair_eight t in several_doubt p l tile (slope_of_lem d.0) (admitted_well d.0).2 d.1

  pub doubtful_repair : {said : Said} → Admitted k p l (TileLength p tile) size.well → Doubt p l tile → RepairTold k p l tile said new → said ≡ refused 8
  doubtful_repair {said} h d t =
      (repair_told_once k p l tile said (refused 8) new tile t (repairs h (Looked.several (doubt_several p l tile (slope_of_lem h) d)))).0

  -- and two different good tiles that explain it are tiles of bytes, if it is one itself; so are two that fill it
  pub doubtful_bytes : Bytes tile → RepairTold k p l tile (refused 8) new → Several (OfBytes (ByLine p l tile))
  doubtful_bytes h t = let d = repair_eight t in doubt_bytes p l tile (slope_of_lem d.0) (admitted_well d.0).2 d.1 h

  pub fillings_bytes : {a b : Line} → Bytes tile → FillTold k p l tile a b (refused 8) new → Several (OfBytes (Fills p l a b tile))
  fillings_bytes {a} {b} h t = let d = fill_eight t in several_bytes p l tile (slope_of_lem d.0) a b (omega (arith, d.1)) (omega (arith, d.2)) h d.3

  -- A ROW WITH A COLUMN is never filled where the powers of the slope miss a remainder, whatever the bytes ..
  pub crossed_unfilled : {a b : Line} → (Parallel a b → ⊥) → (ReachesAll p l → ⊥) → FillTold k p l tile a b done new → ⊥
  crossed_unfilled {a} {b} cross miss (FillTold.has_lines h ha hb (Looked.one o q)) =
      only_several o (unsure_several p l tile (slope_of_lem h) a b (omega arith) (omega arith) (⊎_elim cross miss) new o.is)

-- inspect and recover, which say what repair says, never say 8 at an allowed slope either
module _ {k : Kind} {p l : ℕ} {scan : List ℕ} where
  pub inspect_sure : Allowed p l → InspectTold k p l scan (refused 8) → ⊥
  inspect_sure allowed t = repair_sure allowed t.told

  pub recover_sure : {text new : List ℕ} → Allowed p l → RecoverTold k p l scan text (refused 8) new → ⊥
  recover_sure allowed (RecoverTold.refuses h) = absurd (omega (arith, admitted_low h))
  recover_sure allowed (RecoverTold.unrepaired h t) = inspect_sure allowed t
  recover_sure allowed (RecoverTold.recovers h d t) = d 8 refl

-- .. but refused with 5 or with 8
module _ {k : Kind} {p l : ℕ} {tile : List ℕ} where
  pub crossed_refused : {a b : Line} {said : Said} {new : List ℕ} → (Parallel a b → ⊥) → (ReachesAll p l → ⊥) → Admitted k p l (TileLength p tile) size.well → Has p a → Has p b
      → FillTold k p l tile a b said new → (said ≡ refused 5) ⊎ (said ≡ refused 8)
  crossed_refused cross miss h ha hb (FillTold.refuses e) = absurd (admitted_no e (admitted_well h))
  crossed_refused cross miss h ha hb (FillTold.no_line e f) = absurd (f (ha, hb))
  crossed_refused cross miss h ha hb (FillTold.has_lines e f g (Looked.one o q)) = absurd (crossed_unfilled cross miss (FillTold.has_lines e f g (Looked.one o refl)))
  crossed_refused cross miss h ha hb (FillTold.has_lines e f g (Looked.none n)) = inl refl
  crossed_refused cross miss h ha hb (FillTold.has_lines e f g (Looked.several d)) = inr refl
