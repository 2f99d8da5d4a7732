-- WHAT A FLAG PROMISES (SPEC 7.6): a new tile with one is never doubtful, and what it lost is restored. Assumes nothing.
use Rattle.std.specs.Prelude.{◌≡◌, refl, ◌⊎◌, ◌↔◌, List, ℕ, Option, Some, None}
use Rattle.std.proofs.Common.{inl, inr}
use Rattle.code.specs.Tile.{Good, EqualOutsideBoth, Fills}
use Rattle.code.specs.Count as count
use Rattle.code.specs.Count.{once_only}
use Rattle.code.specs.Fillings.{Sure, fills_once, fills_sure}
use Rattle.code.specs.declared.Kind.{Kind}
use Rattle.code.specs.declared.Kind.TheVariants.{New}
use Rattle.code.specs.declared.Line.{Line}
use Rattle.size.specs.Answer as size
use Rattle.promise.specs.Answer.{Said, done, refused}
use Rattle.promise.specs.Calls.{Admitted, TileLength, Looked, Has, FillTold}
use Rattle.promise.specs.Admit.{admitted_well, admitted_no, slope_of_lem}
use Rattle.restorer.specs.Restore.{RestoreTold}

-- ---- the lines of the flags

-- SPEC 7.6: the two lines that flags name: both, or a lone one, named twice
pub data Lines : Option Line → Option Line → Line → Line → Type 0 where
  both : {a b : Line} → Lines (Some a) (Some b) a b
  lone_first : {a : Line} → Lines (Some a) None a a
  lone_second : {b : Line} → Lines None (Some b) b b

-- wherever there is a flag there are such lines
pub flags_name : (first second : Option Line) → ((first ≡ None) × (second ≡ None)) ⊎ ((a : Line) × (b : Line) × Lines first second a b)
flags_name None None = inl (refl, refl)
flags_name None (Some b) = inr (b, b, lone_second)
flags_name (Some a) None = inr (a, a, lone_first)
flags_name (Some a) (Some b) = inr (a, b, both)

-- to restore the tile is then to fill them
pub restore_fills : (k : Kind) (p l : ℕ) (tile : List ℕ) {first second : Option Line} {a b : Line} {said : Said} {new : List ℕ} → Lines first second a b
    → RestoreTold k p l tile first second said new ↔ FillTold k p l tile a b said new
restore_fills k p l tile both = (λ t. t, λ t. t)
restore_fills k p l tile lone_first = (λ t. t, λ t. t)
restore_fills k p l tile lone_second = (λ t. t, λ t. t)

-- ---- lines that are sure: two rows, two columns, one line, and, at a slope that reaches all, any two

-- what may come of filling two lines: done is said, and the tile becomes a filling; or 5, it stays what it is, and there is no filling
pub data Settled (p l : ℕ) (a b : Line) (tile : List ℕ) : Said → List ℕ → Type 0 where
  filled : {new : List ℕ} → Fills p l a b tile new → Settled p l a b tile done new
  unfilled : count.None (Fills p l a b tile) → Settled p l a b tile (refused 5) tile

module _ (k : Kind) (p l : ℕ) (tile : List ℕ) {first second : Option Line} {a b : Line} (lines : Lines first second a b) (sure : Sure p l a b)
    (taken : Admitted k p l (TileLength p tile) size.well) (ha : Has p a) (hb : Has p b) where
  -- nothing else comes of restoring a tile of any kind, where its flags name such lines ..
  pub sure_settled : {said : Said} {new : List ℕ} → RestoreTold k p l tile first second said new → Settled p l a b tile said new
  sure_settled told = go ((restore_fills k p l tile lines).0 told)
    where
      go : {said : Said} {new : List ℕ} → FillTold k p l tile a b said new → Settled p l a b tile said new
      go (FillTold.refuses h) = absurd (admitted_no h (admitted_well taken))
      go (FillTold.no_line h f) = absurd (f (ha, hb))
      go (FillTold.has_lines h ia ib (Looked.one o e)) = rw e (filled o.is)
      go (FillTold.has_lines h ia ib (Looked.none n)) = unfilled n
      go (FillTold.has_lines h ia ib (Looked.several d)) = absurd (fills_sure p l tile (slope_of_lem taken) a b sure d)

  -- .. and where there is a filling, the tile becomes it
  pub sure_filled : {new : List ℕ} → Fills p l a b tile new → RestoreTold k p l tile first second done new
  sure_filled f =
      (restore_fills k p l tile lines).1
      (FillTold.has_lines taken ha hb (Looked.one (once_only (fills_once p l tile (slope_of_lem taken) a b sure) f) refl))

-- ---- new tiles, which alone carry flags on a reel: any two lines are sure, as every slope that a new tile takes reaches all

module _ (p l : ℕ) (tile : List ℕ) {first second : Option Line} {a b : Line} (lines : Lines first second a b)
    (taken : Admitted New p l (TileLength p tile) size.well) (ha : Has p a) (hb : Has p b) where
  sure : Sure p l a b
  sure = inr (admitted_well taken).1.reach

  -- A FLAGGED TILE IS NEVER DOUBTFUL: it is filled, or it has no filling, and 5 is said
  pub flagged_never_doubtful : {said : Said} {new : List ℕ} → RestoreTold New p l tile first second said new → Settled p l a b tile said new
  flagged_never_doubtful = sure_settled New p l tile lines sure taken ha hb

  -- WHAT WAS LOST IS RESTORED: where a good tile equals this one outside the flagged lines, this one is filled, and becomes that tile,
  -- whatever the lines hold now
  pub lost_restored : (y : List ℕ) → TileLength p y → Good p l y → EqualOutsideBoth p a b tile y → RestoreTold New p l tile first second done y
  lost_restored y size good agrees = sure_filled New p l tile lines sure taken ha hb (record { size = size; good = good; agrees = agrees })

  -- so where nothing was lost a flag does no harm: filled is said, and the tile stays what it is
  pub good_filled : Good p l tile → RestoreTold New p l tile first second done tile
  good_filled good = lost_restored tile (admitted_well taken).2 good (λ i j hi hj d e. refl)
