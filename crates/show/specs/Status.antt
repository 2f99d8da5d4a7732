-- WHAT A READER MUST BELIEVE: the exit status, by what was found (SPEC 12.5). Assumes nothing.
use Rattle.std.specs.Prelude.{◌≡◌, Bool, true, false, ℕ, ℤ, pos}
use Rattle.picture.specs.declared.tally.Tally.{Tally}
use Rattle.show.specs.declared.status.Status.{Status}
use Rattle.show.specs.declared.status.Status.TheVariants.{Well, Wrong, Failed}

-- SPEC 12.5: the number that the system is given for a status
abbrev pub code : Status → ℤ
code Well = pos 0
code Wrong = pos 1
code Failed = pos 2

-- SPEC 12.5: all is well with the tiles: each is clean; or, where they were to be mended, none is refused
abbrev pub AllWell : Bool → Tally → Type 0
AllWell true t = (t.refused ≡ 0) × (t.doubtful ≡ 0)
AllWell false t = t.clean ≡ t.tiles

-- SPEC 12.5: STATUS of `list` and `map`, and of `repair`, by which tiles are mended: 0 where the walk came to the end and all is well, else
-- 1
pub data StatusIs (mended : Bool) (t : Tally) : Bool → Status → Type 0 where
  well : AllWell mended t → StatusIs mended t true Well
  hurt : (AllWell mended t → ⊥) → StatusIs mended t true Wrong
  stopped : StatusIs mended t false Wrong

-- SPEC 12.5: STATUS of a `fill` that is refused: 2 by 4, for a line that the tile does not have, and else 1
pub data FillStatusIs (n : ℕ) : Status → Type 0 where
  no_line : n ≡ 4 → FillStatusIs n Failed
  no_filling : (n ≡ 4 → ⊥) → FillStatusIs n Wrong
