-- WHAT A READER MUST BELIEVE: the house slope of a size, the rule of a table of house slopes, and what is told of a number that is looked
-- up in it (SPEC 2.3). Assumes nothing.
use Rattle.std.specs.Prelude.{◌≡◌, List, ℕ, ◌<◌, length, get_or, Option, Some, None}
use Rattle.residue.specs.Size.{Size, Allowed}

-- SPEC 2.3: the house slope of p is allowed there, and no lesser slope is
pub record HouseSlope (p l : ℕ) : Type 0 where
  pub allowed : Allowed p l
  pub least : (j : ℕ) → j < l → Allowed p j → ⊥

-- SPEC 2.3: the k-th number of a list; past the end, 0
abbrev pub entry_at : List ℕ → ℕ → ℕ
entry_at t k = get_or t k 0

-- SPEC 2.3: an entry that is right: p is a size, and l its house slope
abbrev pub HouseEntry : ℕ → ℕ → Type 0
HouseEntry p l = Size p × HouseSlope p l

-- SPEC 2.3: the rule of a table, which is a list of sizes and a list of slopes: each size is right with the slope at its place, and what is
-- not among the sizes is no size
pub record HouseTable (sizes slopes : List ℕ) : Type 0 where
  pub each : (k : ℕ) → k < length sizes → HouseEntry (entry_at sizes k) (entry_at slopes k)
  pub every : (p : ℕ) → ((k : ℕ) → k < length sizes → entry_at sizes k ≡ p → ⊥) → Size p → ⊥

-- SPEC 2.3: what is told of p: its house slope where it is a size, and nothing where it is none
pub data SlopeTold (p : ℕ) : Option ℕ → Type 0 where
  no_size : (Size p → ⊥) → SlopeTold p None
  of_size : {l : ℕ} → Size p → HouseSlope p l → SlopeTold p (Some l)
