-- What is asked of a tile that is walked, and what the arrays of its sums hold. Assumes nothing.
use Rattle.std.specs.Prelude.{◌≡◌, ◌≢◌, List, ℕ, ◌+◌, ◌%◌, ◌≤◌, ◌<◌, Option, MatchOption}
use Rattle.residue.specs.Prime.{Prime}
use Rattle.code.specs.Held.{held}
use Rattle.code.specs.Tile.{Cells, tile_length, sum}

-- a tile of n bytes, and a slope along which its lines are summed. The walk wants the slope's inverse, and so a prime p
pub record Shape (p s n : ℕ) : Type 0 where
  pub prime : Prime p
  pub high : p ≤ 257
  pub positive : 0 < s
  pub slope : s < p
  pub size : n ≡ tile_length p

-- A has the sums of the slope-s lines, and the array holds them
abbrev pub Summed : ℕ → ℕ → Cells → (ℕ → ℕ) → Type 0
Summed p s T A = (t : ℕ) → t < p → A t ≡ sum p s T t

abbrev pub Sums : ℕ → ℕ → Cells → List ℕ → Type 0
Sums p s T sums = Summed p s T (held sums)

-- r is the place a step of s after t
pub record Stepped (p t s r : ℕ) : Type 0 where
  pub is : r ≡ (t + s) % p
  pub lt : r < p

-- r is a place below p at which A is another byte than `common`, and before it A is that byte
pub record OtherAt (p common : ℕ) (A : ℕ → ℕ) (r : ℕ) : Type 0 where
  pub lt : r < p
  pub before : (t : ℕ) → t < r → A t ≡ common
  pub other : A r ≢ common

-- r is the first place below p at which A is another byte than `common`, if there is one
abbrev pub FirstOther : ℕ → ℕ → (ℕ → ℕ) → Option ℕ → Type 0
FirstOther p common A r = MatchOption r ((t : ℕ) → t < p → A t ≡ common) (OtherAt p common A)

-- all sums are one byte
pub record AllOne (p : ℕ) (A B : ℕ → ℕ) : Type 0 where
  pub first : (t : ℕ) → t < p → A t ≡ A 0
  pub second : (t : ℕ) → t < p → B t ≡ A 0
