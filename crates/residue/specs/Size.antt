-- WHAT A READER MUST BELIEVE: which sizes and slopes there are (SPEC 2.1 and 2.2). What a prime is, and what powers reach, is said in
-- `Prime` and `Power`. Assumes nothing.
use Rattle.std.specs.Prelude.{ℕ, ◌+◌, ◌≤◌}
use Rattle.residue.specs.Prime.{Prime}
use Rattle.residue.specs.Power.{ReachesAll}

-- SPEC 2.1: a size is a prime between 5 and 257, these two included
pub record Size (p : ℕ) : Type 0 where
  pub prime : Prime p
  pub low : 5 ≤ p
  pub high : p ≤ 257

-- SPEC 2.2: a slope is allowed at p if it lies between 2 and p-2, these two included, and its powers leave every remainder but 0
pub record Allowed (p l : ℕ) : Type 0 where
  pub low : 2 ≤ l
  pub high : l + 2 ≤ p
  pub reach : ReachesAll p l
