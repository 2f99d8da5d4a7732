-- The bound on products that keeps the engine's numbers small. Assumes nothing.
use Rattle.std.specs.Prelude.{ℕ, ◌*◌, ◌≤◌}
use Rattle.std.proofs.Common.{mul-le-mul}

-- a product of two numbers that are at most the largest size
pub product : (a b : ℕ) → a ≤ 257 → b ≤ 257 → a * b ≤ 66049
product a b h k = mul-le-mul h k
