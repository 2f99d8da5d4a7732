-- What most laws ask of a slope, whatever its powers reach, and the inverse slope, for which a turned tile is good. Assumes nothing.
use Rattle.std.specs.Prelude.{◌≡◌, ℕ, ◌+◌, ◌*◌, ◌%◌, ◌≤◌, ◌<◌}
use Rattle.std.proofs.Common.{arith}
use Rattle.residue.specs.Remainder.{below_pos}
use Rattle.residue.specs.Prime.{Prime, inverse}
use Rattle.residue.specs.Power.{inverse_between}
use Rattle.residue.specs.Size.{Size, Allowed}

-- p is prime, and l is from 2 to p-2
pub record Slope (p l : ℕ) : Type 0 where
  pub prime : Prime p
  pub low : 2 ≤ l
  pub high : l + 2 ≤ p

-- an allowed slope of a size is one
pub allowed_slope : (p l : ℕ) → Size p → Allowed p l → Slope p l
allowed_slope p l s a = record { prime = s.prime; low = a.low; high = a.high }

pub slope_pos : (p l : ℕ) → Slope p l → 0 < l % p
slope_pos p l s = below_pos p l (omega arith) (omega arith)

-- the inverse of a slope is a slope
pub inverse_slope : (p l m : ℕ) → Slope p l → m < p → l * m % p ≡ 1 → Slope p m
inverse_slope p l m s h e = let b = inverse_between p l m s.prime h e s.low s.high in record { prime = s.prime; low = b.0; high = b.1 }

-- and there is one
pub slope_inverse : (p l : ℕ) → Slope p l → (m : ℕ) × (l * m % p ≡ 1) × Slope p m
slope_inverse p l s = let t = inverse p l s.prime (slope_pos p l s) in (t.0, t.2, inverse_slope p l t.0 s t.1 t.2)
