-- Wrong programs, each broken by a theorem: no such program meets its contract. Assumes nothing.
use Rattle.std.specs.Prelude.{◌≡◌}
use Rattle.std.proofs.Common.{arith}
use Rattle.record.specs.Number.{big_endian, big_endian_long}

-- a number that is read with its low byte first: 01 00 as 1
pub low_first : big_endian 1 0 ≡ 1 → ⊥
low_first e = omega arith

-- a number of which the high byte counts too little: 01 00 as 255
pub counts_255 : big_endian 1 0 ≡ 255 → ⊥
counts_255 e = omega arith

-- a number of four bytes that is read with its low ones first: 00 01 00 00 as 1
pub halves_exchanged : big_endian_long 0 1 0 0 ≡ 1 → ⊥
halves_exchanged e = omega arith

-- one of which the high bytes count too little: 00 01 00 00 as 65535
pub long_counts_65535 : big_endian_long 0 1 0 0 ≡ 65535 → ⊥
long_counts_65535 e = omega arith
