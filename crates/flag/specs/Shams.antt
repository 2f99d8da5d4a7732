-- Wrong programs, each broken by a theorem: no such program meets its contract. Assumes nothing.
use Rattle.std.specs.Prelude.{◌≡◌, ℕ, Some, None}
use Rattle.std.proofs.Common.{arith}
use Rattle.code.specs.declared.Line.TheVariants.{Column}
use Rattle.flag.specs.Flag.{line_of, flag_of}

-- a flag that takes FFFF hex for a column
pub none_as_column : Some (Column 0x7FFF) ≡ flag_of 0xFFFF → ⊥
unfolding flag_of line_of
none_as_column e = let z : ◌≡◌ {A = ℕ} 0 1 = cc in omega arith

-- one that takes every number from 8000 hex on for none
pub column_as_none : None ≡ flag_of 0x8000 → ⊥
unfolding flag_of line_of
column_as_none e = let z : ◌≡◌ {A = ℕ} 0 1 = cc in omega arith
