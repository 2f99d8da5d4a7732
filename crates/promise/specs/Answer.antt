-- WHAT A READER MUST BELIEVE: what the answers of the tile calls stand for, case by case (SPEC 5 and 7.6). Assumes nothing.
use Rattle.std.specs.Prelude.{ℕ, Result, Ok, Err}
use Rattle.size.specs.Refusal.{number_of}
use Rattle.size.specs.declared.Refusal.{Refusal}
use Rattle.promise.specs.declared.Repaired.{Repaired}
use Rattle.promise.specs.declared.Repaired.TheVariants as repair
use Rattle.promise.specs.declared.Restored.{Restored}
use Rattle.promise.specs.declared.Restored.TheVariants as restore

-- SPEC 5, 5.3, 5.5, 5.6 and 5.7: done, of write, read and fill, and of judge that it accepts; clean, a cell by its row and its column, a
-- column or a row, of repair, inspect and recover; and of all seven the number of a refusal
pub data Said : Type 0 where
  done : Said
  clean : Said
  cell : ℕ → ℕ → Said
  column : ℕ → Said
  row : ℕ → Said
  refused : ℕ → Said

-- SPEC 5: what each answer of write, read, fill and judge stands for
abbrev pub outcome_said : Result Unit Refusal → Said
outcome_said (Ok unit) = done
outcome_said (Err r) = refused (number_of r)

-- SPEC 5.3: what was found, and each answer of repair, inspect and recover
abbrev pub repaired_said : Repaired → Said
repaired_said repair.Clean = clean
repaired_said (repair.Cell r c) = cell r c
repaired_said (repair.Column c) = column c
repaired_said (repair.Row r) = row r

abbrev pub repair_said : Result Repaired Refusal → Said
repair_said (Ok found) = repaired_said found
repair_said (Err r) = refused (number_of r)

-- SPEC 7.6: what each answer of restoring a tile stands for; filled is what fill says when it is done
abbrev pub restore_said : Result Restored Refusal → Said
restore_said (Ok (restore.Repaired found)) = repaired_said found
restore_said (Ok restore.Filled) = done
restore_said (Err r) = refused (number_of r)
