-- WHAT A READER MUST BELIEVE: what the answer of the call stands for (SPEC 6.3 and 6.4). Assumes nothing.
use Rattle.std.specs.Prelude.{ℕ, Result, Ok, Err}
use Rattle.size.specs.Refusal.{number_of}
use Rattle.sheet.specs.declared.Fault.{Fault}

-- SPEC 6.3 and 6.4: how many records there are; or the number of a refusal, and the offset that comes with it
pub data Said : Type 0 where
  corrected : ℕ → Said
  refused : ℕ → ℕ → Said

-- SPEC 6.3 and 6.4: what each answer of the call stands for
abbrev pub corrected_said : Result ℕ Fault → Said
corrected_said (Ok n) = corrected n
corrected_said (Err f) = refused (number_of f.refusal) f.at
