-- The exit statuses and their numbers (SPEC 12.5). Assumes nothing.
use Rattle.std.specs.Prelude.{◌≡◌, refl, pos}
use Rattle.std.proofs.Common.{arith}
use Rattle.show.specs.Status.{code}
use Rattle.show.specs.declared.status.Status.{Status}
use Rattle.show.specs.declared.status.Status.TheVariants.{Well, Wrong, Failed}
use Rattle.files.specs.Exit.{Exit}

-- every status has the number of one, ..
pub exits : (s : Status) → Exit (code s)
exits Well = omega arith
exits Wrong = omega arith
exits Failed = omega arith

-- .. no two have the same, ..
pub code_once : (a b : Status) → code a ≡ code b → a ≡ b
code_once Well Well e = refl
code_once Well Wrong e = cc
code_once Well Failed e = cc
code_once Wrong Well e = cc
code_once Wrong Wrong e = refl
code_once Wrong Failed e = cc
code_once Failed Well e = cc
code_once Failed Wrong e = cc
code_once Failed Failed e = refl

-- .. and whatever was told ends with 2
pub failed_is_2 : code Failed ≡ pos 2
failed_is_2 = refl
