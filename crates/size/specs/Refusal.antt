-- WHAT A READER MUST BELIEVE: the number of each refusal (SPEC 9.1). Assumes nothing.
use Rattle.std.specs.Prelude.{ℕ}
use Rattle.size.specs.declared.Refusal.{Refusal}
use Rattle.size.specs.declared.Refusal.TheVariants.{BadSize, BadSlope, BadLength, BadPlace, Damaged, BadMark, CutShort, Doubtful, TooSmall, NotGood, DiffersElsewhere}

-- SPEC 9.1: each refusal by its name, and its number for no
abbrev pub number_of : Refusal → ℕ
number_of BadSize = 1
number_of BadSlope = 2
number_of BadLength = 3
number_of BadPlace = 4
number_of Damaged = 5
number_of BadMark = 6
number_of CutShort = 7
number_of Doubtful = 8
number_of TooSmall = 9
number_of NotGood = 10
number_of DiffersElsewhere = 11
