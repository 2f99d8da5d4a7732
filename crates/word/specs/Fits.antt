-- An answer whose numbers fit into their 16 bits of a word; a refusal's number does. Assumes nothing.
use Rattle.std.specs.Prelude.{◌<◌}
use Rattle.std.proofs.Common.{arith}
use Rattle.size.specs.Refusal.{number_of}
use Rattle.size.specs.declared.Refusal.{Refusal}
use Rattle.size.specs.declared.Refusal.TheVariants.{BadSize, BadSlope, BadLength, BadPlace, Damaged, BadMark, CutShort, Doubtful, TooSmall, NotGood, DiffersElsewhere}
use Rattle.word.specs.Word.{Answer, answer}

-- an answer's numbers are below 2¹⁶
abbrev pub Fits : Answer → Type 0
Fits (answer kind first second) = (first < 0x10000) × (second < 0x10000)

-- the numbers for no are below 12
pub number_fits : (r : Refusal) → number_of r < 0x10000
number_fits BadSize = omega arith
number_fits BadSlope = omega arith
number_fits BadLength = omega arith
number_fits BadPlace = omega arith
number_fits Damaged = omega arith
number_fits BadMark = omega arith
number_fits CutShort = omega arith
number_fits Doubtful = omega arith
number_fits TooSmall = omega arith
number_fits NotGood = omega arith
number_fits DiffersElsewhere = omega arith
