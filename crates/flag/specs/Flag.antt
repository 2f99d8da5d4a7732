-- WHAT A READER MUST BELIEVE: the line and the flag that a number stands for, and the number of a flag (SPEC 3.5). Assumes nothing.
use Rattle.std.specs.Prelude.{cond, ℕ, ◌+◌, ◌-◌, ◌<◌, eqb, ltb, Option, Some, None}
use Rattle.code.specs.OneLine.{number}
use Rattle.code.specs.declared.Line.{Line}
use Rattle.code.specs.declared.Line.TheVariants.{Row, Column}

-- SPEC 3.5: a number below 8000 hex names the row with that number, and any other the column that is 8000 hex less
unfoldable pub line_of : ℕ → Line
line_of n = cond (ltb n 0x8000) (Row n) (Column (n - 0x8000))

-- SPEC 3.5: FFFF hex is a flag for no line, and any other number for the line that it names
unfoldable pub flag_of : ℕ → Option Line
flag_of n = cond (eqb n 0xFFFF) None (Some (line_of n))

-- SPEC 3.5: the number of a flag
abbrev pub flag_number : Option Line → ℕ
flag_number None = 0xFFFF
flag_number (Some (Row r)) = r
flag_number (Some (Column c)) = 0x8000 + c

-- SPEC 3.5: a flag whose number fits two bytes, and is that of no other: its line, if it has one, is one of the first 7FFF hex
abbrev pub Short : Option Line → Type 0
Short None = Unit {0}
Short (Some a) = number a < 0x7FFF
