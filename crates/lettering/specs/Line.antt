-- WHAT A READER MUST BELIEVE: the lines of a listing, byte by byte (SPEC 8.1). Assumes nothing.
use Rattle.std.specs.Prelude.{true, false, List, [], ◌∷◌, ◌++◌, ℕ, zero, suc, ◌+◌, ◌/◌, ◌%◌, ltb}
use Prim.Native.Char.{code}
use Prim.Native.String.{String}
use Prim.Native.String as string
use Rattle.promise.specs.Answer.{Said, done, clean, cell, column, row, refused}

-- ---- words and numbers

-- SPEC 8.1: words as bytes: the code of each sign, which for these signs is its code in ASCII
abbrev pub ascii : String → List ℕ
ascii string.[] = []
ascii (string.◌∷◌ sign rest) = code sign ∷ ascii rest

-- SPEC 8.1: the digit d, which is below 10
abbrev pub digit : ℕ → ℕ
digit d = code "0" + d

-- SPEC 8.1: a number in decimal: below 10 it is one digit, and any other is n / 10 and behind it the last digit, n % 10. The first argument
-- says how many digits may stand behind the first; n itself is enough, since each time what is left is smaller
unfoldable pub digits_up_to : ℕ → ℕ → List ℕ
digits_up_to zero n = digit n ∷ []
digits_up_to (suc more) n = elim (ltb n 10) [ true ↦ digit n ∷ [] | false ↦ digits_up_to more (n / 10) ++ (digit (n % 10) ∷ []) ]

unfoldable pub decimal : ℕ → List ℕ
decimal n = digits_up_to n n

-- ---- the lines

-- SPEC 8.1: what stands between two fields of a line, and what ends it
abbrev pub space : List ℕ
space = ascii " "

abbrev pub lf : List ℕ
lf = ascii "\n"

-- SPEC 8.1: the last fields of a tile's line, by what comes of restoring it (7.6). `done` is what fill says
unfoldable pub state_text : Said → List ℕ
state_text done = ascii "filled"
state_text clean = ascii "clean"
state_text (cell r c) = ascii "cell" ++ space ++ decimal r ++ space ++ decimal c
state_text (column c) = ascii "column" ++ space ++ decimal c
state_text (row r) = ascii "row" ++ space ++ decimal r
state_text (refused n) = ascii "refused" ++ space ++ decimal n

-- SPEC 8.1: the line of a tile: its number, its size, its slope, and what comes of restoring it
unfoldable pub tile_line : ℕ → ℕ → ℕ → Said → List ℕ
tile_line number p l said = decimal number ++ space ++ decimal p ++ space ++ decimal l ++ space ++ state_text said ++ lf

-- SPEC 8.1: the line that closes a walk which came to the end: how many tiles were listed
unfoldable pub end_line : ℕ → List ℕ
end_line count = ascii "end" ++ space ++ decimal count ++ lf

-- SPEC 8.1: the line that closes a walk which came to a refusal: its number and its offset
unfoldable pub stopped_line : ℕ → ℕ → List ℕ
stopped_line n offset = ascii "stopped" ++ space ++ decimal n ++ space ++ decimal offset ++ lf
