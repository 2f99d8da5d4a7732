-- WHAT A READER MUST BELIEVE: the numbers of a record (SPEC 1.2). Assumes nothing.
use Rattle.std.specs.Prelude.{ℕ, ◌+◌, ◌*◌}

-- SPEC 1.2: a number of two bytes, the high one first
abbrev pub big_endian : ℕ → ℕ → ℕ
big_endian high low = high * 256 + low

-- SPEC 1.2: a number of four bytes, the high ones first
abbrev pub big_endian_long : ℕ → ℕ → ℕ → ℕ → ℕ
big_endian_long a b c d = big_endian (big_endian (big_endian a b) c) d
