-- WHAT A READER MUST BELIEVE: the library's version (SPEC 11.4). Assumes nothing.
use Rattle.std.specs.Prelude.{ℕ, ◌+◌, ◌*◌}

-- SPEC 11.4: the version as one number, of its three parts; this is 0.8.0
abbrev pub version : ℕ
version = 10000 * 0 + 100 * 8 + 0
