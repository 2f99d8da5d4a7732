-- WHAT A READER MUST BELIEVE: what an exit status may be (SPEC 12.5). Assumes nothing.
use Rattle.std.specs.Prelude.{◌≤◌, ℤ, pos, negsuc}

-- SPEC 12.5: 0, 1 or 2
abbrev pub Exit : ℤ → Type 0
Exit (pos n) = n ≤ 2
Exit (negsuc n) = ⊥
