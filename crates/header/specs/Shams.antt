-- Wrong programs, each broken by a theorem: no such program meets its contract. Assumes nothing.
use Rattle.std.specs.Prelude.{◌≡◌, List, [], ◌∷◌, ℕ, Option, Some, None}
use Rattle.std.proofs.Common.{arith}
use Rattle.code.specs.declared.Line.{Line}
use Rattle.code.specs.declared.Kind.TheVariants as kind
use Rattle.code.specs.declared.Line.TheVariants.{Row}
use Rattle.flag.specs.Flag.{line_of, flag_of}
use Rattle.header.specs.Header.{kind_of, header_length, StartIs, flag_at, Carries}
use Rattle.header.specs.declared.Mark.{Mark}
use Rattle.header.specs.declared.Mark.TheVariants.{Plain, Flagged, Old}
use Rattle.header.specs.declared.Header.{Header}

-- a header of a new tile at p 5 and l 2, with a first flag and no second
abbrev flagged_by : Mark → Option Line → Header
flagged_by m f = record { mark = m; p = 5; l = 2; number = 0; first = f; second = None }

-- a flagged record whose tile begins where that of a plain one does
pub ten_for_flagged : 10 ≡ header_length Flagged → ⊥
ten_for_flagged e = omega arith

-- the mark of a flagged record taken for that of a plain one
pub flagged_as_plain : (more : List ℕ) → StartIs (0xD5 ∷ 0x5E ∷ more) 0 (Some Plain) → ⊥
flagged_as_plain more s = omega (arith, s.1)

-- a flagged record that is not known
pub flagged_unknown : (more : List ℕ) → StartIs (0xD5 ∷ 0x5E ∷ more) 0 None → ⊥
flagged_unknown more s = s Flagged (omega arith)

-- a plain record that carries a flag
pub flag_for_plain : Carries (flagged_by Plain (Some (Row 0))) → ⊥
flag_for_plain c = c.0

-- a flagged record that carries a line which its tile does not have: row 4 at p 5
pub line_past_tile : Carries (flagged_by Flagged (Some (Row 4))) → ⊥
line_past_tile c = omega (arith, c.0)

-- a second flag that is read where the first stands: none, behind row 0
pub second_flag_first : Some (Row 0) ≡ flag_at Flagged (0xD5 ∷ 0x5E ∷ 0 ∷ 5 ∷ 0 ∷ 2 ∷ 0 ∷ 0 ∷ 0 ∷ 0 ∷ 0 ∷ 0 ∷ 0xFF ∷ 0xFF ∷ []) 0 12 → ⊥
unfolding flag_of line_of
second_flag_first e = let z : ◌≡◌ {A = ℕ} 0 1 = cc in omega arith

-- an old tile taken for a new one
pub old_as_new : kind.New ≡ kind_of Old → ⊥
old_as_new e = let z : ◌≡◌ {A = ℕ} 0 1 = cc in omega arith
