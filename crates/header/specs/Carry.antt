-- A record may carry its flags, or it may not. Assumes nothing.
use Rattle.std.specs.Prelude.{ℕ, ◌+◌, Option, Some, None}
use Rattle.std.proofs.Math.Decide.{dec_le}
use Rattle.code.specs.declared.Line.{Line}
use Rattle.code.specs.OneLine.{number}
use Rattle.header.specs.Header.{Carried, Carries}
use Rattle.header.specs.declared.Mark.{Mark}
use Rattle.header.specs.declared.Mark.TheVariants.{Plain, Flagged, Old}
use Rattle.header.specs.declared.Header.{Header}

-- two things hold both, or do not
pub both_or_not : {A B : Type 0} → Dec A → Dec B → Dec (A × B)
both_or_not (yes a) (yes b) = yes (a, b)
both_or_not (yes a) (no b) = no (λ m. b m.1)
both_or_not (no a) b = no (λ m. a m.0)

-- none is always carried, and a line in a flagged record alone, if the tile has it
carried_or_not : (m : Mark) (p : ℕ) (f : Option Line) → Dec (Carried m p f)
carried_or_not m p None = yes tt
carried_or_not Plain p (Some a) = no (λ c. c)
carried_or_not Flagged p (Some a) = dec_le (number a + 2) p
carried_or_not Old p (Some a) = no (λ c. c)

-- so it is known of both flags
pub carries_or_not : (h : Header) → Dec (Carries h)
carries_or_not h = both_or_not (carried_or_not h.mark h.p h.first) (carried_or_not h.mark h.p h.second)
