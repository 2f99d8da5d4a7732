-- WHAT A READER MUST BELIEVE: which slopes each kind of tile takes (SPEC 2.5); and what follows at once. Assumes nothing.
use Rattle.std.specs.Prelude.{ℕ, ◌+◌, ◌≤◌}
use Rattle.residue.specs.Size.{Size, Allowed}
use Rattle.code.specs.Slope.{Slope}
use Rattle.code.specs.declared.Kind.{Kind}
use Rattle.code.specs.declared.Kind.TheVariants.{New, Old}

-- SPEC 2.5: a new tile takes the slopes that are allowed, an old one all from 2 to p-2
abbrev pub Takes : Kind → ℕ → ℕ → Type 0
Takes New p l = Allowed p l
Takes Old p l = (2 ≤ l) × (l + 2 ≤ p)

-- what either takes is a slope, of which most laws ask no more
pub taken_slope : (k : Kind) (p l : ℕ) → Size p → Takes k p l → Slope p l
taken_slope New p l s a = record { prime = s.prime; low = a.low; high = a.high }
taken_slope Old p l s t = record { prime = s.prime; low = t.0; high = t.1 }

-- and what is allowed is taken by either
pub allowed_taken : (k : Kind) (p l : ℕ) → Allowed p l → Takes k p l
allowed_taken New p l a = a
allowed_taken Old p l a = (a.low, a.high)
